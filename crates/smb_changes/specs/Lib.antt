pub mod Batches
pub mod Crash
pub mod Shown
pub mod Chains
pub mod Exact
pub mod Open
