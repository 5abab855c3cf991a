pub mod Faults
pub mod Headers
pub mod Chains
pub mod Replies
pub mod Placed
pub mod Parts
pub mod Sealed
