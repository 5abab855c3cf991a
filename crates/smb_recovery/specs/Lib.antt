pub mod Source
pub mod Recovering
pub mod Steps
