pub mod Taking
pub mod Making
pub mod Ending
pub mod Whole
pub mod Joining
