pub mod Ends
pub mod Restarts
