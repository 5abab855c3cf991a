pub mod Held
pub mod Faults
pub mod Codes
pub mod Views
