pub mod Numbering
pub mod Shifts
pub mod Delays
pub mod Tries
