pub mod Refusals
pub mod Rows
pub mod Refused
