pub mod State
pub mod Bytes
