pub mod Unmarked
pub mod Left
