pub mod Lanes
pub mod Sources
pub mod Hashes
