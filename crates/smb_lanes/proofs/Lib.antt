pub mod Choice
pub mod Rotations
pub mod Fours
pub mod Blocks
pub mod Runs
