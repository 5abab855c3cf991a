pub mod Blocks
pub mod Equal
pub mod Signed
pub mod Together
