pub mod Begun
pub mod Checked
pub mod Filled
pub mod Left
pub mod Grown
