pub mod Lines
pub mod Login
