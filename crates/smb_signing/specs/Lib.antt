pub mod Signature
pub mod Pieces
