pub mod Locks
pub mod SetInfo
pub mod Rename
pub mod Ways
pub mod Parts
