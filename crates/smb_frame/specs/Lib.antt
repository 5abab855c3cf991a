pub mod Framed
pub mod Reading
pub mod Unread
pub mod Parts
