pub mod Writes
pub mod Settings
pub mod Under
pub mod Looks
pub mod Renaming
