pub mod Script
pub mod Reading
pub mod Show
