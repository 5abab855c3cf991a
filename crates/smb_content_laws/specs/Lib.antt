pub mod Locking
pub mod Reading
pub mod Space
pub mod Successes
pub mod GoodStores
pub mod Example
