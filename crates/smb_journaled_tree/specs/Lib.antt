pub mod Journal
pub mod Written
pub mod Slots
pub mod Kept
pub mod Room
pub mod Renewal
