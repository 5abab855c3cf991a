pub mod Requests
pub mod Runs
pub mod Responses
pub mod Unsigned
