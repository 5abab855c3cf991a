pub mod Leaving
pub mod Recovered
