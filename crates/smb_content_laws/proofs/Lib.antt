pub mod OthersLocks
pub mod Taken
pub mod Granted
pub mod ThroughOpens
pub mod Beside
pub mod Quiet
pub mod Parts
pub mod ReadAgain
pub mod Spaces
pub mod Within
pub mod Rows
pub mod May
pub mod GoodSteps
pub mod InRange
mod ExampleStore
mod ExampleLocks
mod WrongLocks
mod WrongUnlocks
mod WrongBeside
mod WrongBytes
mod WrongSpace
mod WrongRows
mod WrongStores
