mod Signed
mod Turned
pub mod Under
pub mod Answered
pub mod Done
mod Changed
mod Described
mod HandedOn
mod Joined
mod Names
mod Kept
mod Nobody
mod LetIn
mod Admitted
mod Served
mod Granted
pub mod Example
mod Altered
mod NextChild
mod ComingOnce
mod ListedOnce
mod WrongActing
mod WrongDoing
mod WrongResponses
mod WrongAdmission
mod WrongServing
mod WrongCredits
mod WrongScans
