pub mod Event
pub mod Ending
pub mod Record
pub mod Observed
pub mod ObservedList
pub mod Clock
pub mod Peers
pub mod Filetime
