pub mod Actions
pub mod MemoryRuns
pub mod Written
pub mod OpenFiles
pub mod Locks
pub mod Answers
pub mod Rules
