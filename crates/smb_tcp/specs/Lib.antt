pub mod Numbers
pub mod Networks
pub mod LoginDelays
