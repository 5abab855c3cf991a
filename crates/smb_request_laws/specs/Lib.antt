pub mod Acting
pub mod Doing
pub mod Responses
pub mod Serving
pub mod Admission
pub mod Credits
pub mod Scans
