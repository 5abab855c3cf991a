pub mod Numbers
pub mod Building
