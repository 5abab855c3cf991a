pub mod RowLemmas
pub mod Fails
