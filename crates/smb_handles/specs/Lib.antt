pub mod Groups
pub mod Uses
pub mod Table
