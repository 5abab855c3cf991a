pub mod Patterns
pub mod PatternRows
pub mod PatternLaws
pub mod Bits
pub mod PatternOrders
