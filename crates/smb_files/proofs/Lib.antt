pub mod Gets
pub mod Equations
pub mod Removal
pub mod Moved
pub mod Goods
pub mod Told
mod ExampleContent
mod WrongChanges
