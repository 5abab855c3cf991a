pub mod Frames
pub mod Rests
pub mod Streams
pub mod Bounds
pub mod Heads
pub mod Lacking
