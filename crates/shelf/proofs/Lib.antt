pub mod Copies
mod Rings
mod Frames
mod Yielding
