pub mod Texts
pub mod Rows
pub mod Answers
pub mod Kinds
pub mod Fits
pub mod Frames
pub mod Layout
pub mod Order
