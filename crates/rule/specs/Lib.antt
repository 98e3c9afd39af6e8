pub mod Rule
pub mod Lines
pub mod Brackets
pub mod Counting
pub mod Matching
