pub mod Stretches
pub mod Places
pub mod Fills
