pub mod Told
pub mod Blocks
pub mod Settled
pub mod Filling
pub mod Stretches
