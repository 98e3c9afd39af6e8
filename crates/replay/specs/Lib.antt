pub mod OneOf
pub mod Handed
pub mod Calls
pub mod Replays
