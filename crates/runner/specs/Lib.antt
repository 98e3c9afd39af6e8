pub mod State
pub mod Requests
pub mod Said
pub mod Commands
pub mod Lines
pub mod View
pub mod Answering
