pub mod Joining
mod Cancelling
