pub mod Handing
mod Calling
mod Asking
mod Steps
mod Running
mod Lawful
