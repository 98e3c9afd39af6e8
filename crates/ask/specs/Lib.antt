pub mod Told
