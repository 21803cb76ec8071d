pub mod Joining
pub mod Stars
pub mod Steps
