pub mod Turns
pub mod Search
pub mod Choices
pub mod Lanes
pub mod Settled
pub mod Rows
