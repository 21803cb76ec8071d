mod Running
mod Spans
pub mod Comparing
pub mod Meeting
mod Tiering
mod Marking
mod Sweeping
mod Clearing
mod Bounding
