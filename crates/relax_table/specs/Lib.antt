pub mod Ways
pub mod Step
pub mod Seats
pub mod Floor
pub mod Ceil
pub mod Forms
