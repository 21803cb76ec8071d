pub mod Projection
pub mod Solved
