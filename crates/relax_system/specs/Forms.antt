pub mod Narrow
pub mod Flat
pub mod Way
