mod Joins
pub mod Sweeping
pub mod Doubling
pub mod Shifts
