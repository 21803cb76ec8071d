pub mod Tiers
pub mod Marks
pub mod Sweep
