pub mod Extents
pub mod Sums
