pub mod System
pub mod Means
pub mod Extremal
pub mod Exact
pub mod Sides
pub mod Rounding
pub mod Halved
pub mod Forms
