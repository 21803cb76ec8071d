pub mod Lines
pub mod Whole
pub mod Decimal
pub mod Coordinates
pub mod Walk
pub mod Forms
