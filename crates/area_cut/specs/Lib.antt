pub mod Regions
pub mod Cut
pub mod Order
pub mod Forms
