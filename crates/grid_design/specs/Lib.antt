pub mod Asked
pub mod Parts
pub mod Weights
pub mod Texts
pub mod Forms
