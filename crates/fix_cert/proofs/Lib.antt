pub mod Residuals
pub mod Mosts
pub mod Verdicts
pub mod Places
