pub mod Commas
pub mod Appended
pub mod Lined
pub mod Wired
pub mod Written
