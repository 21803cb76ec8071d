pub mod Over
pub mod Cells
pub mod Inputs
pub mod Saying
pub mod Stops
pub mod Sources
pub mod Gathering
pub mod Schedules
