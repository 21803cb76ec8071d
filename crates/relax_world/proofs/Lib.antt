pub mod Sounds
pub mod Schedules
pub mod Replays
