pub mod Asked
pub mod Rounds
pub mod LevelSystem
pub mod Levels
pub mod Forms
