pub mod Crew
pub mod Forms
