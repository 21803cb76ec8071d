pub mod Rule
pub mod Sweep
pub mod Chase
pub mod Look
