-- What the code is proved by and no public contract cites.
pub mod Form
pub mod Words
pub mod Aux
pub mod Nodes
pub mod Nets
pub mod Weights
pub mod Places
pub mod Rows
pub mod Schedule
pub mod Progress
pub mod SoFar
pub mod NetsSoFar
pub mod RowProgress
