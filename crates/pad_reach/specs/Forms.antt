pub mod InNeighbours
pub mod Search
