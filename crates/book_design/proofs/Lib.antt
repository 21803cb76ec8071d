pub mod Ranks
pub mod Looking
pub mod Building
pub mod Placing
pub mod Netting
pub mod Rowing
mod OverlapPlaces
mod OverlapAreas
pub mod OverlapBands
pub mod OverlapWalk
pub mod OverlapRun
pub mod RowsSums
pub mod RowsLaid
pub mod RowsApart
pub mod RowsEven
pub mod AssemblyPoints
pub mod AssemblyCore
pub mod AssemblyStrips
pub mod AssemblyNodes
pub mod AssemblyDesign
pub mod Counting
pub mod ValuesWithin
pub mod ValuesEnds
pub mod Deciding
pub mod SomeJoin
pub mod OneJoin
