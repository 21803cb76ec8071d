mod JoiningFresh
mod JoiningNets
mod JoiningPins
mod JoiningSteps
mod MakingEntries
mod MakingNets
mod MakingNetwork
mod MakingOrder
mod MakingPoints
mod MakingStars
mod MakingWell
mod MergingRuns
mod MergingSums
mod Movable
mod NetPairs
mod OneNetwork
mod PairCounts
mod Ranges
mod StarNets
mod StarWeights
mod StarringNets
mod StarringPoints
mod Unanchored
pub mod CliqueMarks
pub mod CliqueNodes
pub mod CountingTerms
