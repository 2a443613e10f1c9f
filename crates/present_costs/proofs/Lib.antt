mod Examples
pub mod FaultsBeside
pub mod NotedLaws
pub mod VariableLaws
pub mod CheapestWith
pub mod ByLinks
pub mod PositiveCosts
