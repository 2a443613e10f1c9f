pub mod LeastCosts
pub mod WaitingLemmas
pub mod SearchLemmas
pub mod TightPaths
