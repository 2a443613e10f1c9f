pub mod SpreadSets
pub mod FaultNumbers
pub mod SetLines
pub mod Reading
pub mod ReadingSteps
