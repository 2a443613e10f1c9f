pub mod AdvisorsAsked
pub mod Designs
pub mod Trials
pub mod TotalRuns
pub mod Made
