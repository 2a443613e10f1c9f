pub mod Asking
pub mod DesignedLaws
pub mod DesignRuns
mod Examples
pub mod Making
pub mod MadeNames
pub mod Trials
pub mod TotalRuns
