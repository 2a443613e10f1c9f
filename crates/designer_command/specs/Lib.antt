pub mod Usage
pub mod Runs
pub mod AdvisorsAsked
pub mod Completeness
