pub mod Sources
pub mod Calls
pub mod Finds
pub mod AdvisorsAsked
pub mod Points
pub mod Tables
pub mod NextEntries
