pub mod OwnStatuses
pub mod Runs
pub mod Asking
pub mod LargeBudgets
pub mod CompletenessLaws
pub mod FurtherCommands
pub mod ChangeCommands
pub mod LiveCommands
