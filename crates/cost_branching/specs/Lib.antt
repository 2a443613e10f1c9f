pub mod Pools
pub mod Decisions
pub mod AdvisorsAsked
pub mod PossibleForms
pub mod Rivals
pub mod Asking
pub mod SourceLaws
