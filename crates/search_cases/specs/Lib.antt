pub mod SmallForms
pub mod SourceLaws
