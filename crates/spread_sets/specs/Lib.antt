pub mod Spreads
pub mod Answers
pub mod Laws
pub mod MemberSets
pub mod Sources
pub mod SetAskers
pub mod Asking
pub mod SourceLaws
