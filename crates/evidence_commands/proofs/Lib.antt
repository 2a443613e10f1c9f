pub mod Judged
pub mod Revisions
pub mod OwnLines
pub mod FewLines
