pub mod MemberLaws
pub mod SetLaws
pub mod FileLaws
