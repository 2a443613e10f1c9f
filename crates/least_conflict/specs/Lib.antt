pub mod Conflicts
pub mod AdvisorsAsked
pub mod Deciding
pub mod Laws
