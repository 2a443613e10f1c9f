pub mod Jobs
pub mod Commands
pub mod Forms
