pub mod Checks
pub mod Rewrites
