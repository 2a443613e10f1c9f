pub mod Begun
pub mod BegunLines
