pub mod TableLines
pub mod Entries
pub mod Turns
pub mod Sums
pub mod Marks
