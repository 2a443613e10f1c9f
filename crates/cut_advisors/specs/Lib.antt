pub mod Choosing
pub mod Widths
