pub mod Answered
pub mod AdvisorsAsked
pub mod Caps
pub mod Printing
