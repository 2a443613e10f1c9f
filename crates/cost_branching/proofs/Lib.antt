pub mod NewForms
pub mod Asked
pub mod Caps
pub mod Advising
