pub mod Grammar
pub mod Lawful
pub mod Places
pub mod Going
pub mod Words
pub mod Fronts
