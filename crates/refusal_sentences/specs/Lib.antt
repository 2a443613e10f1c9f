pub mod Meanings
pub mod Pieces
pub mod Sentences
