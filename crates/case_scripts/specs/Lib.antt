pub mod Words
pub mod Escapes
pub mod ScriptTexts
pub mod WrittenWords
