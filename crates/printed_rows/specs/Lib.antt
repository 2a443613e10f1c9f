pub mod FittingTexts
pub mod NamedRows
pub mod NewNumbers
pub mod PrintedCosts
pub mod PrintedTrees
pub mod Sheets
