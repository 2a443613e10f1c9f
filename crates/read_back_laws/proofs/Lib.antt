pub mod PresentCosts
pub mod PrintedText
pub mod PrintedSections
pub mod LineRuns
pub mod ReadBackLaws
pub mod QuietLines
