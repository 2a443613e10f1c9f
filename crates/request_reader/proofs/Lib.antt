mod ReadingExamples
pub mod ReadingLaws
pub mod ReadingRoutes
pub mod ReadingRules
pub mod ReadingPaths
pub mod AskedRules
