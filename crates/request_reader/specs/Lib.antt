pub mod WrittenRoutes
pub mod Asked
pub mod Routes
pub mod FaultNumbers
pub mod ReadingLines
pub mod Reading
pub mod ReadingSteps
