pub mod Totals
pub mod Bounded
pub mod BoundedLaws
pub mod Moving
pub mod Rounds
pub mod Printing
pub mod Given
pub mod Results
