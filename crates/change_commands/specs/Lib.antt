pub mod ChangedLines
pub mod Changes
pub mod ShortParts
pub mod WantedMoves
pub mod SeenLinks
pub mod Steps
