-- The pure theory of pivots, over whole numbers: mixtures, columns, corners, and what a pivot makes of them.
pub mod Pivot
pub mod Lex
pub mod Points
pub mod Corner
pub mod Rise
pub mod Height
pub mod Turns
pub mod TurnedNumbers
pub mod TurnedLeads
pub mod Blends
pub mod Resolved
pub mod Zips
pub mod Tables
pub mod MovedNumbers
pub mod Units
