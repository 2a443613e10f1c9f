pub mod Audits
pub mod Conflicts
pub mod LinkEdges
pub mod LiveAudits
pub mod SetFiles
pub mod Spreads
pub mod SpreadsMade
