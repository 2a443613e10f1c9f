pub mod ReportLaws
pub mod Rejections
pub mod Writing
pub mod Cuts
