pub mod Texts
pub mod Rejections
pub mod Reports
pub mod Cutting
