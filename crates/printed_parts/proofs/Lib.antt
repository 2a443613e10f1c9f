pub mod TextParts
pub mod NamedCosts
