pub mod HeadLines
pub mod OtherTexts
pub mod SaidCosts
pub mod UnreadLines
pub mod WrittenTexts
