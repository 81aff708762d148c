pub mod Spelling
pub mod Letters
pub mod Order
pub mod Numbered
pub mod Texts
pub mod Entering
pub mod Kept
pub mod Lexical
