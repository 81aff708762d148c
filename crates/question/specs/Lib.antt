pub mod Blanks
pub mod Asked
pub mod Retests
pub mod Trials
