pub mod Lists
pub mod Kept
pub mod Outcome
pub mod Striking
pub mod Lawfully
