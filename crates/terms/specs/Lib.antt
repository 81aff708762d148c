pub mod Refusals
pub mod Answers
pub mod Among
pub mod Words
pub mod Lines
pub mod Showing
pub mod LineOrderLaws
