pub mod Views
pub mod Verdicts
pub mod Weighing
pub mod Laws
pub mod Trials
