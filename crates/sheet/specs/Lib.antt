pub mod Entries
pub mod Sheets
pub mod Grounds
pub mod Labels
pub mod Calls
