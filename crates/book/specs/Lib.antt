pub mod Citing
pub mod States
pub mod Grounds
pub mod Steps
pub mod Models
pub mod Made
pub mod Sound
