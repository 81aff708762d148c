pub mod Orders
pub mod Searching
pub mod Knowing
pub mod Looking
pub mod Meaning
pub mod Following
pub mod Strongest
