pub mod Order
pub mod Search
pub mod Placing
pub mod Rows
pub mod Numbers
