pub mod Numbers
pub mod Differing
