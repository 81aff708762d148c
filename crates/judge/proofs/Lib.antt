pub mod Properly
pub mod Seeing
pub mod Serving
pub mod Weighing
