pub mod Ruled
pub mod Rising
pub mod Known
pub mod Labelled
pub mod Lookup
pub mod Following
pub mod Passing
