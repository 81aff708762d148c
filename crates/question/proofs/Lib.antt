pub mod Asking
pub mod Retesting
