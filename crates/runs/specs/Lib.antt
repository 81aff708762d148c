pub mod Lists
pub mod Histories
pub mod Contents
pub mod Laws
pub mod Calls
