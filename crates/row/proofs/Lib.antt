pub mod Orders
mod Lists
