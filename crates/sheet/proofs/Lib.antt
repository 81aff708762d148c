mod Ends
mod Stores
mod Appending
