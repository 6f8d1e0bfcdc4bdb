pub mod Ends
pub mod Sites
