pub mod Kinds
pub mod Freeing
pub mod Order
