pub mod Best
pub mod Judged
