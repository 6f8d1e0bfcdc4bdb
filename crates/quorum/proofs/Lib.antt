pub mod BestLemmas
pub mod JudgedLemmas
pub mod CheckLemmas
pub mod Rows
