pub mod Line
pub mod OneLine
