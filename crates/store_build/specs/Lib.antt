pub mod Batches
pub mod Built
pub mod Next
pub mod OwnMemory
