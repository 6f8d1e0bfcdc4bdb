pub mod Breaks
pub mod Commands
pub mod Events
pub mod OnDisk
pub mod Refusals
pub mod State
