pub mod DiskCall
pub mod Replay
pub mod MemoryView
pub mod Logged
pub mod Mirrored
pub mod Restarts
pub mod History
