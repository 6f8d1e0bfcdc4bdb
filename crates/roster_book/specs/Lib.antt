pub mod Places
pub mod Reading
pub mod Standing
pub mod Writing
pub mod Rosters
