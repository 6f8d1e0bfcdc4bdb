pub mod Newest
pub mod NewestOpened
pub mod Search
pub mod Clearing
pub mod Choice
