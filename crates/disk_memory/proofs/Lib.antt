pub mod LaidLemmas
pub mod ReplayLemmas
pub mod MemoryViewLemmas
pub mod LoggedLemmas
pub mod MirroredLemmas
pub mod HistoryLemmas
