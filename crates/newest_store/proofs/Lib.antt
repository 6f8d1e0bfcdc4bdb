pub mod NewestLemmas
pub mod SearchLemmas
pub mod ClearingLemmas
pub mod ChoiceLemmas
