pub mod ContentsLemmas
pub mod EntriesLemmas
pub mod GrowthLemmas
pub mod ListLemmas
mod PairsLemmas
pub mod PartsLemmas
mod PlainListLemmas
pub mod ShownLemmas
pub mod SizeLemmas
pub mod StepLemmas
pub mod SameLemmas
