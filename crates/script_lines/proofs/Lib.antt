pub mod AskedLemmas
pub mod EventLemmas
pub mod FormLemmas
pub mod PairLemmas
pub mod ReadingLemmas
pub mod ShapeLemmas
