pub mod DigitLemmas
pub mod FieldLemmas
pub mod LeavesLemmas
pub mod NumberLemmas
pub mod ReadingLemmas
pub mod ScanLemmas
