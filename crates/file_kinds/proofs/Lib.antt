pub mod KindLemmas
pub mod SurviveLemmas
