pub mod CauseLemmas
pub mod GrownLemmas
pub mod KeptLemmas
