pub mod ItemLemmas
pub mod BatchLemmas
pub mod BuiltLemmas
pub mod RecordLemmas
mod BuildLemmas
