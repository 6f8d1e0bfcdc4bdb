pub mod ContentsLemmas
pub mod TextLemmas
pub mod TextOnce
pub mod StandsLemmas
pub mod FaultLemmas
pub mod IdentityLemmas
pub mod ReadLemmas
pub mod RecordLemmas
pub mod LoadLemmas
pub mod CreatedLemmas
mod AppendLemmas
mod CreateLemmas
