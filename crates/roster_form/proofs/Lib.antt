pub mod ContainsLemmas
pub mod NamesLemmas
pub mod RosterTextLemmas
pub mod ShownLemmas
pub mod PassLemmas
pub mod SuccessionLemmas
