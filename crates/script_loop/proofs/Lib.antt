pub mod EndsLemmas
mod FaultsLemmas
mod HaltsLemmas
mod LinesLemmas
mod ProgressLemmas
pub mod RefinesLemmas
mod RunLemmas
pub mod StatusLemmas
