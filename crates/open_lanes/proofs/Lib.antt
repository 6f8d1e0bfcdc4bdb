pub mod PlacesLemmas
pub mod WayLemmas
pub mod FirstLemmas
pub mod LoadedLemmas
pub mod MadeLemmas
