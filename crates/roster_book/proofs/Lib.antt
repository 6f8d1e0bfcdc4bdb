pub mod ReadingLemmas
pub mod RostersLemmas
pub mod StandingLemmas
pub mod WritingLemmas
pub mod OverLemmas
