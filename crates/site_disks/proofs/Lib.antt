pub mod StretchesLemmas
pub mod FollowingLemmas
