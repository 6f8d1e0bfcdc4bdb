pub mod Answered
pub mod AnswersAllow
pub mod Run
