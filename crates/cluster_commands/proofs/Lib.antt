mod AskLemmas
mod CallLemmas
mod CommandLemmas
mod EventLemmas
pub mod FilesLemmas
mod FoundLemmas
mod KnownLemmas
mod MadeLemmas
mod OpeningLemmas
mod RecoverLemmas
mod RenewLemmas
mod StoredLemmas
