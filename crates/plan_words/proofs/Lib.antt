mod NumberLemmas
mod OptionLemmas
mod WordsLemmas
