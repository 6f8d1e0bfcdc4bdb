mod EndLemmas
mod MachineLemmas
mod SiteLemmas
