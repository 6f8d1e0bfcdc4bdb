mod Members
mod Items
mod Floats
mod OneLineLemmas
