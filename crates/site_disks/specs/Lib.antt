pub mod SiteDisks
pub mod Told
pub mod Stretches
pub mod Following
