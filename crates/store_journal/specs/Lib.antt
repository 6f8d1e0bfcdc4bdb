pub mod Text
pub mod AtRest
pub mod ContentsOf
pub mod Created
pub mod Stands
pub mod Fault
pub mod Loading
