pub mod Membership
pub mod RosterText
pub mod RosterFault
pub mod Shown
pub mod Choice
pub mod Succession
