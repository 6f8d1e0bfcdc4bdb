pub mod Rose
pub mod OneMore
