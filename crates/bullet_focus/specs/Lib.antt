pub mod FocusState
pub mod Levels
pub mod Steps
pub mod Laws
