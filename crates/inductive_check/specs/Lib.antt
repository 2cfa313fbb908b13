pub mod Forms
pub mod Rows
pub mod Steps
pub mod Labels
pub mod Levels
pub mod Elimination
pub mod Entries
