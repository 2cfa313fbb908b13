pub mod Blockers
pub mod Conversions
pub mod Iota
pub mod Lookups
pub mod Sides
pub mod Turns
