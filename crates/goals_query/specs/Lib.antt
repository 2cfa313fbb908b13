pub mod Places
pub mod Goals
pub mod Symbols
