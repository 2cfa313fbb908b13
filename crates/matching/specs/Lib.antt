pub mod Lowering
pub mod Patterns
pub mod Match
pub mod Scopes
pub mod Laws
