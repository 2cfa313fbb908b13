pub mod FuelOfRewriting
pub mod RunsInTurn
pub mod Subterms
pub mod Replacements
pub mod Sides
pub mod SketchScopes
pub mod Samples
