pub mod Freshness
pub mod Scope
pub mod Pieces
pub mod Pages
pub mod Show
pub mod Named
pub mod Operations
pub mod Parts
