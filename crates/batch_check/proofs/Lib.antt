pub mod Statuses
pub mod Texts
pub mod Lines
pub mod Pieces
pub mod Batches
