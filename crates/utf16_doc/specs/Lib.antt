pub mod Lines
pub mod Units
pub mod Positions
pub mod Indexed
pub mod Edits
pub mod Cuts
