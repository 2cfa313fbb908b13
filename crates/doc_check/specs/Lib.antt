pub mod Check
pub mod Document
pub mod Stands
pub mod Checked
