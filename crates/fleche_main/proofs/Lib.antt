pub mod Named
pub mod Listed
pub mod Counting
pub mod Asked
