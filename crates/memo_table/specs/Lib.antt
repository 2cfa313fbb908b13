pub mod Entries
pub mod Index
pub mod Table
pub mod Fits
pub mod Laws
