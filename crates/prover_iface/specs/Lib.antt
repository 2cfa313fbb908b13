pub mod Sentences
pub mod Meanings
pub mod Exec
pub mod Laws
pub mod Listings
