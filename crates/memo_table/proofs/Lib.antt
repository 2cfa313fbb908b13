pub mod Keys
pub mod Indexing
pub mod Changing
pub mod Counting
pub mod Plain
pub mod Standing
pub mod Turning
