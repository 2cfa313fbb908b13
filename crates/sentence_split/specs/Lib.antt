pub mod Items
pub mod Split
pub mod Scan
pub mod Sentences
pub mod Pieces
pub mod Within
pub mod Resplit
