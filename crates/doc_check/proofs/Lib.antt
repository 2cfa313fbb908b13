pub mod Placed
pub mod More
pub mod Trail
pub mod Taking
pub mod Shared
pub mod Advancing
pub mod Telling
pub mod Whole
