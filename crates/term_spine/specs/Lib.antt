pub mod Spine
pub mod Instantiate
pub mod Globals
pub mod Arguments
pub mod Spines
pub mod SpineLaws
