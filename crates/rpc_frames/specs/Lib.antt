pub mod Lines
pub mod Fields
pub mod Frames
pub mod Stages
pub mod Fed
pub mod Grammar
