pub mod Declarations
pub mod Inference
