pub mod SpineFacts
pub mod Instantiations
pub mod Places
