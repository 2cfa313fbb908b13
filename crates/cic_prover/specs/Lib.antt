pub mod Prelude
pub mod First
pub mod Exec
pub mod Laws
pub mod Soundness
