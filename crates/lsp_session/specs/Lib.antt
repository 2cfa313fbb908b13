pub mod Rules
pub mod Run
pub mod Status
pub mod Calls
pub mod Serves
pub mod Served
pub mod Causes
pub mod Waits
