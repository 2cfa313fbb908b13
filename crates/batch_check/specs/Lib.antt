pub mod Reports
pub mod Digests
pub mod Outcome
pub mod Observers
pub mod Batch
pub mod Status
