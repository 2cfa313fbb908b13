pub mod EditLaws
pub mod DepthLaws
pub mod EntriesLaws
