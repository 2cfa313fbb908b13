pub mod CallLaws
pub mod DeclareCalls
pub mod SoundLaws
