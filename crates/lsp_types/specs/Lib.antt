pub mod Members
pub mod Changes
pub mod Envelope
pub mod Encodings
pub mod Requests
pub mod Notifications
pub mod Decoding
pub mod Bodies
