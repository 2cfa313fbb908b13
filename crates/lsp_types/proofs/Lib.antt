pub mod Edits
pub mod Parsed
pub mod Printed
