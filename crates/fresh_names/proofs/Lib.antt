pub mod LabelLaws
pub mod NameLaws
pub mod ShownNames
