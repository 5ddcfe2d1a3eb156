pub mod FormLaws
pub mod NormalFormLaws
