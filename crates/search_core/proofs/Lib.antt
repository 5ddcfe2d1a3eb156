pub mod CoreLists
pub mod EventLaws
pub mod Keeping
pub mod Margins
pub mod RunLaws
pub mod SizeLaws
