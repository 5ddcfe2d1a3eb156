pub mod ColumnLaws
pub mod ListedLaws
