pub mod RunLaws
mod FigureLaws
pub mod ValueLaws
mod OnceLaws
pub mod TermLaws
pub mod OfColumnLaws
pub mod PieceLaws
mod BuildLaws
