pub mod ShareLaws
pub mod DrawLaws
pub mod MixLaws
pub mod WeightLaws
pub mod CellLaws
pub mod BlendLaws
