pub mod RunLaws
pub mod StepLaws
pub mod FlowLaws
pub mod LevelLaws
pub mod PairLaws
pub mod EndLaws
pub mod SumLaws
pub mod LastEndLaws
