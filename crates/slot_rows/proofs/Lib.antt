pub mod GivenLaws
pub mod SpanLaws
pub mod FitLaws
mod PlainLaws
mod StandLaws
mod OneSlotLaws
mod PairLaws
mod HoldLaws
