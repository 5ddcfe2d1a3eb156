pub mod TimeLaws
pub mod RoomLaws
pub mod FitLaws
pub mod ChoiceLaws
pub mod StepLaws
pub mod PlanLaws
