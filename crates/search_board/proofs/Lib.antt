pub mod BoardSteps
pub mod MarginLaws
pub mod SeatLaws
