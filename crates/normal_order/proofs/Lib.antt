pub mod SeatLaws
pub mod LeastLaws
pub mod FormLaws
