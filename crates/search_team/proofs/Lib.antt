mod ApartLaws
mod BenchLaws
mod DoneLaws
mod EndLaws
mod JoinLaws
mod SeatLaws
mod TeamLaws
