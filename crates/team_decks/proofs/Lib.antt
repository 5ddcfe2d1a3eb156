mod RowLaws
mod DealLaws
mod AccountLaws
