-- The steps of the reading, line by line and word by word.
pub mod WordReading
pub mod TermReading
pub mod CutReading
pub mod NodeReading
pub mod HeadReading
pub mod ListReading
