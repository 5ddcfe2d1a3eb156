-- What the functions that read a line answer. No promise to the crates above is made of these words.
pub mod Forms
pub mod Taking
