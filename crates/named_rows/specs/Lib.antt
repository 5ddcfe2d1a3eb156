pub mod NamedRows
pub mod Laws
