pub mod Sets
pub mod Independence
pub mod Cliques
