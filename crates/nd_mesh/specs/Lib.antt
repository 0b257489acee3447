pub mod Laws
pub mod Mesh
