pub mod Corollaries
pub mod Laws
