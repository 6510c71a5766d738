pub mod Loops
pub mod Table
pub mod Slots
pub mod Chains
pub mod Stores
pub mod Laws
