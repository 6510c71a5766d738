pub mod Machine
pub mod Claim
pub mod Split
pub mod Grow
pub mod Place
pub mod Remove
