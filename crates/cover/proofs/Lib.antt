pub mod Entries
pub mod Grid
pub mod Sides
pub mod Tile
