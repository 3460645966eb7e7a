pub mod Hexes
pub mod Decimals
pub mod Pages
