pub mod OwnedBytes
pub mod Codes
pub mod Falls
pub mod Put
pub mod Quote
pub mod Rune
pub mod Runes
pub mod Weight
