pub mod Directive
pub mod Form
pub mod Format
pub mod Pad
pub mod Reading
pub mod Rune
pub mod Spelling
