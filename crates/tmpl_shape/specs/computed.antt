pub mod Calls
pub mod Formats
pub mod Means
pub mod Meet
pub mod Shapes
pub mod View
