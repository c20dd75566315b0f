-- What the compiler holds, and what its private contracts say of it.
pub mod Cells
pub mod Held
pub mod Surveyed
pub mod Tables
pub mod Weights
pub mod Within
