pub mod Check
pub mod Judge
pub mod Loops
pub mod Safe
pub mod View
