pub mod Body
pub mod Open
pub mod Opening
pub mod Role
pub mod Scope
