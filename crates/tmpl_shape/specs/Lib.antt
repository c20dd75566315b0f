pub mod Shape
pub mod View
pub mod computed
