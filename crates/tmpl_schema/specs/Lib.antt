pub mod Safe
pub mod computed
