pub mod Form
pub mod Law
pub mod computed
