pub mod Conformed
pub mod Defined
pub mod Fitting
pub mod Inferred
pub mod Known
pub mod Reading
