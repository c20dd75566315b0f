pub mod Document
pub mod Inferred
pub mod Keywords
pub mod Permission
pub mod Provenance
pub mod computed
