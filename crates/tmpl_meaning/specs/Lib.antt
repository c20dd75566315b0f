pub mod Fault
pub mod Laws
pub mod Meaning
pub mod Pipeline
pub mod Sink
pub mod View
