pub mod ErrorLemmas
pub mod FailingLemmas
pub mod FailureLemmas
pub mod InferredLemmas
mod OutputLemmas
pub mod ReasonLemmas
pub mod SafeLemmas
pub mod ValueLemmas
