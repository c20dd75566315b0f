mod BeyondLemmas
pub mod ErrorLemmas
mod FailingLemmas
pub mod ItemLemmas
mod LineLemmas
pub mod LogLemmas
pub mod NotedLemmas
pub mod PositionLemmas
pub mod ProgressLemmas
pub mod SaidLemmas
pub mod SignLemmas
pub mod StepLemmas
pub mod TokenLemmas
pub mod UriLemmas
pub mod VariableLemmas
