pub mod ConstantLemmas
pub mod KindLemmas
pub mod ShapeLemmas
pub mod NameLemmas
pub mod ViewLemmas
pub mod StepLemmas
pub mod LeafLemmas
pub mod MeetLemmas
