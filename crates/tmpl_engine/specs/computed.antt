-- What a run holds, and what its private contracts say of it.
pub mod Came
pub mod Held
pub mod Machines
pub mod Near
pub mod Output
pub mod Paused
pub mod Plain
pub mod Plan
pub mod Turned
pub mod View
