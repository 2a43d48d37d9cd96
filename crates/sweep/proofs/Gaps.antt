-- A gap: the invariant of its tracks, the pins of the column right of it, the net of rule 2, and what an action has to show to keep the invariant.
pub mod Held
pub mod Pins
pub mod Joints
pub mod Keeps
