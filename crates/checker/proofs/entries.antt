-- Single entries: `Nets` for refusal 13, `Pins` for wrong pin edges, `Last` for 15.
pub mod Nets
pub mod Pins
pub mod Last
