-- The laws of the calls for other languages.
pub mod Figures
pub mod Driven
