-- What the words of some bytes are, and what a case is that some words begin with.
pub mod Words
pub mod Cases
