-- What sets of numbers are as words, and what the calls on them promise.
pub mod Member
