-- Each action by itself is good: its column fits, and it keeps the invariant.
pub mod Good
pub mod Free
pub mod Ends
pub mod Continues
pub mod Joins
pub mod Reduces
