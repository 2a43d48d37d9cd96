-- Loose ends: `Alone`, the four entries at a point; `Tests`, the tests of refusal 17 as facts; `Kept`, the search.
pub mod Alone
pub mod Tests
pub mod Kept
