-- The laws of rows, nets, drawings and answers.
-- Tests, counts and sums, which everything cites
pub mod Tests
pub mod Counting
pub mod Sums
-- rows, their nets, and drawings
pub mod Rows
pub mod Taken
pub mod Nets
pub mod Places
pub mod Crossing
pub mod Drawings
-- what the code goes by
pub mod Scanning
pub mod Tables
pub mod OpenNets
pub mod FamilyTests
pub mod Numbers
pub mod Answers
pub mod Views
-- the document's cases, computed
pub mod Examples
