-- What the customer must believe of a record: `Record`, what its bytes say and which bytes a channel's record has; `Writing`, what the writer of bytes asks
-- and promises. `Counts` helps callers to take parts of the arrays.
pub mod Record
pub mod Counts
pub mod Writing
