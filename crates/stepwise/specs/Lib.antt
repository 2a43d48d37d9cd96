-- What the customer must believe of a sweep that its caller drives: `Sweep`, what the calls answer and leave; `Calls`, what a list of calls does. `Working`
-- serves private functions alone.
pub mod Sweep
pub mod Calls
pub mod Working
