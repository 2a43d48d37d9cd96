-- What the customer must believe of the checker: `Check`, its answer; `Faults` says refusals 13 to 17, 19 and 20 in words. `Working` and `Points`
-- serve private contracts alone.
pub mod Check
pub mod Faults
pub mod Working
pub mod Points
