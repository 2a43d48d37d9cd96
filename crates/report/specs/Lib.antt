-- What the customer must believe of the net report; `Working` serves private functions alone.
pub mod Length
pub mod Report
pub mod Working
