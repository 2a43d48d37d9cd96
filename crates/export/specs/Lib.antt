-- What the customer must believe of the calls for other languages.
pub mod Export
