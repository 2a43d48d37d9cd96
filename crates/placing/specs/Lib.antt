-- What the customer must believe of a net placed in a channel: `Placing`, when it is refused and where its pins stand.
pub mod Placing
