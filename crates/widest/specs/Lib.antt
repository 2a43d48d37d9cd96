-- What the customer must believe of the widest drawing: `Widest`, the channel written, and what the call answers and leaves.
pub mod Widest
