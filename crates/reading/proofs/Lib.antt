-- Laws of what a read leaves.
pub mod Front
