-- The laws behind the code: `Laws` of lowest members, the net that ends last and a net apart from two others; `Renewal` of the pairs after a column.
pub mod Laws
pub mod Renewal
