-- What the customer must believe of the listing: `Digits`, `Text` and `Listing`; `Working` serves private functions alone.
pub mod Digits
pub mod Text
pub mod Listing
pub mod Working
