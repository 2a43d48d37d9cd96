-- What the customer must believe of the router: `Answers`, `Promise`, and `Cases`, document 01's cases A to K. `State` has the arrays that stand for a
-- channel whose sweep is driven, in the words of `Working`: of these calls the reader has to believe what they answer and draw, not what the arrays hold.
-- `Working` else serves private functions alone, and so does `Lent`.
pub mod Answers
pub mod Promise
pub mod Cases
pub mod Working
pub mod Lent
pub mod State
