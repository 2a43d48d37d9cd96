-- What the bookkeeping of pairs goes by. No promise of a public call of the router rests on these.
pub mod Working
