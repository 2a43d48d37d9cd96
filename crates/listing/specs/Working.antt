-- What the private functions of the listing promise each other. No promise of a public call rests on these.
use Rattle.std.specs.Prelude.{ℕ, ◌≡◌, List, length, Result}
use Rattle.grid.specs.declared.refusals.Refusal.{Refusal}
use Rattle.grid.specs.Refusals.{if_accepted, answer_of}
use Rattle.record.specs.Record.{laid}
use Rattle.record.specs.Counts.{Counts}
use Rattle.listing.specs.Listing.{length_of}

-- what a listing with a number and the text new answers, and leaves of a text that held old
pub record Lists (number : ℕ) (new old : List ℕ) (r : Result ℕ Refusal) (now : List ℕ) : Type 0 where
  pub answer : r ≡ answer_of number (length new)
  pub text : now ≡ if_accepted number (laid new old) old
  pub counts : Counts (length_of r) now
