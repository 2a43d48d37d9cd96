-- What the private functions promise each other. No promise of a public call rests on these.
use Rattle.std.specs.Prelude.{ℕ, ◌+◌, min, ◌≡◌, true, List, Result}
use Rattle.grid.specs.declared.NetFacts.{NetFacts}
use Rattle.grid.specs.declared.refusals.Refusal.{Refusal}
use Rattle.grid.specs.Refusals.{answer_of}
use Rattle.grid.specs.Answers.{accepted_facts}
use Rattle.stepwise.specs.Sweep.{start_refused}
use Rattle.sweep.specs.Drawing.{width}
use Rattle.router.specs.Working.{DrawnTo}
use Rattle.router.specs.State.{Standing}

-- the facts of the nets of rows that a start takes, or its refusal
unfoldable pub two_pin_facts : (top bottom : List ℕ) → Result NetFacts Refusal
two_pin_facts top bottom = answer_of (start_refused top bottom) (accepted_facts top bottom)

-- k columns more, or all that are left, are drawn after column c: e are drawn then, the arrays stand for that, and a layout l that showed the columns 1 to c
-- is l', which shows those up to e
pub record DrawsOn (top bottom : List ℕ) (t c k e : ℕ) (upper lower first last a f low high number s l l' : List ℕ) : Type 0 where
  pub drawn : e ≡ min (c + k) (width t top bottom)
  pub stands : Standing top bottom t e upper lower first last a f low high number s
  pub shows : (l₀ : List ℕ) → DrawnTo true top bottom t c l₀ l → DrawnTo true top bottom t e l₀ l'
