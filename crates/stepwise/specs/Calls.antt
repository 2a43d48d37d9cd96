-- Document 02, Job 10: what a list of calls does to a channel and its columns, steps and late nets in any order.
use Rattle.std.specs.Prelude.{ℕ, List, [], ◌∷◌, Result}
use Rattle.grid.specs.declared.refusals.Refusal.{Refusal}
use Rattle.grid.specs.Refusals.{if_accepted}
use Rattle.stepwise.specs.declared.Stepped.{Stepped}
use Rattle.stepwise.specs.Sweep.{State, Stands, reached, Steps, late_top, late_bottom, late_refused, PlacesLate}

-- a call: a step of k columns, or a late net at two terminals
pub data Call : Type 0 where
  Step : (k : ℕ) → Call
  Place : (net column1 side1 column2 side2 : ℕ) → Call

-- a channel with some of its columns drawn
pub record Position : Type 0 where
  pub top : List ℕ
  pub bottom : List ℕ
  pub drawn : ℕ

-- where a call leads, on t tracks: a step to further columns, a late net that is not refused to the channel with it
unfoldable pub after : (t : ℕ) → Position → Call → Position
after t p (Step k) = record { top = p.top; bottom = p.bottom; drawn = reached p.top p.bottom t p.drawn k }
after t p (Place net column1 side1 column2 side2) =
    let number = late_refused p.top p.bottom t p.drawn net column1 side1 column2 side2 in
    record {
      top = if_accepted number (late_top p.top p.bottom t p.drawn net column1 side1 column2 side2) p.top;
      bottom = if_accepted number (late_bottom p.top p.bottom t p.drawn net column1 side1 column2 side2) p.bottom;
      drawn = p.drawn;
    }

-- where a list of calls leads
unfoldable pub after_all : (t : ℕ) → Position → List Call → Position
after_all t p [] = p
after_all t p (x ∷ xs) = after_all t (after t p x) xs

-- WHAT CALLS WITH THESE PROMISES LEAVE, one after the other: from the state x and the layout l to the state y and the layout m. Each is given what the one
-- before left
pub data Leads : State → List ℕ → List Call → State → List ℕ → Type 0 where
  stays : (x : State) (l : List ℕ) → Leads x l [] x l
  steps : (x x' y : State) (l l' m : List ℕ) (k : ℕ) (r : Result Stepped Refusal) (xs : List Call)
      → ((top bottom : List ℕ) (t c : ℕ) → Stands top bottom t c x → Steps top bottom t c k l l' r x')
      → Leads x' l' xs y m → Leads x l (Step k ∷ xs) y m
  places : (x x' y : State) (l m : List ℕ) (net column1 side1 column2 side2 r : ℕ) (xs : List Call)
      → ((top bottom : List ℕ) (t c : ℕ) → Stands top bottom t c x → PlacesLate top bottom t c net column1 side1 column2 side2 r x')
      → Leads x' l xs y m → Leads x l (Place net column1 side1 column2 side2 ∷ xs) y m
