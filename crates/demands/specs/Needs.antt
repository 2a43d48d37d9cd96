-- Document 02, Job 5, "Only the slice it needs": what the call that states the need gives, and which slices routing takes.
use Rattle.std.specs.Prelude.{ℕ, ◌+◌, ◌*◌, ◌≤◌, ◌<◌, min, ◌≡◌, List, ◌++◌, ltb, length, drop, Result}
use Rattle.grid.specs.Channel.{pick, tracks}
use Rattle.grid.specs.Refusals.{first_refusal, if_accepted, number_of, answer_of}
use Rattle.grid.specs.Answers.{refused_within}
use Rattle.grid.specs.declared.refusals.Refusal.{Refusal}
use Rattle.router.specs.declared.Figures.{Figures}
use Rattle.router.specs.Answers.{formula_length, width, layout}
use Rattle.router.specs.Answers as routing
use Rattle.demands.specs.Table.{LetsThrough, end, of_rows, of_formula}

-- THE NEED of a channel whose rows the table lets through
pub record StatesNeed (top bottom : List ℕ) : Type 0 where
  -- "The call that states the need now gives the true one, w × (2t + 1) with the width that the sweep will reach"
  pub stated : routing.entries_of (routing.need top bottom) ≡ width top bottom * (2 * tracks top bottom + 1)
  -- the drawing fills a slice of that length
  pub fills : length (layout top bottom) ≡ routing.entries_of (routing.need top bottom)
  -- it is at most document 01's formula
  pub at_most : routing.entries_of (routing.need top bottom) ≤ formula_length (length top) (tracks top bottom)
  -- "8 is given only below that": with exactly the need, or more, routing draws, and with one entry less, or fewer, it refuses with 8
  pub draws : (lent : ℕ) → routing.entries_of (routing.need top bottom) ≤ lent → number_of (routing.answer top bottom 256 lent) ≡ 0
  pub refuses : (lent : ℕ) → lent < routing.entries_of (routing.need top bottom) → number_of (routing.answer top bottom 256 lent) ≡ 8

-- AS BEFORE, when the formula was asked for
module _ (top bottom : List ℕ) (most : ℕ) where
  -- the number of the refusal of a routing call with a slice of `lent` entries
  abbrev pub refused_before : (lent : ℕ) → ℕ
  refused_before lent = first_refusal (refused_within top bottom most) (pick (ltb lent (formula_length (length top) (tracks top bottom))) 8 0)

  -- what it answered
  abbrev pub answer_before : (lent : ℕ) → Result Figures Refusal
  answer_before lent = answer_of (refused_before lent) (routing.figures top bottom)

  -- and what it left in a slice that held `old`
  abbrev pub written_before : (old : List ℕ) → List ℕ
  written_before old = if_accepted (refused_before (length old)) (layout top bottom ++ drop (length (layout top bottom)) old) old

-- "A call that used to be accepted writes what it wrote before": it is accepted, and answers and leaves the same
pub record AsBefore (top bottom : List ℕ) (most : ℕ) (old : List ℕ) : Type 0 where
  pub accepted : number_of (routing.answer top bottom most (length old)) ≡ 0
  pub answers : routing.answer top bottom most (length old) ≡ answer_before top bottom most (length old)
  pub leaves : routing.written top bottom most old ≡ written_before top bottom most old

-- THE NEEDS OF ALL CHANNELS, and all calls that document 01's table lets through
pub record NeedsMet : Type 0 where
  pub needs : (top bottom : List ℕ) → LetsThrough (of_rows top bottom 256 end) → StatesNeed top bottom
  pub before : (top bottom : List ℕ) (most : ℕ) (old : List ℕ) → LetsThrough (of_rows top bottom (min most 256) (of_formula top bottom (length old)))
      → AsBefore top bottom most old
