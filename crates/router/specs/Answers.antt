-- Document 01, "Refused, by place", and the figures: what the calls of the router answer, and what a routing call leaves in its slice.
use Rattle.std.specs.Prelude.{ℕ, ◌+◌, ◌*◌, ◌/◌, List, ◌++◌, ltb, length, drop, Result}
use Rattle.grid.specs.Channel.{pick, density, tracks, rows_refused}
use Rattle.grid.specs.declared.refusals.Refusal.{Refusal}
use Rattle.grid.specs.Refusals.{first_refusal, if_accepted, figures_or, answer_of}
use Rattle.grid.specs.Answers.{refused_within}
use Rattle.router.specs.declared.Figures.{Figures}
use Rattle.sweep.specs.Drawing as Drawing

-- "A refusal returns its number and zeros for density, tracks, width, slice length and every other figure"; "The number on acceptance is 0."
-- THE FIGURES of a routing call's answer, zeros on refusal
abbrev pub no_figures : Figures
no_figures = record { density = 0; tracks = 0; width = 0 }

abbrev pub figures_of : Result Figures Refusal → Figures
figures_of r = figures_or no_figures r

-- and the entries of the call that states the slice length
abbrev pub entries_of : Result ℕ Refusal → ℕ
entries_of r = figures_or 0 r

-- THE DRAWING OF A CHANNEL: the sweep's, on the channel's tracks
module _ (top bottom : List ℕ) where
  -- "its width is n plus the columns that the sweep below adds after column n"
  abbrev pub width : ℕ
  width = Drawing.width (tracks top bottom) top bottom

  -- its entries
  abbrev pub layout : List ℕ
  layout = Drawing.layout (tracks top bottom) top bottom

-- document 01, "(n + t/2 rounded down) × (2t + 1)": entries that are enough for n columns on t tracks, whatever their pins
abbrev pub formula_length : (n t : ℕ) → ℕ
formula_length n t = (n + t / 2) * (2 * t + 1)

-- WHAT THEY ANSWER
module _ (top bottom : List ℕ) where
  -- document 02, Job 5, "the true one, w × (2t + 1) with the width that the sweep will reach": the slice length below which 8 is given
  unfoldable pub slice_length : ℕ
  slice_length = width top bottom * (2 * tracks top bottom + 1)

  -- the call that states it
  unfoldable pub need : Result ℕ Refusal
  need = answer_of (rows_refused top bottom 256) slice_length

  -- the number of the refusal of a routing call with a limit of columns (256, and 64 in `knee`; over 256 it stands for 256) and a slice of `lent`
  -- entries: the rows', else 8 or 0
  unfoldable pub refused : (most lent : ℕ) → ℕ
  refused most lent = first_refusal (refused_within top bottom most) (pick (ltb lent slice_length) 8 0)

  -- "Figures reported for a channel"
  unfoldable pub figures : Figures
  figures = record { density = density top bottom; tracks = tracks top bottom; width = width top bottom }

  -- what a routing call answers
  unfoldable pub answer : (most lent : ℕ) → Result Figures Refusal
  answer most lent = answer_of (refused most lent) figures

  -- what a routing call leaves in a slice that held `old`: "the first w × (2t + 1) entries of its slice" are the drawing, the others stay;
  -- "A refused call writes to no lent slice"
  unfoldable pub written : (most : ℕ) (old : List ℕ) → List ℕ
  written most old = if_accepted (refused most (length old)) (layout top bottom ++ drop (length (layout top bottom)) old) old
