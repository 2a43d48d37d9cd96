-- Document 02, Job 12, "The widest drawing": "Die planners reserve columns at the right edge and want to know the worst." The channel that is written, that no
-- other makes the router add more columns, and what the call answers and leaves.
use Rattle.std.specs.Prelude.{ℕ, ◌+◌, ◌*◌, ◌/◌, ◌%◌, ◌≤◌, ◌≡◌, ◌≢◌, ◌⊎◌, ◌↔◌, List, length}
use Rattle.grid.specs.Refusals.{number_of}
use Rattle.grid.specs.Channel.{tracks}
use Rattle.grid.specs.Answers as counting
use Rattle.router.specs.Answers.{width}
use Rattle.widest.specs.Widest.{widest_top, widest_bottom, columns_of, answer, top_after, bottom_after}
use Rattle.demands.specs.Table.{First, of_lent_rows}
use Rattle.demands.specs.EmptyColumns.{Empty}
use Rattle.demands.specs.Beginnings.{TwoPinChannel}

-- THE CHANNEL WRITTEN for n columns
pub record AddsHalf (n : ℕ) : Type 0 where
  -- "a channel of two-pin nets", which the router takes
  pub channel : TwoPinChannel (widest_top n) (widest_bottom n)
  pub columns : (length (widest_top n) ≡ n) × (length (widest_bottom n) ≡ n)
  -- "whose drawing adds n/2 columns, rounded down"
  pub adds : width (widest_top n) (widest_bottom n) ≡ n + n / 2
  -- its tracks: all its nets are open between the halves
  pub on_tracks : tracks (widest_top n) (widest_bottom n) ≡ 2 * (n / 2)
  -- "For odd n its first column is empty."
  pub odd : n % 2 ≡ 1 → Empty (widest_top n) (widest_bottom n) 0

-- "no channel of two-pin nets with n columns makes the router add more"
abbrev pub NoneAddsMore : (n : ℕ) → Type 0
NoneAddsMore n = (top bottom : List ℕ) → TwoPinChannel top bottom → length top ≡ n → width top bottom ≤ n + n / 2

-- THE CALL, on "two lent rows" that held `top` and `bottom`
pub record WritesWidest (top bottom : List ℕ) : Type 0 where
  -- the first number that applies
  pub number : First (of_lent_rows (length top) (length bottom)) (number_of (answer (length top) (length bottom)))
  -- "4 and 5 hold for them as for rows that are read"
  pub as_read : (k : ℕ) → (k ≡ 4) ⊎ (k ≡ 5)
      → (number_of (answer (length top) (length bottom)) ≡ k) ↔ (number_of (counting.row_check top bottom 256) ≡ k)
  -- "A refusal returns its number and zeros for … every other figure"; "A refused call writes to no lent slice or table."
  pub zero : number_of (answer (length top) (length bottom)) ≢ 0 → columns_of (answer (length top) (length bottom)) ≡ 0
  pub keeps : number_of (answer (length top) (length bottom)) ≢ 0 → (top_after top bottom ≡ top) × (bottom_after top bottom ≡ bottom)
  -- else the rows hold the channel, whatever they held, and the figure is the number of columns that its drawing adds
  pub writes : number_of (answer (length top) (length bottom)) ≡ 0
      → (top_after top bottom ≡ widest_top (length top)) × (bottom_after top bottom ≡ widest_bottom (length top))
  pub added : number_of (answer (length top) (length bottom)) ≡ 0
      → width (top_after top bottom) (bottom_after top bottom) ≡ length top + columns_of (answer (length top) (length bottom))

-- "For each n from 0 to 256"; "One argument covers all n."
pub record WidestDrawing : Type 0 where
  pub half : (n : ℕ) → n ≤ 256 → AddsHalf n
  pub most : (n : ℕ) → NoneAddsMore n
  pub writes : (top bottom : List ℕ) → WritesWidest top bottom
