-- Document 02, Job 10, "Column by column, with late nets": the state between the calls, the channel that it stands for, and what each call answers and leaves.
-- "Each call is given the state, and each step the layout slice, as the call before left it"; of other states nothing is promised but that the call stops.
use Rattle.std.specs.Prelude.{ℕ, ◌+◌, ◌*◌, min, ◌≡◌, ◌≢◌, List, [], ◌++◌, eqb, ltb, length, drop, false, Result}
use Rattle.grid.specs.Channel.{pick, density, pins_within, rows_refused}
use Rattle.grid.specs.declared.refusals.Refusal.{Refusal}
use Rattle.grid.specs.Refusals.{first_refusal, if_accepted, number_of, figures_or, answer_of}
use Rattle.sweep.specs.Drawing.{drawn, width}
use Rattle.router.specs.Answers.{formula_length}
use Rattle.router.specs.State.{Standing}
use Rattle.placing.specs.Placing.{place_refused, placed_top, placed_bottom}
use Rattle.stepwise.specs.declared.Started.{Started}
use Rattle.stepwise.specs.declared.Stepped.{Stepped}

-- THE STATE that the caller holds: three numbers and the arrays of the sweep
pub record State : Type 0 where
  pub columns : ℕ
  pub tracks : ℕ
  pub drawn : ℕ
  pub top : List ℕ
  pub bottom : List ℕ
  pub first : List ℕ
  pub last : List ℕ
  pub strands : List ℕ
  pub free : List ℕ
  pub low : List ℕ
  pub high : List ℕ
  pub many : List ℕ
  pub extended : List ℕ

-- the state of these
abbrev pub state_of : (columns tracks drawn : ℕ) (top bottom first last strands free low high many extended : List ℕ) → State
state_of n t c top bottom first last strands free low high many extended = record {
  columns = n;
  tracks = t;
  drawn = c;
  top = top;
  bottom = bottom;
  first = first;
  last = last;
  strands = strands;
  free = free;
  low = low;
  high = high;
  many = many;
  extended = extended;
}

-- it stands for a channel of two-pin nets, on t tracks, with c columns drawn
pub record Stands (top bottom : List ℕ) (t c : ℕ) (x : State) : Type 0 where
  pub columns : x.columns ≡ length top
  pub tracks : x.tracks ≡ t
  pub drawn : x.drawn ≡ c
  pub arrays : Standing top bottom t c x.top x.bottom x.first x.last x.strands x.free x.low x.high x.many x.extended

-- THE FIGURES of the answers of start and step, zeros on refusal
abbrev pub no_start : Started
no_start = record { tracks = 0; length = 0 }

abbrev pub start_figures : Result Started Refusal → Started
start_figures r = figures_or no_start r

abbrev pub no_step : Stepped
no_step = record { drawn = 0; finished = false }

abbrev pub step_figures : Result Stepped Refusal → Stepped
step_figures r = figures_or no_step r

-- START
module _ (top bottom : List ℕ) where
  -- 4 to 7 of the rows; "In this sweep 7 stands for any net without exactly two pins"
  unfoldable pub start_refused : ℕ
  start_refused = first_refusal (rows_refused top bottom 256) (pick (pins_within top bottom 2) 0 7)

  -- the tracks are the density of the rows given; "this sweep needs the slice length of document 01's own formula"
  unfoldable pub started : Result Started Refusal
  started = answer_of start_refused (record { tracks = density top bottom; length = formula_length (length top) (density top bottom) })

  -- the state stands for the channel with no column drawn; after a refusal for the channel without columns
  abbrev pub Starts : State → Type 0
  Starts = Stands (if_accepted start_refused top []) (if_accepted start_refused bottom []) (start_figures started).tracks 0

-- STEP: c columns of the channel are drawn on t tracks
module _ (top bottom : List ℕ) (t c : ℕ) where
  -- the columns drawn after k more; "A step after the last column draws nothing"
  abbrev pub reached : (k : ℕ) → ℕ
  reached k = min (c + k) (width t top bottom)

  -- 8 where the slice is shorter than document 01's formula
  abbrev pub step_refused : (lent : ℕ) → ℕ
  step_refused lent = pick (ltb lent (formula_length (length top) t)) 8 0

  -- the columns drawn so far, and whether all are
  unfoldable pub stepped : (k lent : ℕ) → Result Stepped Refusal
  stepped k lent = answer_of (step_refused lent) (record { drawn = reached k; finished = eqb (reached k) (width t top bottom) })

  -- a layout holds the columns drawn, in their places
  abbrev pub ShowsColumns : List ℕ → Type 0
  ShowsColumns l = l ≡ drawn t top bottom c ++ drop (c * (2 * t + 1)) l

  -- what a step of k columns does with a layout `old`, where the state stands for the channel: r is its answer, x the state and `new` the layout then
  pub record Steps (k : ℕ) (old new : List ℕ) (r : Result Stepped Refusal) (x : State) : Type 0 where
    pub answer : r ≡ stepped k (length old)
    pub stands : Stands top bottom t (if_accepted (number_of r) (reached k) c) x
    pub layout : ShowsColumns old → new ≡ if_accepted (number_of r) (drawn t top bottom (reached k) ++ drop (reached k * (2 * t + 1)) old) old

  -- PLACE a late net at two terminals
  module _ (net column1 side1 column2 side2 : ℕ) where
    -- the rows with the late net
    abbrev pub late_top : List ℕ
    late_top = placed_top top net column1 side1 column2 side2

    abbrev pub late_bottom : List ℕ
    late_bottom = placed_bottom bottom net column1 side1 column2 side2

    -- "21: number in use; 22: a terminal not free or not allowed; 23: density over the tracks; checked in that order after 6"
    unfoldable pub late_refused : ℕ
    late_refused = first_refusal (place_refused top bottom c net column1 side1 column2 side2) (pick (ltb t (density late_top late_bottom)) 23 0)

    -- what the call does, where the state stands for the channel: r is its answer, x the state then; "A refused net alters neither channel nor drawing"
    pub record PlacesLate (r : ℕ) (x : State) : Type 0 where
      pub answer : r ≡ late_refused
      pub stands : Stands (if_accepted r late_top top) (if_accepted r late_bottom bottom) t c x

-- A REFUSED CALL leaves the state as it was, whatever it stands for
abbrev pub KeptIfRefused : (number : ℕ) (before after : State) → Type 0
KeptIfRefused number x y = number ≢ 0 → y ≡ x
