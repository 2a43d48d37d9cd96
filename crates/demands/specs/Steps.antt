-- Document 02, Job 10, "Column by column, with late nets": the numbers of the calls, and what any list of calls leads to.
use Rattle.std.specs.Prelude.{ℕ, ◌+◌, ◌*◌, ◌≤◌, ◌≡◌, ◌≢◌, false, List, ◌++◌, length, drop}
use Rattle.grid.specs.Channel.{density, tracks}
use Rattle.grid.specs.Refusals.{number_of}
use Rattle.sweep.specs.Drawing.{drawn}
use Rattle.router.specs.Answers.{width, layout, formula_length, written}
use Rattle.stepwise.specs.Sweep.{State, start_refused, started, start_figures, Starts, Stands, step_refused, stepped, step_figures, late_refused}
use Rattle.stepwise.specs.Calls.{Call, Step, Place, Position, after, after_all, Leads}
use Rattle.demands.specs.Table.{First, end, of_pair_rows, of_step, of_late_net}
use Rattle.demands.specs.Beginnings.{TwoPinChannel, first_columns}

-- THE FIRST NUMBER THAT APPLIES, call by call: to the rows at the start, to a step's slice, to a late net in a channel of two-pin nets
pub record DrivenRefuses (top bottom : List ℕ) : Type 0 where
  pub start : First (of_pair_rows top bottom end) (start_refused top bottom)
  pub step : (t c lent : ℕ) → First (of_step (length top) t lent) (step_refused top bottom t c lent)
  -- these are the numbers of their answers
  pub start_answers : number_of (started top bottom) ≡ start_refused top bottom
  pub step_answers : (t c k lent : ℕ) → number_of (stepped top bottom t c k lent) ≡ step_refused top bottom t c lent
  pub place : TwoPinChannel top bottom → (t c net column1 side1 column2 side2 : ℕ)
      → First (of_late_net top bottom t c net column1 side1 column2 side2) (late_refused top bottom t c net column1 side1 column2 side2)

-- "A refusal returns its number and zeros for density, tracks, width, slice length and every other figure but the place."
pub record DrivenZeros (top bottom : List ℕ) : Type 0 where
  pub start : start_refused top bottom ≢ 0 → ((start_figures (started top bottom)).tracks ≡ 0) × ((start_figures (started top bottom)).length ≡ 0)
  pub step : (t c k lent : ℕ) → step_refused top bottom t c lent ≢ 0
      → ((step_figures (stepped top bottom t c k lent)).drawn ≡ 0) × ((step_figures (stepped top bottom t c k lent)).finished ≡ false)

-- A SWEEP of rows that the table lets through, on the tracks of their density
module _ (top bottom : List ℕ) where
  -- with no column drawn
  abbrev pub began : Position
  began = record { top = top; bottom = bottom; drawn = 0 }

  -- after a list of calls
  abbrev pub reached_by : List Call → Position
  reached_by xs = after_all (density top bottom) began xs

-- a channel with some of its columns drawn on t tracks
pub record GoesWell (t : ℕ) (p : Position) : Type 0 where
  -- is one that the one-call router takes, of two-pin nets, and has t tracks there
  pub channel : TwoPinChannel p.top p.bottom
  pub same_tracks : tracks p.top p.bottom ≡ t
  -- "the columns drawn are those of the one-call router"
  pub within : p.drawn ≤ width p.top p.bottom
  pub columns : drawn t p.top p.bottom p.drawn ≡ first_columns p.drawn t (layout p.top p.bottom)

-- WHATEVER THE CALLS
pub record Drives (top bottom : List ℕ) : Type 0 where
  -- the columns drawn are those of the channel with all late nets that were not refused
  pub well : (xs : List Call) → GoesWell (density top bottom) (reached_by top bottom xs)
  -- "However the steps are grouped"
  pub grouped : (p : Position) (j k : ℕ)
      → after (density top bottom) (after (density top bottom) p (Step j)) (Step k) ≡ after (density top bottom) p (Step (j + k))
  -- drawn columns never change, whatever comes after
  pub stay : (xs ys : List Call) → let p = reached_by top bottom xs in let q = reached_by top bottom (xs ++ ys) in
      first_columns p.drawn (density top bottom) (layout q.top q.bottom)
      ≡ first_columns p.drawn (density top bottom) (layout p.top p.bottom)
  -- "A refused net alters neither channel nor drawing"
  pub refused : (p : Position) (net column1 side1 column2 side2 : ℕ)
      → late_refused p.top p.bottom (density top bottom) p.drawn net column1 side1 column2 side2 ≢ 0
      → after (density top bottom) p (Place net column1 side1 column2 side2) ≡ p
  -- "A step after the last column draws nothing"
  pub past : (xs : List Call) (k : ℕ) → let p = reached_by top bottom xs in
      p.drawn ≡ width p.top p.bottom → after (density top bottom) p (Step k) ≡ p
  -- calls that keep their promises, on the state that the start left and a slice of the formula's length: the state stands for that channel, and the slice
  -- holds its columns before the old contents
  pub leads : (x y : State) (l m : List ℕ) (xs : List Call) → Starts top bottom x → formula_length (length top) (density top bottom) ≤ length l
      → Leads x l xs y m → let p = reached_by top bottom xs in Stands p.top p.bottom (density top bottom) p.drawn y
      × (m ≡ drawn (density top bottom) p.top p.bottom p.drawn ++ drop (p.drawn * (2 * density top bottom + 1)) l)
  -- "The finished drawing is then the one that the channel with all late nets would have had from the beginning": the slice holds what a routing call on
  -- that channel would have left in it
  pub finished : (x y : State) (l m : List ℕ) (xs : List Call) → Starts top bottom x → formula_length (length top) (density top bottom) ≤ length l
      → Leads x l xs y m → let p = reached_by top bottom xs in p.drawn ≡ width p.top p.bottom → m ≡ written p.top p.bottom 256 l

-- ALL SWEEPS
pub record ColumnByColumn : Type 0 where
  pub refuses : (top bottom : List ℕ) → DrivenRefuses top bottom
  pub zeros : (top bottom : List ℕ) → DrivenZeros top bottom
  pub drives : (top bottom : List ℕ) → start_refused top bottom ≡ 0 → Drives top bottom
