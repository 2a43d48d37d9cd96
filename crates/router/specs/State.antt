-- Document 02, Job 10, "a sweep it can drive one column at a time": the arrays that stand for a channel of two-pin nets with c columns drawn on t tracks, as
-- the caller of such a sweep holds them.
use Rattle.std.specs.Prelude.{ℕ, ◌≤◌, ◌≡◌, false, List}
use Rattle.grid.specs.declared.Family.TheVariants.{TwoPin}
use Rattle.grid.specs.Channel.{density, family, rows_refused}
use Rattle.grid.specs.Nets.{first_column, last_column, table}
use Rattle.grid.specs.Places.{padded}
use Rattle.sets.specs.Member.{member}
use Rattle.sweep.specs.Drawing.{gap, width}
use Rattle.router.specs.Working.{Frees, Keeps, blank, no_nets}

-- THE ARRAYS THAT STAND FOR A CHANNEL with c columns drawn on t tracks: its rows, each net's first and last column, the t tracks a in gap c, the set f of
-- the free ones, each net's lowest and highest strand and how many it has, and the set s of the extended nets. c goes up to the width: past column n the
-- gaps are those between the added columns
pub record Standing (top bottom : List ℕ) (t c : ℕ) (upper lower first last a f low high number s : List ℕ) : Type 0 where
  pub accepted : rows_refused top bottom 256 ≡ 0
  pub pairs : family top bottom ≡ TwoPin
  pub dense : density top bottom ≤ t
  pub few : t ≤ 256
  pub within : c ≤ width t top bottom
  pub tops : upper ≡ padded top
  pub bottoms : lower ≡ padded bottom
  pub firsts : first ≡ table (first_column top bottom)
  pub lasts : last ≡ table (last_column top bottom)
  pub keeps : (w : List ℕ) → Keeps last t TwoPin c (gap t top bottom c) a f low high number s w

-- the arrays before the first column, whatever the rows: no track is taken, and no net extended
pub record Begun (t : ℕ) (a f low high number s : List ℕ) : Type 0 where
  pub tracks : a ≡ blank
  pub frees : Frees t blank f
  pub lows : low ≡ no_nets
  pub highs : high ≡ no_nets
  pub numbers : number ≡ no_nets
  pub none : (v : ℕ) → member s v ≡ false
