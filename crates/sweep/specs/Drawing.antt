-- The sweeps on t tracks: what a column does, the tracks and the pairs in each gap, the columns, the columns added, the width and the layout.
use Rattle.std.specs.Prelude.{ℕ, zero, suc, ◌+◌, Bool, true, false, not, ◌&&◌, List, [], ◌++◌, eqb, ltb, length, get_or, replicate}
use Rattle.grid.specs.declared.Family.{Family}
use Rattle.grid.specs.declared.Family.TheVariants.{TwoPin, ThreePin, ManyPin}
use Rattle.grid.specs.Channel.{pick, count, left, right, family}
use Rattle.grid.specs.Nets.{last_column}
use Rattle.sweep.specs.declared.Action.{Action}
use Rattle.sweep.specs.declared.Pin.{Pin}
use Rattle.sweep.specs.declared.Free.{Free}
use Rattle.sweep.specs.declared.Joint.{Joint}
use Rattle.sweep.specs.declared.Double.{Double}
use Rattle.sweep.specs.declared.Move.{Move}
use Rattle.sweep.specs.Tracks.{lowest, second, highest, many, lowest_net, clear, verticals, after}
use Rattle.sweep.specs.Rules.{straight, join_only}
use Rattle.sweep.specs.TwoPin.{choose_two}
use Rattle.sweep.specs.ManyPin.{choose_many}
use Rattle.sweep.specs.Pairs.{mate, no_mates, unpair, pair_up, latest_to}
use Rattle.sweep.specs.ThreePin.{still, choose_three}

-- "A pin starts, ends or continues its net": by whether the net has pins before the column and after it. 0 none, 1 starts, 2 continues, 3 ends
abbrev pub kind_by : (before later : Bool) → ℕ
kind_by false later = 1
kind_by true true = 2
kind_by true false = 3

-- no pin, no net to join, and no double net
abbrev pub no_pin : Pin
no_pin = record { net = 0; kind = 0; low = 0; high = 0; many = 0 }

abbrev pub no_joint : Joint
no_joint = record { net = 0; low = 0; second = 0; high = 0; later = false }

abbrev pub no_double : Double
no_double = record { net = 0; low = 0; high = 0; last = 0 }

-- on the tracks tr, a pin of net v (0: none) and a kind
abbrev pub pin_of : (v kind : ℕ) (tr : List ℕ) → Pin
pin_of v k tr = pick (eqb v 0) no_pin (record { net = v; kind = k; low = lowest v tr; high = highest v tr; many = many v tr })

-- on them, net v as the net of rule 2 (0: none), which has later pins or not
abbrev pub joint_with : (v : ℕ) (later : Bool) (tr : List ℕ) → Joint
joint_with v l tr = pick (eqb v 0) no_joint (record { net = v; low = lowest v tr; second = second v tr; high = highest v tr; later = l })

-- the two lowest free tracks
unfoldable pub free_of : List ℕ → Free
free_of tr = record { first = lowest 0 tr; second = second 0 tr }

-- Here tr are the tracks in gap c, and the column right of that gap is column c + 1
module _ (top bottom : List ℕ) where
  -- net v has pins after column c
  unfoldable pub later : ℕ → ℕ → Bool
  later c v = not (eqb v 0) && ltb 0 (right top bottom c v)

  -- the pin of net v in column c + 1
  unfoldable pub pin_at : ℕ → List ℕ → ℕ → Pin
  pin_at c tr v = pin_of v (kind_by (ltb 0 (left top bottom c v)) (later (suc c) v)) tr

  -- "It is stretched if all its pins lie left and it still has strands": of a net v on a track. Document 01 calls such a net stretched; its source, document
  -- 000, calls it extended, and so do the names here
  unfoldable pub extended_at : ℕ → ℕ → Bool
  extended_at c v = not (eqb v 0) && not (later c v)

  -- "open with three or more strands": of a net v on a track
  unfoldable pub wide_at : ℕ → List ℕ → ℕ → Bool
  wide_at c tr v = later c v && ltb 2 (many v tr)

  -- "take the lowest-numbered such net"
  unfoldable pub extended_net : ℕ → List ℕ → ℕ
  extended_net c tr = lowest_net (extended_at c) tr

  -- "A net N is stretched (lowest number), or else open with three or more strands (lowest number)."
  unfoldable pub net_to_join : ℕ → List ℕ → ℕ
  net_to_join c tr = pick (eqb (extended_net c tr) 0) (lowest_net (wide_at c tr) tr) (extended_net c tr)

  -- net v as the net of rule 2 in column c + 1
  unfoldable pub joint_of : ℕ → List ℕ → ℕ → Joint
  joint_of c tr v = joint_with v (later (suc c) v) tr

-- here m are the mates in gap c: net v has two strands and no mate
unfoldable pub lone_double : (tr m : List ℕ) → ℕ → Bool
lone_double tr m v = not (eqb v 0) && (eqb (many v tr) 2 && eqb (mate v m) 0)

module _ (top bottom : List ℕ) where
  -- of these nets the one that ends last, and the lowest-numbered other one
  unfoldable pub latest_double : (tr m : List ℕ) → ℕ
  latest_double tr m = latest_to (last_column top bottom) (lone_double tr m) 256

  unfoldable pub other_double : (tr m : List ℕ) → ℕ
  other_double tr m = lowest_net (λ v. lone_double tr m v && not (eqb v (latest_double tr m))) tr

  -- net v as such a net (0: none)
  unfoldable pub double_of : List ℕ → ℕ → Double
  double_of tr v = pick (eqb v 0) no_double (record { net = v; low = lowest v tr; high = highest v tr; last = last_column top bottom v })

  -- the last column of net v (0: none)
  unfoldable pub end_of : ℕ → ℕ
  end_of v = pick (eqb v 0) 0 (last_column top bottom v)

  -- net v if its last pin lies in column c + 1, else 0
  unfoldable pub ending_at : ℕ → ℕ → ℕ
  ending_at c v = pick (later top bottom (suc c) v) 0 v

  -- the mates after column c + 1: a pair ends when one of its nets ends, and the column's own pair is formed
  unfoldable pub mates_after : ℕ → Move → List ℕ → List ℕ
  mates_after c x m = pair_up x.double x.single (unpair (ending_at c (get_or bottom c 0)) (unpair (ending_at c (get_or top c 0)) m))

-- the strands of net v on the tracks tr are joined, and nothing else is done
unfoldable pub joining : List ℕ → ℕ → Action
joining tr v = join_only v (lowest v tr) (highest v tr)

module _ (top bottom : List ℕ) where
  -- document 02, Job 7: "a column has no pin", column c + 1
  unfoldable pub empty_at : ℕ → Bool
  empty_at c = eqb (get_or top c 0) 0 && eqb (get_or bottom c 0) 0

  -- "Where a column has no pin and a net is stretched, the sweep is to join the lowest-numbered stretched net there." Where none is, all runs straight
  unfoldable pub empty_column : ℕ → List ℕ → Action
  empty_column c tr =
      let v = extended_net top bottom c tr in
      pick (eqb v 0) straight (joining tr v)

-- WHAT A COLUMN DOES, on t tracks
module _ (t : ℕ) (top bottom : List ℕ) where
  -- what column c + 1 does by the rules of a family: "Channels of two-pin nets", those of document 02, Job 3, "Channels with a net of three or more pins"
  unfoldable pub move_of : Family → ℕ → (tr m : List ℕ) → Move
  move_of TwoPin c tr m =
      let A = pin_at top bottom c tr (get_or top c 0) in
      let B = pin_at top bottom c tr (get_or bottom c 0) in
      still (choose_two t A B (free_of tr) (joint_of top bottom c tr (extended_net top bottom c tr)))
  move_of ThreePin c tr m =
      let A = pin_at top bottom c tr (get_or top c 0) in
      let B = pin_at top bottom c tr (get_or bottom c 0) in
      let D = double_of top bottom tr (latest_double top bottom tr m) in
      let M = double_of top bottom tr (other_double top bottom tr m) in
      choose_three t A B (end_of top bottom (get_or top c 0)) (end_of top bottom (get_or bottom c 0)) (free_of tr)
      (joint_of top bottom c tr (extended_net top bottom c tr)) D M
  move_of ManyPin c tr m =
      let A = pin_at top bottom c tr (get_or top c 0) in
      let B = pin_at top bottom c tr (get_or bottom c 0) in
      still (choose_many t A B (free_of tr) (joint_of top bottom c tr (net_to_join top bottom c tr)) (later top bottom (suc c) (get_or top c 0)))

  -- what it does by these rules alone, as the sweeps did before document 02, Job 7
  abbrev pub move_before : ℕ → (tr m : List ℕ) → Move
  move_before = move_of (family top bottom)

  -- what column c + 1 does: "This holds for all sweeps"
  unfoldable pub move : ℕ → (tr m : List ℕ) → Move
  move c tr m = pick (empty_at top bottom c) (still (empty_column top bottom c tr)) (move_before c tr m)

-- the tracks and the mates in a gap
pub record SweepState : Type 0 where
  pub tracks : List ℕ
  pub mates : List ℕ

-- THE SWEEP on t tracks in which column c + 1 does x c tr m, where tr are the tracks and m the mates in gap c
module _ (t : ℕ) (top bottom : List ℕ) (x : ℕ → (tr m : List ℕ) → Move) where
  -- the tracks and the mates in gap c; in gap 0 all tracks are free
  unfoldable pub state_by : ℕ → SweepState
  state_by zero = record { tracks = replicate t 0; mates = no_mates }
  state_by (suc c) =
      let s = state_by c in
      let y = x c s.tracks s.mates in
      record { tracks = after y.action s.tracks; mates = mates_after top bottom c y s.mates }

  -- the entries of the columns 1 to c: each column's "vertical edges from row 0 upward, then the horizontal edges leaving to the right"
  unfoldable pub drawn_by : ℕ → List ℕ
  drawn_by zero = []
  drawn_by (suc c) = drawn_by c ++ (verticals t (x c (state_by c).tracks (state_by c).mates).action ++ (state_by (suc c)).tracks)

-- THE COLUMNS ADDED: here g are the tracks in the gap after column n
-- net v still has strands there: it is extended
unfoldable pub remains : List ℕ → ℕ → Bool
remains g v = ltb 0 (many v g)

-- the tracks once the nets 1 to v are joined
unfoldable pub rest : List ℕ → ℕ → List ℕ
rest g zero = g
rest g (suc v) = clear (suc v) (rest g v)

-- "After column n, one column is added for each stretched net, lowest number first, joining its tracks": the columns of the nets 1 to v, on t tracks
unfoldable pub added : ℕ → List ℕ → ℕ → List ℕ
added t g zero = []
added t g (suc v) = added t g v ++ pick (remains g (suc v)) (verticals t (joining (rest g v) (suc v)) ++ rest g (suc v)) []

-- THE DRAWING of such a sweep
module _ (t : ℕ) (top bottom : List ℕ) (x : ℕ → (tr m : List ℕ) → Move) where
  -- "its width is n plus the columns that the sweep below adds after column n"
  unfoldable pub width_by : ℕ
  width_by = let g = (state_by t top bottom x (length top)).tracks in length top + count (remains g) 256

  -- the drawing: the columns 1 to n, then the columns added
  unfoldable pub layout_by : List ℕ
  layout_by = let g = (state_by t top bottom x (length top)).tracks in drawn_by t top bottom x (length top) ++ added t g 256

-- THE SWEEP AND ITS DRAWING on t tracks: every column does what `move` says
module _ (t : ℕ) (top bottom : List ℕ) where
  -- the tracks and the mates in gap c
  abbrev pub state : ℕ → SweepState
  state = state_by t top bottom (move t top bottom)

  -- the tracks in gap c
  abbrev pub gap : ℕ → List ℕ
  gap c = (state c).tracks

  -- what column c + 1 does in the sweep
  unfoldable pub move_at : ℕ → Move
  move_at c = move t top bottom c (state c).tracks (state c).mates

  -- the entries of the columns 1 to c
  abbrev pub drawn : ℕ → List ℕ
  drawn = drawn_by t top bottom (move t top bottom)

  -- the width and the layout
  abbrev pub width : ℕ
  width = width_by t top bottom (move t top bottom)

  abbrev pub layout : List ℕ
  layout = layout_by t top bottom (move t top bottom)
