-- Document 02, Job 7, "Empty columns put to work": what a column without pins draws; that a channel without such columns is drawn as before.
use Rattle.std.specs.Prelude.{ℕ, suc, ◌+◌, ◌/◌, ◌≤◌, ◌<◌, ◌≡◌, ◌≢◌, List, ◌++◌, length, get_or, replicate}
use Rattle.grid.specs.Channel.{times, right, tracks}
use Rattle.grid.specs.Grid.{column_of, Solution}
use Rattle.sweep.specs.Tracks.{clear, verticals}
use Rattle.sweep.specs.Drawing.{joining, gap, move_before, width_by, layout_by}
use Rattle.router.specs.Answers.{width, layout}
use Rattle.demands.specs.Table.{LetsThrough, end, of_rows}

-- COLUMN c + 1 of a channel
module _ (top bottom : List ℕ) (c : ℕ) where
  -- "a column has no pin"
  abbrev pub Empty : Type 0
  Empty = (get_or top c 0 ≡ 0) × (get_or bottom c 0 ≡ 0)

  -- the net of each track in the gap left of it
  abbrev pub tracks_left : List ℕ
  tracks_left = gap (tracks top bottom) top bottom c

  -- net v "is stretched if all its pins lie left and it still has strands"
  abbrev pub Stretched : ℕ → Type 0
  Stretched v = (v ≢ 0) × (right top bottom c v ≡ 0) × (0 < times v tracks_left)

  -- "Where a column has no pin and a net is stretched, the sweep is to join the lowest-numbered stretched net there": a vertical joins its strands, which end
  -- there, and every other net's run straight. Where none is stretched there is no vertical edge, and all strands run straight
  pub record JoinsThere : Type 0 where
    pub joins : (v : ℕ) → Stretched v → ((u : ℕ) → Stretched u → v ≤ u)
        → column_of (layout top bottom) (tracks top bottom) c ≡ verticals (tracks top bottom) (joining tracks_left v) ++ clear v tracks_left
    pub otherwise : ((v : ℕ) → Stretched v → ⊥) → column_of (layout top bottom) (tracks top bottom) c ≡ replicate (suc (tracks top bottom)) 0 ++ tracks_left

-- BEFORE: the drawing by the rules of the channel's sweep alone, whichever of the three it is
module _ (top bottom : List ℕ) where
  -- its width
  abbrev pub width_before : ℕ
  width_before = width_by (tracks top bottom) top bottom (move_before (tracks top bottom) top bottom)

  -- and its entries
  abbrev pub layout_before : List ℕ
  layout_before = layout_by (tracks top bottom) top bottom (move_before (tracks top bottom) top bottom)

-- A CHANNEL whose rows the table lets through, of any of the three kinds: "This holds for all sweeps"
pub record EmptyAtWork (top bottom : List ℕ) : Type 0 where
  pub empty : (c : ℕ) → c < length top → Empty top bottom c → JoinsThere top bottom c
  -- "A channel without empty columns is drawn as before"
  pub as_before : ((c : ℕ) → c < length top → Empty top bottom c → ⊥) → (width top bottom ≡ width_before top bottom) × (layout top bottom ≡ layout_before top bottom)
  -- "no channel gets wider than its columns plus half its tracks rounded down"
  pub half : width top bottom ≤ length top + tracks top bottom / 2
  -- and the drawing is a solution, as ever
  pub solution : Solution top bottom (width top bottom) (tracks top bottom) (layout top bottom)

-- ALL CHANNELS
abbrev pub EmptyColumnsWork : Type 0
EmptyColumnsWork = (top bottom : List ℕ) → LetsThrough (of_rows top bottom 256 end) → EmptyAtWork top bottom
