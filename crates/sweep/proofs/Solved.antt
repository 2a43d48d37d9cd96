-- Every drawing is a solution. For every accepted channel and enough tracks the sweep keeps its invariant in each gap, and its layout is a solution on these tracks with the width that is reported.
use Prim.Native.Nat.{ℕ, ◌+◌, ◌*◌, ◌-◌, ◌≤◌, ◌/◌}
use mathlib.Core.Path.{◌≡◌}
use mathlib.Core.List.{List}
use native.Mathlib.Omega.{arith}
use lib.ListN.{length}
use Rattle.grid.specs.declared.Family.TheVariants.{TwoPin, ThreePin, ManyPin}
use Rattle.grid.specs.Channel.{density, family, tracks}
use Rattle.grid.specs.Grid.{Solution}
use Rattle.grid.proofs.Rows.{RowsFit, two_density, three_density, many-density}
use Rattle.sweep.specs.Drawing.{gap, width, layout}
use Rattle.sweep.proofs.Gaps.Held.{Enough, Held, tracks_enough}
use Rattle.sweep.proofs.Drawing.Sweep as sweep
use Rattle.sweep.proofs.Drawing.Whole.{layout_solution, layout-width}
-- THE TRACKS that are enough, and those of the channel are
pub use Rattle.sweep.proofs.Gaps.Held.{Enough, tracks_enough}

module _ (t : ℕ) (top bottom : List ℕ) (fit : RowsFit top bottom) (enough : Enough t top bottom) where
  -- THE GAPS: an open net has a strand; a net whose pins all lie left has none, or two or more; no net has more strands than pins to the left
  pub gaps : (c : ℕ) → c ≤ length top → Held t top bottom c (gap t top bottom c)
  gaps = sweep.invariant t top bottom fit enough

  -- THE LAYOUT IS A SOLUTION, with the width and the tracks reported
  pub solved : Solution top bottom (width t top bottom) t (layout t top bottom)
  solved = layout_solution t top bottom fit enough

  -- its length is "w × (2t + 1) entries"
  pub layout-length : length (layout t top bottom) ≡ width t top bottom * (2 * t + 1)
  layout-length = solved.wiring.size

  -- THE WIDTH: at most t/2 columns are added, so the slice length that refusal 8 calls for is enough
  pub width_most : width t top bottom ≤ length top + t / 2
  width_most = layout-width t top bottom fit enough

-- AT THE CHANNEL'S OWN TRACKS, of which there are enough
module _ (top bottom : List ℕ) (fit : RowsFit top bottom) where
  -- "At most d/2, rounded down, are added", where each net has two pins
  pub added_two : family top bottom ≡ TwoPin → width (tracks top bottom) top bottom ≤ length top + density top bottom / 2
  added_two e = omega (arith, width_most (tracks top bottom) top bottom fit (tracks_enough top bottom), two_density top bottom e)

  -- document 02, Job 3: "At most half the tracks, rounded down, are added as columns"
  pub added_three : family top bottom ≡ ThreePin → width (tracks top bottom) top bottom ≤ length top + 3 * density top bottom / 2 / 2
  added_three e = omega (arith, width_most (tracks top bottom) top bottom fit (tracks_enough top bottom), three_density top bottom e)

  -- "at most d - 1", where a net has three or more
  pub added-many : family top bottom ≡ ManyPin → width (tracks top bottom) top bottom ≤ length top + (density top bottom - 1)
  added-many e = omega (arith, width_most (tracks top bottom) top bottom fit (tracks_enough top bottom), many-density top bottom e)
