-- What the router's code goes by: every column's action fits its gap, the layout is a solution, and its length is the slice length.
use Prim.Native.Nat.{ℕ, ◌+◌, ◌*◌, ◌/◌, ◌≤◌}
use mathlib.Core.Path.{◌≡◌}
use mathlib.Core.Logic.{◌⊎◌, inl, inr}
use mathlib.Core.List.{List}
use Rattle.grid.specs.Grid.{Solution}
use native.Mathlib.Omega.{arith}
use native.Mathlib.Nat.{mul-le-mul_right}
use native.Mathlib.Decide.{ℕ_discrete}
use lib.ListN.{length, get_or}
use Rattle.grid.specs.Channel.{tracks, rows_refused}
use Rattle.grid.proofs.Rows.{RowsFit, rows_fit, pin_small}
use Rattle.sweep.specs.Drawing.{gap, move_at}
use Rattle.sweep.specs.Working.{nobody, top_net, bottom_net, ended_net}
use Rattle.router.specs.Answers.{width, layout, formula_length, slice_length}
use Rattle.router.specs.Working.{EachFits}
use Rattle.sweep.proofs.Solved.{Enough, tracks_enough, width_most}
use Rattle.sweep.proofs.Solved as Solved
use Rattle.sweep.proofs.Columns.Sound.{Known, pin_net, strand_net, applies, plain}
use Rattle.sweep.proofs.Drawing.Sweep.{sound, pair_small}
use Rattle.sweep.proofs.Drawing.Past.{gap_nets}
use Rattle.sweep.proofs.Drawing.Past as Past

-- ENOUGH TRACKS for an accepted channel
module _ (t : ℕ) (top bottom : List ℕ) (fit : RowsFit top bottom) (enough : Enough t top bottom) where
  -- THE TRACKS THAT A COLUMN GIVES ARE FREE BY THEN, and its nets are the column's, numbered up to 256
  pub column_fits : EachFits t top bottom
  column_fits c p =
      let s = sound t top bottom fit enough c p in
      record {
        applies = applies t (get_or top c 0) (get_or bottom c 0) (gap t top bottom c) (move_at t top bottom c).action s small;
        plain = plain t (get_or top c 0) (get_or bottom c 0) (gap t top bottom c) (move_at t top bottom c).action s;
        double = (pair_small t top bottom fit enough c p).0;
        single = (pair_small t top bottom fit enough c p).1;
      }
    where
      pin : (v : ℕ) → (get_or top c 0 ≡ v) ⊎ (get_or bottom c 0 ≡ v) → v ≤ 256
      pin v here = go (ℕ_discrete v 0)
        where
          go : Dec (v ≡ 0) → v ≤ 256
          go (yes e) = omega arith
          go (no n) = pin_small top bottom fit v c n here

      small : (v : ℕ) → Known (get_or top c 0) (get_or bottom c 0) (gap t top bottom c) v → v ≤ 256
      small v (pin_net (nobody e)) = omega arith
      small v (pin_net (top_net e)) = pin v (inl e)
      small v (pin_net (bottom_net e)) = pin v (inr e)
      small v (pin_net (ended_net e)) = omega arith
      small v (strand_net s) = omega (arith, gap_nets t top bottom fit enough c s.index, s.holds)

-- AN ACCEPTED CHANNEL on its own tracks
module _ (top bottom : List ℕ) (ok : rows_refused top bottom 256 ≡ 0) where
  -- what the rows are then
  fit : RowsFit top bottom
  fit = rows_fit top bottom ok

  -- THE LAYOUT IS A SOLUTION
  pub solved : Solution top bottom (width top bottom) (tracks top bottom) (layout top bottom)
  solved = Solved.solved (tracks top bottom) top bottom fit (tracks_enough top bottom)

  -- its length is "w × (2t + 1) entries"
  pub layout-length : length (layout top bottom) ≡ width top bottom * (2 * tracks top bottom + 1)
  layout-length = solved.wiring.size

  -- the width is n at least
  pub width-least : length top ≤ width top bottom
  width-least = Past.width-least (tracks top bottom) top bottom

  -- n and half the tracks at most
  pub width_half : width top bottom ≤ length top + tracks top bottom / 2
  width_half = width_most (tracks top bottom) top bottom fit (tracks_enough top bottom)

  -- THE SLICE LENGTH IS THE LAYOUT'S
  pub layout_fills : length (layout top bottom) ≡ slice_length top bottom
  unfolding slice_length
  layout_fills = layout-length

  -- and at most document 01's formula
  pub within_formula : slice_length top bottom ≤ formula_length (length top) (tracks top bottom)
  unfolding slice_length
  within_formula = mul-le-mul_right (2 * tracks top bottom + 1) width_half
