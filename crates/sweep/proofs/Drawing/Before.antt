-- Where each column has a pin, a channel is drawn by the rules of its family alone, as it was before document 02's Job 7.
use Prim.Native.Nat.{ℕ, ◌<◌}
use mathlib.Core.Path.{◌≡◌}
use mathlib.Core.Bool.{false}
use mathlib.Core.List.{List}
use lib.ListN.{length}
use Rattle.sweep.specs.Drawing.{empty_at, move, move_before, state, width_by, width, layout_by, layout}
use Rattle.sweep.proofs.Drawing.Same.{same_width, same_layout}

-- WITHOUT EMPTY COLUMNS A CHANNEL IS DRAWN AS BEFORE
module _ (t : ℕ) (top bottom : List ℕ) (filled : (c : ℕ) → c < length top → empty_at top bottom c ≡ false) where
  -- its columns do what they did
  move_before_lem : (c : ℕ) → c < length top
      → let s = state t top bottom c in move t top bottom c s.tracks s.mates ≡ move_before t top bottom c s.tracks s.mates
  unfolding move
  move_before_lem c p = rw (filled c p)

  pub width_before_lem : width t top bottom ≡ width_by t top bottom (move_before t top bottom)
  width_before_lem = same_width t top bottom (move t top bottom) (move_before t top bottom) move_before_lem

  pub layout_before_lem : layout t top bottom ≡ layout_by t top bottom (move_before t top bottom)
  layout_before_lem = same_layout t top bottom (move t top bottom) (move_before t top bottom) move_before_lem
