-- Two sweeps of one channel whose columns do the same draw the same.
use Prim.Native.Nat.{ℕ, zero, suc, ◌≤◌, ◌<◌}
use mathlib.Core.Path.{◌≡◌, refl}
use mathlib.Core.List.{List}
use native.Mathlib.Omega.{arith}
use lib.ListN.{length}
use Rattle.sweep.specs.declared.Move.{Move}
use Rattle.sweep.specs.Drawing.{state_by, drawn_by, width_by, layout_by}

module _ (t : ℕ) (top bottom : List ℕ) (x y : ℕ → (tr m : List ℕ) → Move)
    (same : (c : ℕ) → c < length top → let s = state_by t top bottom x c in x c s.tracks s.mates ≡ y c s.tracks s.mates) where
  -- the tracks and the mates in each gap are the same
  pub same_state : (c : ℕ) → c ≤ length top → state_by t top bottom x c ≡ state_by t top bottom y c
  unfolding state_by
  same_state zero p = refl
  same_state (suc c) p = rw (← same_state c (omega arith), same c p)

  -- so are the columns
  pub same_drawn : (c : ℕ) → c ≤ length top → drawn_by t top bottom x c ≡ drawn_by t top bottom y c
  unfolding drawn_by
  same_drawn zero p = refl
  same_drawn (suc c) p = rw (same_drawn c (omega arith), ← same_state c (omega arith), ← same_state (suc c) p, same c p)

  -- and the drawing
  pub same_width : width_by t top bottom x ≡ width_by t top bottom y
  unfolding width_by
  same_width = rw (same_state (length top) (omega arith))

  pub same_layout : layout_by t top bottom x ≡ layout_by t top bottom y
  unfolding layout_by
  same_layout = rw (same_state (length top) (omega arith), same_drawn (length top) (omega arith))
