-- The layout is the columns 1 to n and the columns added, each of which fits; nothing leaves the last.
use Prim.Native.Nat.{ℕ, zero, suc, ◌+◌, ◌*◌, ◌≤◌, ◌<◌, ◌/◌}
use mathlib.Core.Path.{◌≡◌, refl, ◌∙◌}
use mathlib.Core.List.{List, ◌++◌}
use native.Mathlib.Omega.{arith}
use native.Mathlib.Decide.{ℕ_discrete}
use lib.ListN.{length, get_or, get_or-eq_default}
use Rattle.grid.specs.Channel.{count}
use Rattle.grid.specs.Grid.{column_of, Solution}
use Rattle.grid.proofs.Counting.{times_at, holds_times, at_below}
use Rattle.grid.proofs.Rows.{RowsFit, pin_right, no_right}
use Rattle.grid.proofs.Drawings.Columns.{Drawn, Lives, column_front, column_new, none, more, solution}
use Rattle.sweep.specs.Tracks.{verticals}
use Rattle.sweep.specs.Drawing.{state_by, gap, move_at, drawn_by, drawn, remains, rest, added, width_by, width, layout_by, layout}
use Rattle.sweep.proofs.Columns.Entries.{verticals-length}
use Rattle.sweep.proofs.Columns.Sound.{on, column}
use Rattle.sweep.proofs.Gaps.Held.{Enough, no_more}
use Rattle.sweep.proofs.Drawing.Sweep.{invariant, sound}
use Rattle.sweep.proofs.Drawing.Added.{rest_back, Done, added-drawn, added_few}

module _ (t : ℕ) (top bottom : List ℕ) (fit : RowsFit top bottom) (enough : Enough t top bottom) where
  -- where a pin's net has pins before, a strand of it comes in
  lives : (c : ℕ) → c < length top → Lives top bottom t c (on (gap t top bottom c))
  lives c p N m l here = let (i, q, e) = times_at N (gap t top bottom c)
      ((invariant t top bottom fit enough c (omega arith)).opens N m l (pin_right top bottom N c m here)) in (i, e)

  -- COLUMNS 1 TO n
  columns-drawn : (c : ℕ) → c ≤ length top → Drawn top bottom t c (drawn t top bottom c) (gap t top bottom c)
  unfolding drawn_by state_by move_at
  columns-drawn zero p = none top bottom t
  columns-drawn (suc c) p =
      more top bottom t (verticals t (move_at t top bottom c).action) (gap t top bottom (suc c))
      (columns-drawn c (omega arith))
      (verticals-length t _) (invariant t top bottom fit enough (suc c) p).size
      (column t (get_or top c 0) (get_or bottom c 0) (gap t top bottom c) (move_at t top bottom c).action (sound t top bottom fit enough c p))
      (lives c p)

  -- each has 2t + 1 entries
  drawn-length : (c : ℕ) → c ≤ length top → length (drawn t top bottom c) ≡ c * (2 * t + 1)
  drawn-length c p = (columns-drawn c p).size

  -- each is what its action draws, and the tracks in the gap after it
  drawn-column : (k : ℕ) → k ≤ length top → (c : ℕ) → c < k
      → column_of (drawn t top bottom k) t c ≡ verticals t (move_at t top bottom c).action ++ gap t top bottom (suc c)
  unfolding drawn_by move_at
  drawn-column zero p c q = absurd (omega arith)
  drawn-column (suc k) p c q = go (drawn-column k (omega arith) c) (ℕ_discrete c k)
    where
      size : length (drawn t top bottom k) ≡ k * (2 * t + 1)
      size = drawn-length k (omega arith)

      go : (c < k → column_of (drawn t top bottom k) t c ≡ verticals t (move_at t top bottom c).action ++ gap t top bottom (suc c)) → Dec (c ≡ k)
          → column_of (drawn t top bottom (suc k)) t c ≡ verticals t (move_at t top bottom c).action ++ gap t top bottom (suc c)
      go ih (yes e) =
          rw e (column_new t k (drawn t top bottom k) (verticals t (move_at t top bottom k).action) (gap t top bottom (suc k)) size (verticals-length t _)
          (invariant t top bottom fit enough (suc k) p).size)
      go ih (no e) =
          column_front t k (drawn t top bottom k) (verticals t (move_at t top bottom k).action ++ gap t top bottom (suc k)) size c (omega arith)
          ∙ ih (omega arith)

  -- so are those of the layout
  pub layout-column : (c : ℕ) → c < length top → column_of (layout t top bottom) t c ≡ verticals t (move_at t top bottom c).action ++ gap t top bottom (suc c)
  unfolding layout_by
  layout-column c p =
      column_front t (length top) (drawn t top bottom (length top)) (added t (gap t top bottom (length top)) 256) (drawn-length (length top) (omega arith)) c p
      ∙ drawn-column (length top) (omega arith) c p

  -- after column n no net has a single strand
  finished : Done (gap t top bottom (length top))
  finished v n = (invariant t top bottom fit enough (length top) (omega arith)).done v n (no_right top bottom v (omega (arith, fit.same)))

  -- AND THE COLUMNS ADDED, up to net v
  whole : (v : ℕ) → Drawn top bottom t (length top + count (remains (gap t top bottom (length top))) v)
      (drawn t top bottom (length top) ++ added t (gap t top bottom (length top)) v) (rest (gap t top bottom (length top)) v)
  whole =
      added-drawn (gap t top bottom (length top)) top bottom t (invariant t top bottom fit enough (length top) (omega arith)).size (length top)
      (drawn t top bottom (length top))
      (columns-drawn (length top) (omega arith)) (λ x p. get_or-eq_default top 0 p) (λ x p. get_or-eq_default bottom 0 (omega (arith, fit.same)))
      finished

  -- no net is left after 256
  pub over : (j : ℕ) → get_or (rest (gap t top bottom (length top)) 256) j 0 ≡ 0
  over j = go (ℕ_discrete (get_or (rest (gap t top bottom (length top)) 256) j 0) 0)
    where
      go : Dec (get_or (rest (gap t top bottom (length top)) 256) j 0 ≡ 0) → get_or (rest (gap t top bottom (length top)) 256) j 0 ≡ 0
      go (yes e) = e
      go (no n) =
          let (f, p) = rest_back (gap t top bottom (length top)) 256 j (get_or (rest (gap t top bottom (length top)) 256) j 0) n refl in
          absurd (omega (
            arith,
            no_more top bottom fit (length top) (gap t top bottom (length top)) (invariant t top bottom fit enough (length top) (omega arith))
                (get_or (rest (gap t top bottom (length top)) 256) j 0) p,
            holds_times (gap t top bottom (length top)) j (get_or (rest (gap t top bottom (length top)) 256) j 0)
                (at_below (gap t top bottom (length top)) j (get_or (rest (gap t top bottom (length top)) 256) j 0) n f) f,
          ))

  -- THE LAYOUT IS A SOLUTION
  pub layout_solution : Solution top bottom (width t top bottom) t (layout t top bottom)
  unfolding width_by layout_by
  layout_solution =
      solution top bottom t (length top + count (remains (gap t top bottom (length top))) 256)
      (drawn t top bottom (length top) ++ added t (gap t top bottom (length top)) 256) (rest (gap t top bottom (length top)) 256) (whole 256) over
      (omega arith)

  -- AT MOST t/2 COLUMNS ARE ADDED
  pub layout-width : width t top bottom ≤ length top + t / 2
  unfolding width_by
  layout-width =
      omega (arith, added_few (gap t top bottom (length top)) finished 256, (invariant t top bottom fit enough (length top) (omega arith)).size)
