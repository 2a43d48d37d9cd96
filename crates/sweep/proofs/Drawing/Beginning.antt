-- A channel of two-pin nets is drawn by the columns so far; so two of them are drawn alike on t tracks as far as they agree: gaps, moves, columns.
use Prim.Native.Nat.{ℕ, zero, suc, ◌+◌, ◌*◌, ◌-◌, ◌≤◌, ◌<◌}
use mathlib.Core.Path.{◌≡◌, refl, sym, ap, ap₂, ◌∙◌}
use mathlib.Core.List.{List, [], ◌++◌, append_assoc, append-nil}
use native.Mathlib.Omega.{arith}
use native.Mathlib.Nat.{add-zero}
use lib.ListN.{length, get_or, take}
use lib.Seq.{take_at, take-take, get_or-take}
use Rattle.grid.specs.declared.Family.TheVariants.{TwoPin}
use Rattle.grid.specs.Channel.{times, left, density, family}
use Rattle.grid.proofs.Rows.{RowsFit}
use Rattle.sweep.specs.declared.Move.{Move}
use Rattle.sweep.specs.Tracks.{verticals}
use Rattle.sweep.specs.Drawing.{move, SweepState, state_by, state, gap, move_at, drawn_by, drawn, width, layout}
use Rattle.sweep.proofs.Gaps.Held.{Enough, two_enough}
use Rattle.sweep.proofs.Rules.SoFar.{move_so_far, move_so_far_lem}
use Rattle.sweep.proofs.Drawing.Sweep.{invariant}
use Rattle.sweep.proofs.Drawing.Past.{drawn_length_past, width-least, layout-drawn}
use Rattle.sweep.proofs.Drawing.Same.{same_state, same_drawn}

-- THE FIRST COLUMNS OF A LAYOUT
-- the columns 1 to k + m begin with the columns 1 to k
drawn_more : (t : ℕ) (top bottom : List ℕ) (k m : ℕ) → (r : List ℕ) × (drawn t top bottom (k + m) ≡ drawn t top bottom k ++ r)
unfolding drawn_by move_at
drawn_more t top bottom k zero = ([], rw (add-zero, append-nil))
drawn_more t top bottom k (suc m) =
    let (r, e) = drawn_more t top bottom k m in
    let column = verticals t (move_at t top bottom (k + m)).action ++ gap t top bottom (suc (k + m)) in
    let n : k + suc m ≡ suc (k + m) = omega arith in
    (r ++ column, ap (drawn t top bottom) n ∙ ap (λ (z : List ℕ). z ++ column) e ∙ append_assoc (drawn t top bottom k) r column)

-- so the first k columns of the layout are the columns 1 to k, those added among them
pub layout_begins : (t : ℕ) (top bottom : List ℕ) → length top ≡ length bottom → (k : ℕ) → k ≤ width t top bottom
    → take (k * (2 * t + 1)) (layout t top bottom) ≡ drawn t top bottom k
layout_begins t top bottom same k p =
    let (r, e) = drawn_more t top bottom k (width t top bottom - k) in
    let n : k + (width t top bottom - k) ≡ width t top bottom = omega arith in
    ap (take (k * (2 * t + 1))) (layout-drawn t top bottom same ∙ sym (ap (drawn t top bottom) n) ∙ e)
    ∙ take_at (drawn t top bottom k) r (k * (2 * t + 1)) (drawn_length_past t top bottom k)

-- ROWS THAT AGREE IN THEIR FIRST k PLACES
module _ (k : ℕ) (l m : List ℕ) (e : take k l ≡ take k m) where
  -- agree in fewer
  take_same : (c : ℕ) → c ≤ k → take c l ≡ take c m
  take_same c p = sym (take-take c k l p) ∙ ap (take c) e ∙ take-take c k m p

  -- and in each of them
  at_same : (c : ℕ) → c < k → get_or l c 0 ≡ get_or m c 0
  at_same c p = sym (get_or-take k l c 0 p) ∙ ap (λ (z : List ℕ). get_or z c 0) e ∙ get_or-take k m c 0 p

-- THE SWEEP BY THE COLUMNS SO FAR, of any rows
module _ (t : ℕ) (top bottom : List ℕ) where
  -- what column c + 1 does
  abbrev pub column_so_far : ℕ → (tr m : List ℕ) → Move
  column_so_far c tr m = move_so_far (left top bottom c) tr t (get_or top c 0) (get_or bottom c 0)

  -- the tracks in gap c, and the entries of the columns 1 to c
  abbrev pub gap_so_far : ℕ → List ℕ
  gap_so_far c = (state_by t top bottom column_so_far c).tracks

  abbrev pub drawn_so_far : ℕ → List ℕ
  drawn_so_far = drawn_by t top bottom column_so_far

-- of rows that agree it is the same, as far as they do
module _ (t : ℕ) (top bottom top' bottom' : List ℕ) (k : ℕ) (tops : take k top ≡ take k top') (bottoms : take k bottom ≡ take k bottom') where
  -- the pins so far
  pub left_same : (c : ℕ) → c ≤ k → left top bottom c ≡ left top' bottom' c
  unfolding left
  left_same c p = ap₂ {C = ℕ → ℕ} (λ (x y : List ℕ) (v : ℕ). times v x + times v y) (take_same k top top' tops c p) (take_same k bottom bottom' bottoms c p)

  -- what a column does on the same tracks
  pub column_so_far_same : (c : ℕ) → c < k → (tr m m' : List ℕ) → column_so_far t top bottom c tr m ≡ column_so_far t top' bottom' c tr m'
  column_so_far_same c p tr m m' = rw (left_same c (omega arith), at_same k top top' tops c p, at_same k bottom bottom' bottoms c p)

  -- the gaps
  pub gap_so_far_same : (c : ℕ) → c ≤ k → gap_so_far t top bottom c ≡ gap_so_far t top' bottom' c
  unfolding state_by
  gap_so_far_same zero p = refl
  gap_so_far_same (suc c) p = rw (gap_so_far_same c (omega arith), column_so_far_same c p (gap_so_far t top' bottom' c) [] [])

  -- the columns
  pub drawn_so_far_same : (c : ℕ) → c ≤ k → drawn_so_far t top bottom c ≡ drawn_so_far t top' bottom' c
  unfolding drawn_by
  drawn_so_far_same zero p = refl
  drawn_so_far_same (suc c) p =
      rw (
        drawn_so_far_same c (omega arith),
        gap_so_far_same c (omega arith),
        gap_so_far_same (suc c) p,
        column_so_far_same c p (gap_so_far t top' bottom' c) [] [],
      )

-- A CHANNEL OF TWO-PIN NETS of density t at most
pub record TwoPinOn (t : ℕ) (top bottom : List ℕ) : Type 0 where
  pub fit : RowsFit top bottom
  pub two : family top bottom ≡ TwoPin
  pub dense : density top bottom ≤ t

-- ITS SWEEP GOES BY THE COLUMNS SO FAR
module _ (t : ℕ) (top bottom : List ℕ) (p : TwoPinOn t top bottom) where
  -- t tracks are enough
  enough : Enough t top bottom
  enough = two_enough t top bottom p.two p.dense

  -- what each column does
  each_so_far : (c : ℕ) → c < length top
      → let s = state t top bottom c in move t top bottom c s.tracks s.mates ≡ column_so_far t top bottom c s.tracks s.mates
  each_so_far c i =
      move_so_far_lem top bottom p.fit p.two c (gap t top bottom c) (invariant t top bottom p.fit enough c (omega arith)) (state t top bottom c).mates

  -- the gaps
  pub gap_so_far_lem : (c : ℕ) → c ≤ length top → gap t top bottom c ≡ gap_so_far t top bottom c
  gap_so_far_lem c i = ap (λ (s : SweepState). s.tracks) (same_state t top bottom (move t top bottom) (column_so_far t top bottom) each_so_far c i)

  -- the columns
  pub drawn_so_far_lem : (c : ℕ) → c ≤ length top → drawn t top bottom c ≡ drawn_so_far t top bottom c
  drawn_so_far_lem = same_drawn t top bottom (move t top bottom) (column_so_far t top bottom) each_so_far

-- TWO OF THEM whose first k columns agree
module _ (t : ℕ) (top bottom top' bottom' : List ℕ) (one : TwoPinOn t top bottom) (other : TwoPinOn t top' bottom')
    (k : ℕ) (inside : k ≤ length top) (inside' : k ≤ length top') (tops : take k top ≡ take k top') (bottoms : take k bottom ≡ take k bottom') where
  -- THE GAPS
  pub gap_same : (c : ℕ) → c ≤ k → gap t top bottom c ≡ gap t top' bottom' c
  gap_same c p =
      gap_so_far_lem t top bottom one c (omega arith)
      ∙ gap_so_far_same t top bottom top' bottom' k tops bottoms c p
      ∙ sym (gap_so_far_lem t top' bottom' other c (omega arith))

  -- THE MOVES
  pub move_same : (c : ℕ) → c < k → move_at t top bottom c ≡ move_at t top' bottom' c
  unfolding move_at
  move_same c p =
      each_so_far t top bottom one c (omega arith)
      ∙ ap (λ (tr : List ℕ). column_so_far t top bottom c tr []) (gap_same c (omega arith))
      ∙ column_so_far_same t top bottom top' bottom' k tops bottoms c p (gap t top' bottom' c) [] []
      ∙ sym (each_so_far t top' bottom' other c (omega arith))

  -- THE COLUMNS DRAWN
  pub drawn_same : (c : ℕ) → c ≤ k → drawn t top bottom c ≡ drawn t top' bottom' c
  drawn_same c p =
      drawn_so_far_lem t top bottom one c (omega arith)
      ∙ drawn_so_far_same t top bottom top' bottom' k tops bottoms c p
      ∙ sym (drawn_so_far_lem t top' bottom' other c (omega arith))

  -- AND THE LAYOUTS BEGIN ALIKE
  pub layout_same : take (k * (2 * t + 1)) (layout t top bottom) ≡ take (k * (2 * t + 1)) (layout t top' bottom')
  layout_same =
      layout_begins t top bottom one.fit.same k (omega (arith, width-least t top bottom))
      ∙ drawn_same k (omega arith)
      ∙ sym (layout_begins t top' bottom' other.fit.same k (omega (arith, width-least t top' bottom')))
