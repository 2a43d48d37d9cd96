-- A drawing of document 01 has at least as many tracks as the density, loose ends or not. Assumes nothing.
use Prim.Native.Nat.{ℕ, suc, ◌+◌, ◌≤◌, ◌<◌}
use mathlib.Core.Path.{◌≡◌, ◌∙◌}
use mathlib.Core.Logic.{◌≢◌, inl, inr}
use mathlib.Core.Bool.{true}
use mathlib.Core.List.{List}
use lib.ListN.{length, drop, length-take, length-drop}
use native.Mathlib.Omega.{arith}
use native.Mathlib.Decide.{dec_lt}
use Rattle.grid.specs.Channel.{times, is_open, open_at, density}
use Rattle.grid.specs.Grid.{Linked, here, up, across, back, join, Ends, low, vertical_of, horizontal_of, Wiring, column_of}
use Rattle.grid.proofs.Counting.{holds_times, at_below, pigeonhole}
use Rattle.grid.proofs.Rows.{HasPin, left_at, right_at, open_sides, density_most}

-- where no entry N leaves column c, what N links lies on one side of the gap after it
pub stays : {v h : ℕ → ℕ → ℕ} {N x y x' y' : ℕ} (c : ℕ) → ((j : ℕ) → h c j ≢ N) → Linked v h N x y x' y'
    → (x ≤ c → x' ≤ c) × (x' ≤ c → x ≤ c)
stays c none here = (λ p. p, λ p. p)
stays c none (up e) = (λ p. p, λ p. p)
stays {h} {N} c none (across {x} {j} e) = (λ p. let q : x ≢ c = λ i. none j (rw i at e) in omega arith, λ p. omega arith)
stays c none (back l) = let r = stays c none l in (r.1, r.0)
stays c none (join l m) = let r = stays c none l in let s = stays c none m in (λ p. s.0 (r.0 p), λ p. r.1 (s.1 p))

-- the entries that leave a column, as a list
abbrev pub leaving : (D : List ℕ) (t x : ℕ) → List ℕ
leaving D t x = drop (t + 1) (column_of D t x)

module _ (top bottom : List ℕ) (w t : ℕ) (D : List ℕ) (same : length top ≡ length bottom) (S : Wiring top bottom w t D) where
  -- a pin's edge ends in its column
  pin_end : (N x : ℕ) → N ≢ 0 → HasPin top bottom N x → (y : ℕ) × Ends (vertical_of D t) (horizontal_of D t) N x x y
  pin_end N x n (inl e) = (t, low (S.top_pins x (omega (arith, S.covers, at_below top x N n e)) ∙ e))
  pin_end N x n (inr e) = (0, low (S.bottom_pins x (omega (arith, S.covers, at_below bottom x N n e)) ∙ e))

  -- a net that is open at the gap after a column has an entry that leaves it: else its pins on both sides were not linked
  crosses : (c N : ℕ) → N ≢ 0 → is_open top bottom (suc c) N ≡ true → 0 < times N (leaving D t c)
  unfolding horizontal_of
  crosses c N n o = go (dec_lt 0 (times N (leaving D t c)))
    where
      go : Dec (0 < times N (leaving D t c)) → 0 < times N (leaving D t c)
      go (yes q) = q
      go (no q) =
          let none : (j : ℕ) → horizontal_of D t c j ≢ N = λ j e. q (holds_times (leaving D t c) j N (at_below (leaving D t c) j N n e) e) in
          let (l, r) = open_sides top bottom (suc c) N o in
          let (x, p, a) = left_at top bottom N (suc c) l in
          let (x', p', a') = right_at top bottom N (suc c) r in
          absurd (omega (arith, (stays c none ((S.pieces N n).linked (pin_end N x n a).1 (pin_end N x' n a').1)).0 (omega arith)))

  -- so the open nets of a gap are no more than its tracks
  open_le : (c : ℕ) → open_at top bottom (suc c) ≤ t
  unfolding open_at
  open_le c =
      let s : length (leaving D t c) ≤ t = simp (length-drop, length-take) (omega arith) in
      omega (arith, pigeonhole (is_open top bottom (suc c)) (leaving D t c) 256 (λ v o. crosses c (suc v) (omega arith) o))

  -- NO WIRING HAS FEWER TRACKS THAN THE DENSITY, and so no solution
  pub density_le : density top bottom ≤ t
  density_le = density_most top bottom t open_le
