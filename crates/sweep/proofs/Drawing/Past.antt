-- The sweep past column n: each further column joins the lowest-numbered net left, so the columns added are the columns n + 1 to the width of the sweep itself.
use Prim.Native.Nat.{ℕ, zero, suc, ◌+◌, ◌*◌, ◌-◌, ◌≤◌, ◌<◌}
use mathlib.Core.Path.{◌≡◌, refl, sym, ap, ap₂, ◌∙◌, subst}
use mathlib.Core.Logic.{⊎_elim}
use mathlib.Core.Bool.{Bool, true, false}
use mathlib.Core.List.{List, [], ◌++◌, append_assoc, append-nil}
use native.Mathlib.Omega.{arith}
use native.Mathlib.Nat.{add-zero, add-suc, zero-mul, suc-mul}
use native.Mathlib.Numerals.{add-one}
use native.Mathlib.Decide.{dec_lt}
use lib.ListN.{length, get_or, length-append, length-replicate, drop_of_length-le, get_or-eq_default}
use Rattle.grid.specs.Channel.{pick, bit, times, sum, count, right}
use Rattle.grid.proofs.Tests.{ne_eqb, below_or}
use Rattle.grid.proofs.Counting.{times_at, none_times, small_in}
use Rattle.grid.proofs.Rows.{RowsFit}
use Rattle.sweep.specs.declared.Move.{Move}
use Rattle.sweep.specs.Tracks.{many, verticals, after}
use Rattle.sweep.specs.ThreePin.{still}
use Rattle.sweep.specs.Drawing.{extended_net, joining, empty_at, empty_column, state_by, gap, move_at, drawn_by, drawn, remains, rest, added}
use Rattle.sweep.specs.Drawing.{width_by, width, layout_by, layout}
use Rattle.sweep.proofs.Tracks.Strands.{many-times}
use Rattle.sweep.proofs.Tracks.After.{after-length}
use Rattle.sweep.proofs.Columns.Entries.{verticals-length}
use Rattle.sweep.proofs.Gaps.Held.{Enough, Held, no_more}
use Rattle.sweep.proofs.Gaps.Keeps.{keeps}
use Rattle.sweep.proofs.Rules.Empty.{empty_at_lem, empty_good}
use Rattle.sweep.proofs.Drawing.Sweep.{invariant}
use Rattle.sweep.proofs.Drawing.Added.{rest_back, rest-times, remains-some, rest_same}
use Rattle.sweep.proofs.Drawing.Whole.{over}
use Rattle.sweep.proofs.Drawing.Joined.{lowest-extended, column_does, gap-after}

-- the number that brings a count over j
count_at : (p : ℕ → Bool) (j m : ℕ) → j < count p m → (v : ℕ) × (v < m) × (count p v ≡ j) × (p (suc v) ≡ true)
unfolding count sum
count_at p j zero h = absurd (omega arith)
count_at p j (suc m) h = go (λ q. count_at p j m q) (dec_lt j (count p m)) (p (suc m)) refl h
  where
    go : (j < count p m → (v : ℕ) × (v < m) × (count p v ≡ j) × (p (suc v) ≡ true)) → Dec (j < count p m) → (b : Bool) → p (suc m) ≡ b
        → j < count p m + bit b → (v : ℕ) × (v < suc m) × (count p v ≡ j) × (p (suc v) ≡ true)
    go ih (yes q) b e h = let (v, r, i, f) = ih q in (v, omega arith, i, f)
    go ih (no q) true e h = (m, omega arith, omega arith, e)
    go ih (no q) false e h = absurd (omega arith)

-- THE ENTRIES, on any rows
module _ (t : ℕ) (top bottom : List ℕ) where
  -- each gap has t tracks
  pub gap_length : (c : ℕ) → length (gap t top bottom c) ≡ t
  unfolding state_by move_at
  gap_length zero = length-replicate t 0
  gap_length (suc c) = after-length (move_at t top bottom c).action (gap t top bottom c) ∙ gap_length c

  -- EACH COLUMN HAS 2t + 1 ENTRIES
  pub drawn_length_past : (c : ℕ) → length (drawn t top bottom c) ≡ c * (2 * t + 1)
  unfolding drawn_by move_at
  drawn_length_past zero = sym (zero-mul (2 * t + 1))
  drawn_length_past (suc c) =
      let x = verticals t (move_at t top bottom c).action in
      let y = gap t top bottom (suc c) in
      omega (
        arith,
        length-append (drawn t top bottom c) (x ++ y),
        length-append x y,
        verticals-length t (move_at t top bottom c).action,
        gap_length (suc c),
        drawn_length_past c,
        suc-mul c (2 * t + 1),
      )

  -- the width is n at least
  pub width-least : length top ≤ width t top bottom
  unfolding width_by
  width-least = omega arith

-- PAST COLUMN n, of rows of one length
module _ (t : ℕ) (top bottom : List ℕ) (same : length top ≡ length bottom) where
  -- no column has a pin
  empty_past : (c : ℕ) → length top ≤ c → empty_at top bottom c ≡ true
  empty_past c p = empty_at_lem top bottom c (get_or-eq_default top 0 p) (get_or-eq_default bottom 0 (omega arith))

  -- and no net has pins to come
  pub right_past : (c v : ℕ) → length top ≤ c → right top bottom c v ≡ 0
  unfolding right times
  right_past c v p = rw (drop_of_length-le top {i = c} p, drop_of_length-le bottom {i = c} (omega arith))

  -- WHAT A COLUMN DOES: it joins, and does nothing else
  pub move_past : (c : ℕ) → length top ≤ c → move_at t top bottom c ≡ still (empty_column top bottom c (gap t top bottom c))
  move_past c p = column_does t top bottom c (empty_past c p)

  -- where the nets up to v of the tracks g are joined and net v + 1 remains
  module _ (g : List ℕ) (c v : ℕ) (past : length top ≤ c) (here : gap t top bottom c ≡ rest g v) (more : remains g (suc v) ≡ true) where
    -- it is the lowest-numbered net
    next_net : extended_net top bottom c (rest g v) ≡ suc v
    next_net =
        lowest-extended top bottom c (rest g v) (suc v)
        (omega arith, right_past c (suc v) past, omega (arith, rest-times g v (suc v) (omega arith), remains-some g (suc v) more))
        (λ u x. let (j, p, i) = times_at u (rest g v) x.2 in (rest_back g v j u x.0 i).1)

    -- so the column joins it
    next_move : move_at t top bottom c ≡ still (joining (rest g v) (suc v))
    unfolding empty_column
    next_move = move_past c past ∙ rw (here, next_net, ne_eqb (suc v) 0 (omega arith))

    -- after which the tracks are those left
    next_gap : gap t top bottom (suc c) ≡ rest g (suc v)
    unfolding rest
    next_gap = gap-after t top bottom c (empty_past c past) ∙ rw (here, next_net)

    -- and the column is the one added
    next_drawn : drawn t top bottom (suc c) ≡ drawn t top bottom c ++ (verticals t (joining (rest g v) (suc v)) ++ rest g (suc v))
    unfolding drawn_by move_at
    next_drawn = ap₂ (λ (x : Move) (l : List ℕ). drawn t top bottom c ++ (verticals t x.action ++ l)) next_move next_gap

  -- THE TRACKS once the nets up to v are joined are those left
  pub gap_past : (v : ℕ) → let g = gap t top bottom (length top) in gap t top bottom (length top + count (remains g) v) ≡ rest g v
  unfolding count sum rest
  gap_past zero = rw add-zero
  gap_past (suc v) = go (remains g (suc v)) refl (gap_past v)
    where
      g : List ℕ
      g = gap t top bottom (length top)

      go : (q : Bool) → remains g (suc v) ≡ q → gap t top bottom (length top + count (remains g) v) ≡ rest g v
          → gap t top bottom (length top + (count (remains g) v + bit q)) ≡ rest g (suc v)
      go true e h = rw (add-one, add-suc) (next_gap g (length top + count (remains g) v) v (omega arith) h e)
      go false e h = rw add-zero (h ∙ sym (rest_same g v e))

  -- AND THE COLUMNS DRAWN are the columns 1 to n and those added
  pub drawn_past : (v : ℕ) → let g = gap t top bottom (length top) in
      drawn t top bottom (length top + count (remains g) v) ≡ drawn t top bottom (length top) ++ added t g v
  unfolding count sum added
  drawn_past zero = rw (add-zero, append-nil)
  drawn_past (suc v) = go (remains g (suc v)) refl (drawn_past v)
    where
      g : List ℕ
      g = gap t top bottom (length top)

      column : List ℕ
      column = verticals t (joining (rest g v) (suc v)) ++ rest g (suc v)

      go : (q : Bool) → remains g (suc v) ≡ q → drawn t top bottom (length top + count (remains g) v) ≡ drawn t top bottom (length top) ++ added t g v
          → drawn t top bottom (length top + (count (remains g) v + bit q)) ≡ drawn t top bottom (length top) ++ (added t g v ++ pick q column [])
      go true e h =
          rw (add-one, add-suc) (next_drawn g (length top + count (remains g) v) v (omega arith) (gap_past v) e
          ∙ ap (λ (l : List ℕ). l ++ column) h
          ∙ append_assoc (drawn t top bottom (length top)) (added t g v) column)
      go false e h = rw (add-zero, append-nil) h

  -- THE LAYOUT is all columns up to the width
  pub layout-drawn : layout t top bottom ≡ drawn t top bottom (width t top bottom)
  unfolding layout_by width_by
  layout-drawn = sym (drawn_past 256)

  -- BEFORE THE WIDTH a net is left
  pub some_left : (c : ℕ) → length top ≤ c → c < width t top bottom → (v : ℕ) × (0 < v) × (v ≤ 256) × (0 < many v (gap t top bottom c))
  unfolding width_by
  some_left c p q =
      let g = gap t top bottom (length top) in
      let (v, s, e, r) = count_at (remains g) (c - length top) 256 (omega arith) in
      let here : gap t top bottom c ≡ rest g v = ap (gap t top bottom) (let z : c ≡ length top + count (remains g) v = omega arith in z) ∙ gap_past v in
      (suc v, omega arith, s, rw here (omega (arith, many-times (suc v) (rest g v), rest-times g v (suc v) (omega arith), remains-some g (suc v) r)))

-- OF ROWS THAT FIT, on enough tracks
module _ (t : ℕ) (top bottom : List ℕ) (fit : RowsFit top bottom) (enough : Enough t top bottom) where
  -- AT THE WIDTH none is left
  pub none_left : (v : ℕ) → 0 < v → many v (gap t top bottom (width t top bottom)) ≡ 0
  unfolding width_by
  none_left v p =
      let l = rest (gap t top bottom (length top)) 256 in
      rw (gap_past t top bottom fit.same 256)
      (many-times v l ∙ none_times v l (λ j q e. omega (arith, over t top bottom fit enough j)))

  -- THE INVARIANT HOLDS IN EVERY GAP, past column n too
  pub gap_held : (c : ℕ) → Held t top bottom c (gap t top bottom c)
  unfolding state_by move_at
  gap_held zero = invariant t top bottom fit enough 0 (omega arith)
  gap_held (suc c) = ⊎_elim (λ p. invariant t top bottom fit enough (suc c) p) (past (gap_held c)) (below_or c (length top))
    where
      past : Held t top bottom c (gap t top bottom c) → length top ≤ c → Held t top bottom (suc c) (gap t top bottom (suc c))
      past h p =
          let (s, f) = empty_good top bottom c (gap t top bottom c) h (empty_past t top bottom fit.same c p) in
          subst (λ (x : Move). Held t top bottom (suc c) (after x.action (gap t top bottom c))) (sym (move_past t top bottom fit.same c p))
          (keeps top bottom c (gap t top bottom c) h (empty_column top bottom c (gap t top bottom c)) s f)

  -- SO ITS NETS are numbered up to 256
  pub gap_nets : (c j : ℕ) → get_or (gap t top bottom c) j 0 ≤ 256
  gap_nets c = small_in (gap t top bottom c) (no_more top bottom fit c (gap t top bottom c) (gap_held c))
