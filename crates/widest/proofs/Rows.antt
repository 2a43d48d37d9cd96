-- The rows written, with r empty columns and two halves of h: their entries, the pins left of each gap, that the channel is accepted and of two_pin nets, and
-- that it is 2h dense. Assumes nothing.
use Prim.Native.Nat.{ℕ, zero, suc, ◌+◌, ◌*◌, ◌≤◌, ◌<◌}
use mathlib.Core.Path.{◌≡◌, refl, sym, ap, ◌∙◌}
use mathlib.Core.Logic.{◌≢◌}
use mathlib.Core.Bool.{Bool, true, false}
use mathlib.Core.List.{List, [], ◌∷◌, ◌++◌}
use native.Mathlib.Omega.{arith}
use native.Mathlib.Decide.{dec_le, ℕ_discrete}
use lib.Dec.{eqb, leb}
use lib.ListN.{length, get_or, replicate, length-append, length-replicate, get_or-append}
use lib.Seq.{get_or-append-add, get_or_at}
use Rattle.grid.specs.declared.Family.TheVariants.{TwoPin}
use Rattle.grid.specs.Channel.{bit, pins, left, right, is_open, open_at, density, family, rows_refused}
use Rattle.grid.proofs.Tests.{eq-eqb, ne_eqb, le-leb, lt-leb, lt-ltb, bit_most}
use Rattle.grid.proofs.Counting.{zeros}
use Rattle.grid.proofs.Sums.{count_at_most, count_at_least}
use Rattle.grid.proofs.Rows.{RowsFit, before, left_suc, left-right, no_right, open_sides, density_most, open_density}
use Rattle.grid.proofs.Taken.{fit_accepted, two_pin_lem}
use Rattle.widest.specs.Widest.{by_two, halves, top_of, bottom_of}

-- COUNTING BY TWO

pub length-by_two : (first k : ℕ) → length (by_two first k) ≡ k
unfolding by_two
length-by_two first zero = refl
length-by_two first (suc k) = omega (arith, length-append (by_two first k) ((first + 2 * k) ∷ []), length-by_two first k)

by_two_at : (first k i : ℕ) → i < k → get_or (by_two first k) i 0 ≡ first + 2 * i
unfolding by_two
by_two_at first zero i p = absurd (omega arith)
by_two_at first (suc k) i p = go (ℕ_discrete i k) (by_two_at first k i)
  where
    go : Dec (i ≡ k) → (i < k → get_or (by_two first k) i 0 ≡ first + 2 * i) → get_or (by_two first k ++ (first + 2 * k) ∷ []) i 0 ≡ first + 2 * i
    go (yes e) ih = get_or_at (by_two first k) (first + 2 * k) [] 0 i (length-by_two first k ∙ sym e) ∙ omega arith
    go (no n) ih = get_or-append (by_two first k) ((first + 2 * k) ∷ []) 0 i (omega (arith, length-by_two first k)) ∙ ih (omega arith)

-- A ROW: r zeros, then two halves of h numbers

module _ (r h first second : ℕ) where
  row-length : length (halves r h first second) ≡ r + (h + h)
  row-length = simp (length-append, length-replicate, length-by_two) (omega arith)

  -- its entries, part by part
  row_empty : (c : ℕ) → c < r → get_or (halves r h first second) c 0 ≡ 0
  row_empty c p = get_or-append (replicate r 0) (by_two first h ++ by_two second h) 0 c (omega (arith, length-replicate {A = ℕ} r 0)) ∙ zeros r c

  past : (i : ℕ) → get_or (halves r h first second) (r + i) 0 ≡ get_or (by_two first h ++ by_two second h) i 0
  past i =
      ap (λ (k : ℕ). get_or (halves r h first second) (k + i) 0) (sym (length-replicate r 0))
      ∙ get_or-append-add (replicate r 0) (by_two first h ++ by_two second h) i 0

  row_first : (i : ℕ) → i < h → get_or (halves r h first second) (r + i) 0 ≡ first + 2 * i
  row_first i p =
      past i ∙ get_or-append (by_two first h) (by_two second h) 0 i (omega (arith, length-by_two first h)) ∙ by_two_at first h i p

  row-second : (i : ℕ) → i < h → get_or (halves r h first second) (r + (h + i)) 0 ≡ second + 2 * i
  row-second i p =
      past (h + i)
      ∙ ap (λ (k : ℕ). get_or (by_two first h ++ by_two second h) (k + i) 0) (sym (length-by_two first h))
      ∙ get_or-append-add (by_two first h) (by_two second h) i 0
      ∙ by_two_at second h i p

-- THE PINS SO FAR

-- the numbers up to 2i + 2 are two more than those up to 2i
seen_more : (i v : ℕ) → bit (leb v (2 * suc i)) ≡ bit (leb v (2 * i)) + (bit (eqb (2 + 2 * i) v) + bit (eqb (1 + 2 * i) v))
seen_more i v = go (dec_le v (2 * i)) (ℕ_discrete (2 + 2 * i) v) (ℕ_discrete (1 + 2 * i) v)
  where
    go : Dec (v ≤ 2 * i) → Dec (2 + 2 * i ≡ v) → Dec (1 + 2 * i ≡ v)
        → bit (leb v (2 * suc i)) ≡ bit (leb v (2 * i)) + (bit (eqb (2 + 2 * i) v) + bit (eqb (1 + 2 * i) v))
    go (yes p) d e = simp (le-leb v (2 * suc i) (omega arith), le-leb v (2 * i) p, ne_eqb (2 + 2 * i) v (omega arith), ne_eqb (1 + 2 * i) v (omega arith))
    go (no p) (yes d) e = simp (le-leb v (2 * suc i) (omega arith), lt-leb v (2 * i) (omega arith), eq-eqb (2 + 2 * i) v d, ne_eqb (1 + 2 * i) v (omega arith))
    go (no p) (no d) (yes e) = simp (le-leb v (2 * suc i) (omega arith), lt-leb v (2 * i) (omega arith), ne_eqb (2 + 2 * i) v d, eq-eqb (1 + 2 * i) v e)
    go (no p) (no d) (no e) = simp (lt-leb v (2 * suc i) (omega arith), lt-leb v (2 * i) (omega arith), ne_eqb (2 + 2 * i) v d, ne_eqb (1 + 2 * i) v e)

module _ (r h : ℕ) where
  abbrev top : List ℕ
  top = top_of r h

  abbrev bottom : List ℕ
  bottom = bottom_of r h

  pub columns : length top ≡ r + (h + h)
  columns = row-length r h _ _

  same : length top ≡ length bottom
  same = columns ∙ sym (row-length r h _ _)

  -- the pins of its columns: of the empty ones, of the first half and of the second
  pub empty_pins : (c : ℕ) → c < r → (get_or top c 0 ≡ 0) × (get_or bottom c 0 ≡ 0)
  empty_pins c p = (row_empty r h _ _ c p, row_empty r h _ _ c p)

  pub first-pins : (i : ℕ) → i < h → (get_or top (r + i) 0 ≡ 2 + 2 * i) × (get_or bottom (r + i) 0 ≡ 1 + 2 * i)
  first-pins i p = (row_first r h _ _ i p, row_first r h _ _ i p)

  pub second-pins : (i : ℕ) → i < h → (get_or top (r + (h + i)) 0 ≡ 1 + 2 * i) × (get_or bottom (r + (h + i)) 0 ≡ 2 + 2 * i)
  second-pins i p = (row-second r h _ _ i p, row-second r h _ _ i p)

  module _ (v : ℕ) (n : v ≢ 0) where
    -- a column whose pins are a and b
    column_more : (c a b : ℕ) → (get_or top c 0 ≡ a) × (get_or bottom c 0 ≡ b)
        → left top bottom (suc c) v ≡ left top bottom c v + (bit (eqb a v) + bit (eqb b v))
    column_more c a b e = left_suc top bottom v c n ∙ rw (e.0, e.1)

    -- none in the empty columns
    pub left_empty : (c : ℕ) → c ≤ r → left top bottom c v ≡ 0
    left_empty zero p = before top bottom v
    left_empty (suc c) p =
        omega (
          arith,
          left_empty c (omega arith),
          column_more c 0 0 (empty_pins c p),
          ap bit (ne_eqb 0 v (λ e. n (sym e))),
        )

    -- after i columns of the first half, one of each net 1 to 2i
    pub left-first : (i : ℕ) → i ≤ h → left top bottom (r + i) v ≡ bit (leb v (2 * i))
    left-first zero p =
        let e : r + 0 ≡ r = omega arith in
        ap (λ (c : ℕ). left top bottom c v) e ∙ left_empty r (omega arith) ∙ sym (ap bit (lt-leb v (2 * 0) (omega arith)))
    left-first (suc i) p =
        let e : r + suc i ≡ suc (r + i) = omega arith in
        let l = ap (λ (c : ℕ). left top bottom c v) e in
        omega (
          arith,
          left-first i (omega arith),
          column_more (r + i) (2 + 2 * i) (1 + 2 * i) (first-pins i p),
          seen_more i v,
        )

    -- after i columns of the second half, besides the other pin of each net 1 to 2i
    pub left-second : (i : ℕ) → i ≤ h → left top bottom (r + (h + i)) v ≡ bit (leb v (2 * h)) + bit (leb v (2 * i))
    left-second zero p =
        let e : r + (h + 0) ≡ r + h = omega arith in
        let l = ap (λ (c : ℕ). left top bottom c v) e in
        omega (arith, left-first h (omega arith), ap bit (lt-leb v (2 * 0) (omega arith)))
    left-second (suc i) p =
        let e : r + (h + suc i) ≡ suc (r + (h + i)) = omega arith in
        let l = ap (λ (c : ℕ). left top bottom c v) e in
        omega (
          arith,
          left-second i (omega arith),
          column_more (r + (h + i)) (1 + 2 * i) (2 + 2 * i) (second-pins i p),
          seen_more i v,
        )

    -- each net 1 to 2h has two pins, and no other net has any
    pins_are : pins top bottom v ≡ bit (leb v (2 * h)) + bit (leb v (2 * h))
    pins_are =
        let l = ap (λ (c : ℕ). left top bottom c v) columns in
        omega (arith, left-right top bottom v (length top), no_right top bottom v (omega (arith, same)), left-second h (omega arith))

  -- between the halves all nets are open
  all_open : (v : ℕ) → 1 ≤ v → v ≤ 2 * h → is_open top bottom (r + h) v ≡ true
  unfolding is_open
  all_open v a b =
      let l = left-first v (omega arith) h (omega arith) in
      let k = ap bit (le-leb v (2 * h) b) in
      let p = left-right top bottom v (r + h) in
      let t = pins_are v (omega arith) in
      rw (lt-ltb 0 (left top bottom (r + h) v) (omega arith), lt-ltb 0 (right top bottom (r + h) v) (omega arith))

  -- a net over 2h is open nowhere
  never_open : (c v : ℕ) → 2 * h < v → is_open top bottom c v ≡ false
  never_open c v p = go (is_open top bottom c v) refl
    where
      go : (b : Bool) → is_open top bottom c v ≡ b → b ≡ false
      go true e = absurd (omega (arith, open_sides top bottom c v e, left-right top bottom v c, pins_are v (omega arith), ap bit (lt-leb v (2 * h) p)))
      go false e = refl

  open_most : (c : ℕ) → open_at top bottom c ≤ 2 * h
  unfolding open_at
  open_most c = count_at_most (is_open top bottom c) (2 * h) 256 (never_open c)

  module _ (short : r + (h + h) ≤ 256) where
    pub fit : RowsFit top bottom
    fit =
        record {
          same = same;
          small = λ v p. omega (arith, pins_are v (omega arith), ap bit (lt-leb v (2 * h) (omega arith)));
          lone = λ v p. omega (arith, pins_are v (omega arith));
        }

    -- THE CHANNEL IS ACCEPTED
    pub accepted : rows_refused top bottom 256 ≡ 0
    accepted = fit_accepted top bottom fit (omega (arith, columns))

    -- IT IS OF TWO-PIN NETS
    pub pairs : family top bottom ≡ TwoPin
    pairs = two_pin_lem top bottom (λ v p. omega (arith, pins_are v (omega arith), bit_most (leb v (2 * h))))

    -- AND ITS DENSITY IS 2h: no other net is open anywhere, and all of these are in the middle
    open_some : 2 * h ≤ open_at top bottom (r + h)
    unfolding open_at
    open_some = count_at_least (is_open top bottom (r + h)) (2 * h) 256 (omega arith) all_open

    pub dense : density top bottom ≡ 2 * h
    dense = go (ℕ_discrete h 0)
      where
        most : density top bottom ≤ 2 * h
        most = density_most top bottom (2 * h) (λ c. open_most (suc c))

        go : Dec (h ≡ 0) → density top bottom ≡ 2 * h
        go (yes z) = omega (arith, most)
        go (no n) = omega (arith, most, open_some, open_density top bottom (r + h) (omega (arith, same)) (omega arith) (omega (arith, columns)))
