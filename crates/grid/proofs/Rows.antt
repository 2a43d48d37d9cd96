-- What it says of rows that they are not refused; families and tracks; the pins of a net left and right of a gap; the density as a bound of the open nets.
-- Assumes nothing.
use Prim.Native.Nat.{ℕ, zero, suc, ◌+◌, ◌*◌, ◌-◌, ◌/◌, ◌≤◌, ◌<◌, max}
use mathlib.Core.Path.{◌≡◌, refl, sym, ap, subst}
use mathlib.Core.Logic.{◌⊎◌, inl, inr, ◌≢◌, ⊎_elim}
use mathlib.Core.Bool.{Bool, true, false, not, ◌&&◌, ◌||◌}
use mathlib.Core.List.{List, [], ◌∷◌}
use native.Mathlib.Omega.{arith}
use native.Mathlib.Decide.{dec_lt, ℕ_discrete}
use lib.Dec.{eqb, ltb}
use lib.ListN.{length, get_or, take, drop, length-take, drop_of_length-le}
use lib.Seq.{get_or-take, get_or-drop}
use Rattle.grid.specs.declared.Family.{Family}
use Rattle.grid.specs.declared.Family.TheVariants.{TwoPin, ThreePin, ManyPin}
use Rattle.grid.specs.Channel.{pick, bit, times, over, sum, count, pins, left, right, is_open, open_at, largest, density}
use Rattle.grid.specs.Channel.{pins_within, first_two_at, first_two_to, family, tracks_of, tracks, rows_refused}
use Rattle.grid.proofs.Tests.{eq_bit, eqb_diff, eqb-true, eqb-false, ltb-true, ltb-false, lt-ltb, le-ltb}
use Rattle.grid.proofs.Tests.{not-true, not-false, and_true, and_none, or_false, pick_past, eq-eqb, ne_eqb, not_both}
use Rattle.grid.proofs.Counting.{times-take, times_cut, times_at, count_none, sum_zero}

-- ACCEPTED ROWS

-- what the refusals of the rows leave but for their limit of columns, which is `rows_short`
pub record RowsFit (top bottom : List ℕ) : Type 0 where
  pub same : length top ≡ length bottom
  pub small : (v : ℕ) → 256 < v → pins top bottom v ≡ 0
  pub lone : (v : ℕ) → 1 ≤ v → pins top bottom v ≢ 1

-- a row with no number over 256 has no net over 256
not_over : (l : List ℕ) → over l ≡ false → (v : ℕ) → 256 < v → times v l ≡ 0
unfolding over times
not_over [] e v h = refl
not_over (x ∷ xs) e v h =
    let (a, b) = or_false (ltb 256 x) (over xs) e in
    omega (arith, eqb_diff x v (omega (arith, ltb-false 256 x a)), not_over xs b v h)

-- two such rows have no pin of such a net
pins-over : (top bottom : List ℕ) → (over top || over bottom) ≡ false → (v : ℕ) → 256 < v → pins top bottom v ≡ 0
unfolding pins
pins-over top bottom e v h = let (a, b) = or_false (over top) (over bottom) e in omega (arith, not_over top a v h, not_over bottom b v h)

-- what no net of 1 to 256 does, none does: those over 256 have no pin
every_net : (top bottom : List ℕ) (q : ℕ → Bool) → ((v : ℕ) → 256 < v → pins top bottom v ≡ 0) → q 0 ≡ false
    → count (λ v. q (pins top bottom v)) 256 ≡ 0 → (v : ℕ) → 1 ≤ v → q (pins top bottom v) ≡ false
every_net top bottom q small z e v p = go (dec_lt 256 v)
  where
    go : Dec (256 < v) → q (pins top bottom v) ≡ false
    go (yes h) = rw (small v h) z
    go (no h) = count_none (λ u. q (pins top bottom u)) 256 v e p (omega arith)

-- rows that are not refused
pub rows_fit : (top bottom : List ℕ) → rows_refused top bottom 256 ≡ 0 → RowsFit top bottom
unfolding rows_refused
rows_fit top bottom e =
    let (a, e₁) = pick_past (not (eqb (length top) (length bottom))) 4 _ 0 (omega arith) e in
    let (b, e₂) = pick_past (ltb 256 (length top)) 5 _ 0 (omega arith) e₁ in
    let (c, e₃) = pick_past (over top || over bottom) 6 _ 0 (omega arith) e₂ in
    let (d, e₄) = pick_past (not (eqb (count (λ v. eqb (pins top bottom v) 1) 256) 0)) 7 0 0 (omega arith) e₃ in
    let small = pins-over top bottom c in
    let ones = eqb-true (count (λ v. eqb (pins top bottom v) 1) 256) 0 (not-false _ d) in
    record {
      same = eqb-true (length top) (length bottom) (not-false _ a);
      small = small;
      lone = λ v p. eqb-false (pins top bottom v) 1 (every_net top bottom (λ k. eqb k 1) small refl ones v p);
    }

-- have as many columns as the limit at most
pub rows_short : (top bottom : List ℕ) (most : ℕ) → rows_refused top bottom most ≡ 0 → length top ≤ most
unfolding rows_refused
rows_short top bottom most e =
    let (a, e₁) = pick_past (not (eqb (length top) (length bottom))) 4 _ 0 (omega arith) e in
    let (b, e₂) = pick_past (ltb most (length top)) 5 _ 0 (omega arith) e₁ in
    ltb-false most (length top) b

-- rows that a smaller limit lets through, a larger one does
pub rows_more : (top bottom : List ℕ) (few most : ℕ) → few ≤ most → rows_refused top bottom few ≡ 0 → rows_refused top bottom most ≡ 0
unfolding rows_refused
rows_more top bottom few most p e =
    let (a, e₁) = pick_past (not (eqb (length top) (length bottom))) 4 _ 0 (omega arith) e in
    let (b, e₂) = pick_past (ltb few (length top)) 5 _ 0 (omega arith) e₁ in
    rw (a, le-ltb most (length top) (omega (arith, ltb-false few (length top) b))) e₂

-- FAMILIES

-- a test of the pins of all nets holds of each net
within_fit : (top bottom : List ℕ) → RowsFit top bottom → (k : ℕ) → pins_within top bottom k ≡ true → (v : ℕ) → 1 ≤ v → pins top bottom v ≤ k
unfolding pins_within
within_fit top bottom fit k e v p =
    ltb-false k (pins top bottom v)
    (every_net top bottom (ltb k) fit.small (le-ltb k 0 (omega arith)) (eqb-true (count (λ u. ltb k (pins top bottom u)) 256) 0 e) v p)

-- what the tests of the pins say of each family
family_tests : (two three : Bool) (f : Family) → pick two TwoPin (pick three ThreePin ManyPin) ≡ f
    → ((f ≡ TwoPin → two ≡ true) × (f ≡ ThreePin → three ≡ true))
family_tests true three f e = (λ i. refl, λ i. absurd (let z : ◌≡◌ {A = ℕ} 0 1 = cc in omega arith))
family_tests false true f e = (λ i. absurd (let z : ◌≡◌ {A = ℕ} 0 1 = cc in omega arith), λ i. refl)
family_tests false false f e = (λ i. absurd (let z : ◌≡◌ {A = ℕ} 0 1 = cc in omega arith), λ i. absurd (let z : ◌≡◌ {A = ℕ} 0 1 = cc in omega arith))

-- a test of the columns 1 to n that fails fails in each
none_to : (top bottom : List ℕ) (n c : ℕ) → first_two_to top bottom n ≡ false → c < n → first_two_at top bottom c ≡ false
unfolding first_two_to
none_to top bottom zero c e p = absurd (omega arith)
none_to top bottom (suc n) c e p = go (ℕ_discrete c n) (or_false (first_two_to top bottom n) (first_two_at top bottom n) e) (λ f q. none_to top bottom n c f q)
  where
    go : Dec (c ≡ n) → (first_two_to top bottom n ≡ false) × (first_two_at top bottom n ≡ false)
        → (first_two_to top bottom n ≡ false → c < n → first_two_at top bottom c ≡ false) → first_two_at top bottom c ≡ false
    go (yes i) o ih = subst (λ (z : ℕ). first_two_at top bottom z ≡ false) (sym i) o.1
    go (no i) o ih = ih o.0 (omega arith)

module _ (top bottom : List ℕ) (fit : RowsFit top bottom) where
  -- in a channel of two-pin nets, none has more
  pub two_fit : family top bottom ≡ TwoPin → (v : ℕ) → 1 ≤ v → pins top bottom v ≤ 2
  unfolding family
  two_fit e = within_fit top bottom fit 2 ((family_tests (pins_within top bottom 2) (pins_within top bottom 3 && not (first_two_to top bottom (length top))) (family top bottom) refl).0 e)

  module _ (e : family top bottom ≡ ThreePin) where
    three_tests : (pins_within top bottom 3 ≡ true) × (not (first_two_to top bottom (length top)) ≡ true)
    unfolding family
    three_tests =
        and_true (pins_within top bottom 3) (not (first_two_to top bottom (length top)))
        ((family_tests (pins_within top bottom 2) (pins_within top bottom 3 && not (first_two_to top bottom (length top))) (family top bottom) refl).1 e)

    -- in a three-pin channel, none has more than three
    pub three_fit : (v : ℕ) → 1 ≤ v → pins top bottom v ≤ 3
    three_fit = within_fit top bottom fit 3 three_tests.0

    -- and none of three pins has its first two in one column
    pub three_apart : (c : ℕ) → c < length top → first_two_at top bottom c ≡ false
    three_apart c p = none_to top bottom (length top) c (not-true (first_two_to top bottom (length top)) three_tests.1) p

-- "its tracks are d where each net has two pins"
pub two_density : (top bottom : List ℕ) → family top bottom ≡ TwoPin → tracks top bottom ≡ density top bottom
unfolding tracks
two_density top bottom e = ap (λ (f : Family). tracks_of f (density top bottom)) e

-- document 02, Job 3: "3d/2 tracks rounded down"
pub three_density : (top bottom : List ℕ) → family top bottom ≡ ThreePin → tracks top bottom ≡ 3 * density top bottom / 2
unfolding tracks
three_density top bottom e = ap (λ (f : Family). tracks_of f (density top bottom)) e

-- "else 2d - 1"
pub many-density : (top bottom : List ℕ) → family top bottom ≡ ManyPin → tracks top bottom ≡ 2 * density top bottom - 1
unfolding tracks
many-density top bottom e = ap (λ (f : Family). tracks_of f (density top bottom)) e

-- PINS LEFT AND RIGHT OF A GAP

-- net N has a pin in column k + 1
abbrev pub HasPin : (top bottom : List ℕ) (N k : ℕ) → Type 0
HasPin top bottom N k = (get_or top k 0 ≡ N) ⊎ (get_or bottom k 0 ≡ N)

-- no pin stands left of the first column
pub before : (top bottom : List ℕ) (v : ℕ) → left top bottom 0 v ≡ 0
unfolding left times
before top bottom v = refl

-- no pin stands right of the last column
pub no_right : (top bottom : List ℕ) (v : ℕ) → length bottom ≤ length top → right top bottom (length top) v ≡ 0
unfolding right times
no_right top bottom v p = rw (drop_of_length-le top {i = length top} (omega arith), drop_of_length-le bottom {i = length top} p)

module _ (top bottom : List ℕ) (N k : ℕ) where
  -- all pins stand left or right
  pub left-right : left top bottom k N + right top bottom k N ≡ pins top bottom N
  unfolding left right pins
  left-right = omega (arith, times_cut top k N, times_cut bottom k N)

  -- a pin counted in a part of the rows stands in a column of that part
  part_at : (part : List ℕ → List ℕ) (In : ℕ → Type 0) → ((l : List ℕ) → 0 < times N (part l) → (x : ℕ) × In x × (get_or l x 0 ≡ N))
      → 0 < times N (part top) + times N (part bottom) → (x : ℕ) × In x × HasPin top bottom N x
  part_at part In at p = go (dec_lt 0 (times N (part top)))
    where
      go : Dec (0 < times N (part top)) → (x : ℕ) × In x × HasPin top bottom N x
      go (yes q) = let (x, r, e) = at top q in (x, r, inl e)
      go (no q) = let (x, r, e) = at bottom (omega arith) in (x, r, inr e)

  -- a pin left of gap k stands in one of the columns before
  pub left_at : 0 < left top bottom k N → (x : ℕ) × (x < k) × HasPin top bottom N x
  unfolding left
  left_at = part_at (take k) (λ x. x < k) at
    where
      at : (l : List ℕ) → 0 < times N (take k l) → (x : ℕ) × (x < k) × (get_or l x 0 ≡ N)
      at l q =
          let (i, r, e) = times_at N (take k l) q in
          let s : i < k = omega (arith, length-take k l) in
          (i, s, rw get_or-take at e)

  -- and one right of it in one of the columns after
  pub right_at : 0 < right top bottom k N → (x : ℕ) × (k ≤ x) × HasPin top bottom N x
  unfolding right
  right_at = part_at (drop k) (λ x. k ≤ x) at
    where
      at : (l : List ℕ) → 0 < times N (drop k l) → (x : ℕ) × (k ≤ x) × (get_or l x 0 ≡ N)
      at l q = let (i, r, e) = times_at N (drop k l) q in (k + i, omega arith, rw get_or-drop at e)

module _ (top bottom : List ℕ) (N k : ℕ) (n : N ≢ 0) where
  -- left of the next gap stand besides the column's own pins
  pub left_suc : left top bottom (suc k) N ≡ left top bottom k N + (bit (eqb (get_or top k 0) N) + bit (eqb (get_or bottom k 0) N))
  unfolding left
  left_suc = omega (arith, times-take N top k n, times-take N bottom k n)

  -- and those stand right of this one
  pub right_suc : right top bottom k N ≡ right top bottom (suc k) N + (bit (eqb (get_or top k 0) N) + bit (eqb (get_or bottom k 0) N))
  right_suc = omega (arith, left_suc, left-right top bottom N k, left-right top bottom N (suc k))

  -- a pin is one of them
  pin_bits : HasPin top bottom N k → 0 < bit (eqb (get_or top k 0) N) + bit (eqb (get_or bottom k 0) N)
  pin_bits (inl e) = ⊎_elim (λ d. omega arith) (λ d. absurd (d.0 e)) (eq_bit (get_or top k 0) N)
  pin_bits (inr e) = ⊎_elim (λ d. omega arith) (λ d. absurd (d.0 e)) (eq_bit (get_or bottom k 0) N)

  -- past a pin fewer stand right
  pub pin_step : HasPin top bottom N k → right top bottom (suc k) N < right top bottom k N
  pin_step h = omega (arith, right_suc, pin_bits h)

  -- a pin stands right of the gap before it
  pub pin_right : HasPin top bottom N k → 0 < right top bottom k N
  pin_right h = omega (arith, pin_step h)

  -- and left of the gap after it
  pub pin_left : HasPin top bottom N k → 0 < left top bottom (suc k) N
  pin_left h = omega (arith, left_suc, pin_bits h)

-- in a three-pin channel a net with both pins in one column has none after it
pub three_last : (top bottom : List ℕ) → RowsFit top bottom → family top bottom ≡ ThreePin → (c : ℕ) → c < length top → get_or top c 0 ≢ 0
    → get_or top c 0 ≡ get_or bottom c 0 → right top bottom (suc c) (get_or top c 0) ≡ 0
unfolding first_two_at
three_last top bottom fit e c p n i = go (ℕ_discrete (right top bottom (suc c) v) 0)
  where
    v : ℕ
    v = get_or top c 0

    two : bit (eqb (get_or top c 0) v) + bit (eqb (get_or bottom c 0) v) ≡ 2
    two = rw (eq-eqb (get_or top c 0) v refl, eq-eqb (get_or bottom c 0) v (sym i)) refl

    go : Dec (right top bottom (suc c) v ≡ 0) → right top bottom (suc c) v ≡ 0
    go (yes z) = z
    go (no z) =
        let q : (pins top bottom v ≡ 3) × (left top bottom c v ≡ 0) = omega (arith, three_fit top bottom fit e v (omega arith), left-right top bottom v c, right_suc top bottom v c n, two) in
        absurd (not_both (rw (ne_eqb v 0 n, eq-eqb v (get_or bottom c 0) i, eq-eqb (pins top bottom v) 3 q.0, eq-eqb (left top bottom c v) 0 q.1) refl) (three_apart top bottom fit e c p))

-- a pin's net is one of 1 to 256
pub pin_small : (top bottom : List ℕ) → RowsFit top bottom → (N k : ℕ) → N ≢ 0 → HasPin top bottom N k → N ≤ 256
pin_small top bottom fit N k n here = go (dec_lt 256 N)
  where
    go : Dec (256 < N) → N ≤ 256
    go (yes h) = absurd (omega (arith, fit.small N h, left-right top bottom N k, pin_right top bottom N k n here))
    go (no h) = omega arith

-- THE OPEN NETS OF A GAP

module _ (top bottom : List ℕ) (c v : ℕ) where
  -- an open net has pins on both sides
  pub open_sides : is_open top bottom c v ≡ true → (0 < left top bottom c v) × (0 < right top bottom c v)
  unfolding is_open
  open_sides e = let (a, b) = and_true _ _ e in (ltb-true 0 (left top bottom c v) a, ltb-true 0 (right top bottom c v) b)

  -- a net with pins on both sides is counted
  pub open_bit : 0 < left top bottom c v → 0 < right top bottom c v → bit (is_open top bottom c v) ≡ 1
  unfolding is_open
  open_bit l r = rw (lt-ltb 0 (left top bottom c v) l, lt-ltb 0 (right top bottom c v) r)

  -- a net with no pin right is not
  shut_bit : right top bottom c v ≡ 0 → bit (is_open top bottom c v) ≡ 0
  unfolding is_open
  shut_bit r = rw (and_none (ltb 0 (left top bottom c v)) (ltb 0 (right top bottom c v)) (le-ltb 0 (right top bottom c v) (omega arith)))

-- a bound of every gap's count is one of the largest
largest_most : (top bottom : List ℕ) (m : ℕ) → ((c : ℕ) → open_at top bottom (suc c) ≤ m) → (k : ℕ) → largest top bottom k ≤ m
unfolding largest
largest_most top bottom m h zero = omega arith
largest_most top bottom m h (suc k) = omega (arith, largest_most top bottom m h k, h k)

-- and of the density
pub density_most : (top bottom : List ℕ) (m : ℕ) → ((c : ℕ) → open_at top bottom (suc c) ≤ m) → density top bottom ≤ m
unfolding density
density_most top bottom m h = largest_most top bottom m h (length top - 1)

-- the largest count bounds each
largest_le : (top bottom : List ℕ) (k c : ℕ) → 0 < c → c ≤ k → open_at top bottom c ≤ largest top bottom k
unfolding largest
largest_le top bottom zero c p q = absurd (omega arith)
largest_le top bottom (suc k) c p q = go (ℕ_discrete c (suc k)) (λ r. largest_le top bottom k c p r)
  where
    go : Dec (c ≡ suc k) → (c ≤ k → open_at top bottom c ≤ largest top bottom k) → open_at top bottom c ≤ max (largest top bottom k) (open_at top bottom (suc k))
    go (yes e) ih = rw e (omega arith)
    go (no e) ih = omega (arith, ih (omega arith))

-- and so does the density, at every gap
pub open_density : (top bottom : List ℕ) (c : ℕ) → length bottom ≤ length top → 0 < c → c ≤ length top → open_at top bottom c ≤ density top bottom
unfolding density open_at count
open_density top bottom c s p q = go (ℕ_discrete c (length top))
  where
    go : Dec (c ≡ length top) → sum (λ v. bit (is_open top bottom c v)) 256 ≤ largest top bottom (length top - 1)
    go (yes e) =
        let shut : (v : ℕ) → right top bottom c v ≡ 0 = λ v. rw e (no_right top bottom v s) in
        omega (arith, sum_zero (λ v. bit (is_open top bottom c v)) 256 (λ v r. shut_bit top bottom c (suc v) (shut (suc v))))
    go (no e) = largest_le top bottom (length top - 1) c p (omega arith)
