-- The running count of the open nets: what the pins of one column change. Assumes nothing.
use Prim.Native.Nat.{ℕ, suc, ◌+◌, ◌≤◌, ◌<◌, max}
use mathlib.Core.Path.{◌≡◌, refl, sym, ap, ap₂, ◌∙◌, subst}
use mathlib.Core.Logic.{◌≢◌}
use mathlib.Core.Bool.{Bool, true, false, not, ◌&&◌, ◌||◌}
use mathlib.Core.List.{List}
use native.Mathlib.Omega.{arith}
use native.Mathlib.Numerals.{add-one}
use native.Mathlib.Decide.{dec_lt, ℕ_discrete}
use lib.Dec.{T, eqb, ltb, leb}
use lib.ListN.{length, get_or}
use Rattle.grid.specs.declared.Family.{Family}
use Rattle.grid.specs.declared.Family.TheVariants.{TwoPin, ThreePin, ManyPin}
use Rattle.grid.specs.Channel.{pick, bit, sum, count, left, right, is_open, open_at, largest, density, family, tracks_of, tracks}
use Rattle.grid.specs.Nets.{is_pinned, first_column, last_column, table}
use Rattle.grid.specs.Working.{Rows, nets_on}
use Rattle.grid.proofs.Tests.{eq-eqb, ne_eqb, lt-ltb, le-ltb, le-leb, lt-leb, bit_most}
use Rattle.grid.proofs.Counting.{sum_plus, sum_zero}
use Rattle.grid.proofs.Rows.{before, density_most}
use Rattle.grid.proofs.Nets.{open_columns, first-last, first_pinned, last_pinned, no_last}
use Rattle.grid.proofs.Sums.{sum_same, sum_both, count_le}
use Rattle.grid.proofs.Scanning.{none_over}
use Rattle.grid.proofs.Tables.{at_net, table_none}

-- ONE NET

-- a net with first column f and last column l is open at gap c
abbrev spans : ℕ → ℕ → ℕ → Bool
spans f l c = (not (eqb f 0) && leb f c) && ltb c l

-- its last column lies after gap c just if it lies after column c + 1 or is that column
ends_turn : (l c : ℕ) → bit (ltb (suc c) l) + bit (eqb l (suc c)) ≡ bit (ltb c l)
ends_turn l c = go (dec_lt l (suc c)) (ℕ_discrete l (suc c))
  where
    go : Dec (l < suc c) → Dec (l ≡ suc c) → bit (ltb (suc c) l) + bit (eqb l (suc c)) ≡ bit (ltb c l)
    go (yes a) e = simp (ne_eqb l (suc c) (omega arith), le-ltb (suc c) l (omega arith), le-ltb c l (omega arith))
    go (no a) (yes e) = simp (eq-eqb l (suc c) e, le-ltb (suc c) l (omega arith), lt-ltb c l (omega arith))
    go (no a) (no e) = simp (ne_eqb l (suc c) e, lt-ltb (suc c) l (omega arith), lt-ltb c l (omega arith))

-- what column c + 1 changes: a net that starts and ends there was not open and is not
turn : (f l c : ℕ) → (f ≡ 0 → l ≡ 0) → f ≤ l → bit (spans f l (suc c)) + bit (eqb l (suc c)) ≡ bit (spans f l c) + bit (eqb f (suc c))
turn f l c z h = go (ℕ_discrete f 0) (dec_lt f (suc c)) (ℕ_discrete f (suc c))
  where
    go : Dec (f ≡ 0) → Dec (f < suc c) → Dec (f ≡ suc c) → bit (spans f l (suc c)) + bit (eqb l (suc c)) ≡ bit (spans f l c) + bit (eqb f (suc c))
    -- there is no such net
    go (yes e) a q = let w = z e in simp (eq-eqb f 0 e, ne_eqb f (suc c) (omega arith), ne_eqb l (suc c) (omega arith))
    -- it began before
    go (no n) (yes a) q = simp (ne_eqb f 0 n, le-leb f c (omega arith), le-leb f (suc c) (omega arith), ne_eqb f (suc c) (omega arith)) (omega (arith, ends_turn l c))
    -- it begins here
    go (no n) (no a) (yes q) = simp (ne_eqb f 0 n, lt-leb f c (omega arith), le-leb f (suc c) (omega arith), eq-eqb f (suc c) q) (ends_turn l c ∙ ap bit (lt-ltb c l (omega arith)))
    -- it begins later
    go (no n) (no a) (no q) = simp (ne_eqb f 0 n, lt-leb f c (omega arith), lt-leb f (suc c) (omega arith), ne_eqb f (suc c) q, ne_eqb l (suc c) (omega arith))

-- of one net, and of two
pub on_one : (columns : List ℕ) (c p q : ℕ) → p ≡ q → nets_on columns c p q ≡ bit (eqb (get_or columns p 0) c)
on_one columns c p q e = omega (arith, ap (λ (w : Bool). pick w 0 (bit (eqb (get_or columns q 0) c))) (eq-eqb p q e))

pub on_two : (columns : List ℕ) (c p q : ℕ) → p ≢ q → nets_on columns c p q ≡ bit (eqb (get_or columns p 0) c) + bit (eqb (get_or columns q 0) c)
on_two columns c p q n = omega (arith, ap (λ (w : Bool). pick w 0 (bit (eqb (get_or columns q 0) c))) (ne_eqb p q n))

-- of two nets, two at most have a column
pub on_le : (columns : List ℕ) (c p q : ℕ) → nets_on columns c p q ≤ 2
on_le columns c p q = go (eqb p q) (bit_most (eqb (get_or columns p 0) c)) (bit_most (eqb (get_or columns q 0) c))
  where
    go : {x y : ℕ} (e : Bool) → x ≤ 1 → y ≤ 1 → x + pick e 0 y ≤ 2
    go true a b = omega arith
    go false a b = omega arith

-- ALL NETS

-- no net is open at gap 0
pub none_open : (top bottom : List ℕ) → open_at top bottom 0 ≡ 0
unfolding open_at count is_open
none_open top bottom = sum_zero (λ v. bit (ltb 0 (left top bottom 0 v) && ltb 0 (right top bottom 0 v))) 256 (λ v p. rw (le-ltb 0 (left top bottom 0 (suc v)) (omega (arith, before top bottom (suc v)))))

-- at most 256 nets are open
pub open_le : (top bottom : List ℕ) (c : ℕ) → open_at top bottom c ≤ 256
unfolding open_at
open_le top bottom c = count_le (is_open top bottom c) 256

-- so the density is 256 at most
pub density_small : (top bottom : List ℕ) → density top bottom ≤ 256
density_small top bottom = density_most top bottom 256 (λ c. open_le top bottom (suc c))

-- and the tracks are 511
pub tracks_small : (top bottom : List ℕ) → tracks top bottom ≤ 511
unfolding tracks
tracks_small top bottom = go (family top bottom)
  where
    go : (f : Family) → tracks_of f (density top bottom) ≤ 511
    go TwoPin = omega (arith, density_small top bottom)
    go ThreePin = omega (arith, density_small top bottom)
    go ManyPin = omega (arith, density_small top bottom)

-- one gap more
pub largest_more : (top bottom : List ℕ) (k : ℕ) → largest top bottom (suc k) ≡ max (largest top bottom k) (open_at top bottom (suc k))
unfolding largest
largest_more top bottom k = refl

-- no gap
pub largest_none : (top bottom : List ℕ) → largest top bottom 0 ≡ 0
unfolding largest
largest_none top bottom = refl

module _ (top bottom first last : List ℕ) (rows : Rows top bottom) (ef : first ≡ table (first_column top bottom)) (el : last ≡ table (last_column top bottom)) (c : ℕ) where
  -- a net with no pin in column c + 1 neither starts nor ends there
  none_here : (v : ℕ) → v ≢ get_or top c 0 → v ≢ get_or bottom c 0 → (first_column top bottom v ≢ suc c) × (last_column top bottom v ≢ suc c)
  unfolding first_column last_column is_pinned
  none_here v a b =
      let e : (eqb (get_or top c 0) v || eqb (get_or bottom c 0) v) ≡ false = ap₂ ◌||◌ (ne_eqb (get_or top c 0) v (λ y. a (sym y))) (ne_eqb (get_or bottom c 0) v (λ y. b (sym y))) in
      ((λ y. subst T (sym (first_pinned top bottom v c (length top) y) ∙ e) tt), (λ y. subst T (sym (last_pinned top bottom v c (length top) y) ∙ e) tt))

  -- whether net v has column c + 1 in a table
  abbrev on : List ℕ → ℕ → ℕ
  on columns v = bit (eqb (get_or columns v 0) (suc c))

  -- all nets with column c + 1 in a table have a pin there
  all_on : (f : ℕ → ℕ) (columns : List ℕ) → columns ≡ table f → ((v : ℕ) → v ≢ get_or top c 0 → v ≢ get_or bottom c 0 → f v ≢ suc c)
      → sum (on columns) 256 ≡ nets_on columns (suc c) (get_or top c 0) (get_or bottom c 0)
  all_on f columns e h =
      sum_both (on columns) (get_or top c 0) (get_or bottom c 0) 256
      (rw (ne_eqb (get_or columns 0 0) (suc c) (λ y. let z = ap (λ (l : List ℕ). get_or l 0 0) e ∙ table_none f in let u : ⊥ = omega arith in u)))
      (none_over top c rows.above) (none_over bottom c rows.below)
      (λ v a b m n. rw (ne_eqb (get_or columns v 0) (suc c) (λ y. h v m n (sym (at_net f columns e v a b) ∙ y))))

  one_net : (v : ℕ) → 1 ≤ v → v ≤ 256 → bit (is_open top bottom (suc c) v) + on last v ≡ bit (is_open top bottom c v) + on first v
  unfolding first_column last_column
  one_net v a b =
      let n : v ≢ 0 = omega arith in
      let x = ap bit (open_columns top bottom v n rows.same (suc c)) in
      let y = ap bit (open_columns top bottom v n rows.same c) in
      let t = turn (first_column top bottom v) (last_column top bottom v) c (no_last top bottom v n (length top)) (first-last top bottom v (length top)) in
      let o = ap (λ (z : ℕ). bit (eqb z (suc c))) (at_net (first_column top bottom) first ef v a b) in
      let d = ap (λ (z : ℕ). bit (eqb z (suc c))) (at_net (last_column top bottom) last el v a b) in
      omega arith

  -- the open nets right of column c + 1 and those that end in it are the open nets left of it and those that start in it
  open_next : open_at top bottom (suc c) + nets_on last (suc c) (get_or top c 0) (get_or bottom c 0)
      ≡ open_at top bottom c + nets_on first (suc c) (get_or top c 0) (get_or bottom c 0)
  unfolding open_at count
  open_next =
      ap (λ (z : ℕ). sum (λ v. bit (is_open top bottom (suc c) v)) 256 + z) (sym (all_on (last_column top bottom) last el (λ v m n. (none_here v m n).1)))
      ∙ sym (sum_plus (λ v. bit (is_open top bottom (suc c) v)) (on last) 256)
      ∙ sum_same (λ v. bit (is_open top bottom (suc c) v) + on last v) (λ v. bit (is_open top bottom c v) + on first v) 256 one_net
      ∙ sum_plus (λ v. bit (is_open top bottom c v)) (on first) 256
      ∙ ap (λ (z : ℕ). sum (λ v. bit (is_open top bottom c v)) 256 + z) (all_on (first_column top bottom) first ef (λ v m n. (none_here v m n).0))

  -- the same over the code's variables
  pub open_turn : (p q n here : ℕ) → p ≡ get_or top c 0 → q ≡ get_or bottom c 0 → n ≡ c + 1 → here ≡ open_at top bottom c
      → open_at top bottom (c + 1) + nets_on last n p q ≡ here + nets_on first n p q
  open_turn p q n here ep eq en e =
      let x = same_on last in
      let y = same_on first in
      let o = ap (open_at top bottom) (add-one c) in
      omega (arith, open_next)
    where
      same_on : (columns : List ℕ) → nets_on columns n p q ≡ nets_on columns (suc c) (get_or top c 0) (get_or bottom c 0)
      same_on columns =
          ap₂ (λ (y z : ℕ). nets_on columns n y z) ep eq ∙ ap (λ (m : ℕ). nets_on columns m (get_or top c 0) (get_or bottom c 0)) (en ∙ add-one c)
