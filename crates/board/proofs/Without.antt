-- Rows without the pins of a net, and the count at a gap without it. Assumes nothing.
use Prim.Native.Nat.{ℕ, zero, suc, ◌+◌, ◌*◌, ◌≤◌}
use mathlib.Core.Path.{◌≡◌, refl, sym, ap, ap₂, ◌∙◌}
use mathlib.Core.Logic.{◌≢◌}
use mathlib.Core.Bool.{Bool, true, false, ◌&&◌}
use mathlib.Core.List.{List, [], ◌∷◌}
use native.Mathlib.Omega.{arith}
use native.Mathlib.Decide.{ℕ_discrete}
use lib.Dec.{eqb, ltb}
use lib.ListN.{length, get_or, take, drop, set}
use lib.Seq.{map-set_same}
use Rattle.grid.specs.Channel.{pick, bit, times, sum, count, pins, left, right, is_open, open_at}
use Rattle.grid.proofs.Tests.{eq-eqb, ne_eqb, le-ltb, Same, same, diff, same_by, eqb_same, eqb_diff, pick_same}
use Rattle.grid.proofs.Counting.{sum_plus, sum_scale, sum_one}
use Rattle.grid.proofs.Sums.{sum_same}
use Rattle.grid.proofs.Rows.{left-right}
use Rattle.board.specs.Changes.{without_net}

-- what stays of a number where a net goes
abbrev pub rest_of : (net x : ℕ) → ℕ
rest_of net x = pick (eqb x net) 0 x

-- ONE ROW

pub without_length : (net : ℕ) (l : List ℕ) → length (without_net net l) ≡ length l
unfolding without_net
without_length net [] = refl
without_length net (x ∷ xs) = ap suc (without_length net xs)

take_without : (net : ℕ) (l : List ℕ) (c : ℕ) → take c (without_net net l) ≡ without_net net (take c l)
unfolding without_net
take_without net l zero = refl
take_without net [] (suc c) = refl
take_without net (x ∷ xs) (suc c) = ap (λ (r : List ℕ). rest_of net x ∷ r) (take_without net xs c)

drop_without : (net : ℕ) (l : List ℕ) (c : ℕ) → drop c (without_net net l) ≡ without_net net (drop c l)
unfolding without_net
drop_without net l zero = refl
drop_without net [] (suc c) = refl
drop_without net (x ∷ xs) (suc c) = drop_without net xs c

-- another net keeps its pins
times_others : (net : ℕ) (l : List ℕ) (v : ℕ) → v ≢ 0 → v ≢ net → times v (without_net net l) ≡ times v l
unfolding without_net times
times_others net [] v z n = refl
times_others net (x ∷ xs) v z n = ap₂ ◌+◌ (go (eqb x net) (same_by x net)) (times_others net xs v z n)
  where
    go : (q : Bool) → Same x net q → bit (eqb (pick q 0 x) v) ≡ bit (eqb x v)
    go true (same e) = omega (arith, eqb_diff 0 v (λ y. z (sym y)), eqb_diff x v (λ y. n (sym y ∙ e)))
    go false d = refl

-- the net itself has none
times_gone : (net : ℕ) (l : List ℕ) → net ≢ 0 → times net (without_net net l) ≡ 0
unfolding without_net times
times_gone net [] z = refl
times_gone net (x ∷ xs) z = omega (arith, go (eqb x net) (same_by x net), times_gone net xs z)
  where
    go : (q : Bool) → Same x net q → bit (eqb (pick q 0 x) net) ≡ 0
    go true s = eqb_diff 0 net (λ y. z (sym y))
    go false (diff n) = eqb_diff x net n

-- a row that has no pin of the net stays
pub without_none : (net : ℕ) (l : List ℕ) → times net l ≡ 0 → without_net net l ≡ l
unfolding without_net times
without_none net [] e = refl
without_none net (x ∷ xs) e = ap₂ ◌∷◌ (go (eqb x net) (same_by x net)) (without_none net xs (omega arith))
  where
    go : (q : Bool) → Same x net q → pick q 0 x ≡ x
    go true (same y) = absurd (omega (arith, ap (λ (z : ℕ). bit (eqb z net)) y, eqb_same net))
    go false d = refl

-- a pin of the net put at an empty place is taken away again
pub without_put : (net : ℕ) (l : List ℕ) (i : ℕ) → get_or l i 0 ≡ 0 → without_net net (set l i net) ≡ without_net net l
unfolding without_net
without_put net l i e =
    map-set_same (rest_of net) l i net 0 (ap (λ (q : Bool). pick q 0 net) (eq-eqb net net refl) ∙ sym (ap (rest_of net) e ∙ pick_same (eqb 0 net) 0))

-- TWO ROWS

pub pins_others : (net : ℕ) (top bottom : List ℕ) (v : ℕ) → v ≢ 0 → v ≢ net → pins (without_net net top) (without_net net bottom) v ≡ pins top bottom v
unfolding pins
pins_others net top bottom v z n = ap₂ ◌+◌ (times_others net top v z n) (times_others net bottom v z n)

pub pins_gone : (net : ℕ) (top bottom : List ℕ) → net ≢ 0 → pins (without_net net top) (without_net net bottom) net ≡ 0
unfolding pins
pins_gone net top bottom z = omega (arith, times_gone net top z, times_gone net bottom z)

-- THE COUNT AT A GAP

module _ (net : ℕ) (top bottom : List ℕ) (c : ℕ) where
  -- without the net
  abbrev top' : List ℕ
  top' = without_net net top

  abbrev bottom' : List ℕ
  bottom' = without_net net bottom

  -- another net is open as before
  open_other : (v : ℕ) → v ≢ 0 → v ≢ net → is_open top' bottom' c v ≡ is_open top bottom c v
  unfolding is_open left right
  open_other v z n =
      ap₂ (λ (a b : ℕ). ltb 0 a && ltb 0 b) (ap₂ ◌+◌ (before top) (before bottom)) (ap₂ ◌+◌ (after top) (after bottom))
    where
      before : (l : List ℕ) → times v (take c (without_net net l)) ≡ times v (take c l)
      before l = ap (times v) (take_without net l c) ∙ times_others net (take c l) v z n

      after : (l : List ℕ) → times v (drop c (without_net net l)) ≡ times v (drop c l)
      after l = ap (times v) (drop_without net l c) ∙ times_others net (drop c l) v z n

  -- the net is not
  open_gone : net ≢ 0 → is_open top' bottom' c net ≡ false
  unfolding is_open
  open_gone z = rw (le-ltb 0 (left top' bottom' c net) (omega (arith, left-right top' bottom' net c, pins_gone net top bottom z)))

  -- so the count is that without the net, and the net itself where it is open
  open_each : (v : ℕ) → net ≢ 0 → v ≢ 0 → bit (is_open top' bottom' c v) + bit (is_open top bottom c net) * bit (eqb net v) ≡ bit (is_open top bottom c v)
  open_each v z w = go (ℕ_discrete net v)
    where
      go : Dec (net ≡ v) → bit (is_open top' bottom' c v) + bit (is_open top bottom c net) * bit (eqb net v) ≡ bit (is_open top bottom c v)
      go (yes e) =
          let g : bit (is_open top' bottom' c v) ≡ 0 = ap (λ (u : ℕ). bit (is_open top' bottom' c u)) (sym e) ∙ ap bit (open_gone z) in
          let m = ap (λ (q : Bool). bit (is_open top bottom c net) * bit q) (eq-eqb net v e) in
          let h = ap (λ (u : ℕ). bit (is_open top bottom c u)) e in
          omega arith
      go (no n) =
          let g = ap bit (open_other v w (λ y. n (sym y))) in
          let m = ap (λ (q : Bool). bit (is_open top bottom c net) * bit q) (ne_eqb net v n) in
          omega arith

  pub open_without : 1 ≤ net → net ≤ 256 → open_at (without_net net top) (without_net net bottom) c + bit (is_open top bottom c net) ≡ open_at top bottom c
  unfolding open_at count
  open_without a b =
      let here = bit (is_open top bottom c net) in
      let f : ℕ → ℕ = λ v. bit (is_open top' bottom' c v) in
      let own : ℕ → ℕ = λ v. here * bit (eqb net v) in
      let p = sum_plus f own 256 in
      let s = sum_scale here (λ v. bit (eqb net v)) 256 in
      let o : here * sum (λ v. bit (eqb net v)) 256 ≡ here * 1 = ap (λ (x : ℕ). here * x) (sum_one net 256 (omega arith) b) in
      let t = sum_same (λ v. f v + own v) (λ v. bit (is_open top bottom c v)) 256 (λ v x y. open_each v (omega arith) (omega arith)) in
      omega arith
