-- What it says of a net and its terminals that it is not refused. Assumes nothing.
use Prim.Native.Nat.{ℕ, ◌-◌, ◌≤◌, ◌<◌}
use mathlib.Core.Path.{◌≡◌, ap₂, subst}
use mathlib.Core.Logic.{◌≢◌}
use mathlib.Core.Bool.{Bool, true, not, ◌&&◌, ◌||◌}
use mathlib.Core.List.{List}
use native.Mathlib.Omega.{arith}
use lib.Dec.{eqb, ltb, leb}
use lib.ListN.{length, get_or}
use Rattle.grid.specs.Channel.{pick, pins}
use Rattle.grid.proofs.Tests.{ltb-true, ltb-false, leb-true, eqb-true, eqb-false, not-false, eq-eqb, ne_eqb, not_both, and_true, or_false, pick_past}
use Rattle.placing.specs.Placing.{is_free_in, is_free, place_refused}

-- A NET THAT IS NOT REFUSED

-- a column of a row that is free
pub record FreeIn (row : List ℕ) (drawn column : ℕ) : Type 0 where
  pub right : drawn < column
  pub within : column ≤ length row
  pub empty : get_or row (column - 1) 0 ≡ 0

-- a terminal of the side `own` is free in the row of that side
abbrev pub FreeOn : (own : ℕ) (row : List ℕ) (drawn column side : ℕ) → Type 0
FreeOn own row drawn column side = side ≡ own → FreeIn row drawn column

-- there is room for a pin
pub pin_room : {own : ℕ} {row : List ℕ} {drawn column side : ℕ} → FreeOn own row drawn column side → side ≡ own → (1 ≤ column) × (column ≤ length row)
pin_room free e = let f = free e in (omega (arith, f.right), f.within)

-- a free terminal
pub record Free (top bottom : List ℕ) (drawn column side : ℕ) : Type 0 where
  pub sided : side < 2
  pub above : FreeOn 0 top drawn column side
  pub below : FreeOn 1 bottom drawn column side

free_in : (row : List ℕ) (drawn column : ℕ) → is_free_in row drawn column ≡ true → FreeIn row drawn column
free_in row drawn column e =
    let (a, e₁) = and_true (ltb drawn column) (leb column (length row) && eqb (get_or row (column - 1) 0) 0) e in
    let (b, d) = and_true (leb column (length row)) (eqb (get_or row (column - 1) 0) 0) e₁ in
    record { right = ltb-true drawn column a; within = leb-true column (length row) b; empty = eqb-true (get_or row (column - 1) 0) 0 d }

free_by : (top bottom : List ℕ) (drawn column side : ℕ) → is_free top bottom drawn column side ≡ true → Free top bottom drawn column side
unfolding is_free
free_by top bottom drawn column side e =
    let (a, b) = and_true (ltb side 2) (is_free_in (pick (eqb side 0) top bottom) drawn column) e in
    let f = free_in (pick (eqb side 0) top bottom) drawn column b in
    record {
      sided = ltb-true side 2 a;
      above = λ z. subst (λ (q : Bool). FreeIn (pick q top bottom) drawn column) (eq-eqb side 0 z) f;
      below = λ z. subst (λ (q : Bool). FreeIn (pick q top bottom) drawn column) (ne_eqb side 0 (omega arith)) f;
    }

-- two terminals are distinct
abbrev pub Differ : (column1 side1 column2 side2 : ℕ) → Type 0
Differ column1 side1 column2 side2 = column1 ≡ column2 → side1 ≢ side2

-- a net that is not refused
pub record Accepted (top bottom : List ℕ) (drawn net column1 side1 column2 side2 : ℕ) : Type 0 where
  pub some : 1 ≤ net
  pub most : net ≤ 256
  pub unused : pins top bottom net ≡ 0
  pub first : Free top bottom drawn column1 side1
  pub second : Free top bottom drawn column2 side2
  pub distinct : Differ column1 side1 column2 side2

pub accepted_by : (top bottom : List ℕ) (drawn net column1 side1 column2 side2 : ℕ) → place_refused top bottom drawn net column1 side1 column2 side2 ≡ 0
    → Accepted top bottom drawn net column1 side1 column2 side2
unfolding place_refused
accepted_by top bottom drawn net column1 side1 column2 side2 e =
    let (a, e₁) = pick_past (eqb net 0 || ltb 256 net) 6 _ 0 (omega arith) e in
    let (b, e₂) = pick_past (ltb 0 (pins top bottom net)) 21 _ 0 (omega arith) e₁ in
    let (d, e₃) = pick_past (not both || same) 22 0 0 (omega arith) e₂ in
    let (z, m) = or_false (eqb net 0) (ltb 256 net) a in
    let (f, g) = or_false (not both) same d in
    let (p, q) = and_true (is_free top bottom drawn column1 side1) (is_free top bottom drawn column2 side2) (not-false both f) in
    record {
      some = let n : net ≢ 0 = eqb-false net 0 z in omega arith;
      most = ltb-false 256 net m;
      unused = omega (arith, ltb-false 0 (pins top bottom net) b);
      first = free_by top bottom drawn column1 side1 p;
      second = free_by top bottom drawn column2 side2 q;
      distinct = λ x y. not_both (ap₂ ◌&&◌ (eq-eqb column1 column2 x) (eq-eqb side1 side2 y)) g;
    }
  where
    both : Bool
    both = is_free top bottom drawn column1 side1 && is_free top bottom drawn column2 side2

    same : Bool
    same = eqb column1 column2 && eqb side1 side2
