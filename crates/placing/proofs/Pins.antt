-- One row with the pins of a net at its terminals of that row's side. Assumes nothing.
use Prim.Native.Nat.{ℕ, zero, suc, ◌+◌, ◌-◌, ◌≤◌, ◌<◌}
use mathlib.Core.Path.{◌≡◌, refl, sym, ap, ◌∙◌}
use mathlib.Core.Logic.{◌≢◌}
use mathlib.Core.Bool.{Bool, true, false}
use mathlib.Core.List.{List, [], ◌∷◌}
use native.Mathlib.Omega.{arith}
use lib.Dec.{eqb, leb, leb-suc-suc}
use lib.ListN.{length, get_or, set, take, length-set}
use lib.Seq.{get_or-set_other, take-set-le}
use Rattle.grid.specs.Channel.{pick, bit, times}
use Rattle.grid.specs.Refusals.{if_accepted}
use Rattle.grid.proofs.Tests.{Same, same, same_by, eqb_diff, le-leb, lt-leb}
use Rattle.placing.specs.Placing.{with_pin, with_pins}
use Rattle.placing.proofs.Terminals.{FreeOn, pin_room, Differ}

-- A STORE

-- one entry for another
times-set : (v : ℕ) (l : List ℕ) (i x : ℕ) → i < length l → times v (set l i x) + bit (eqb (get_or l i 0) v) ≡ times v l + bit (eqb x v)
unfolding times
times-set v [] i x h = absurd (omega arith)
times-set v (y ∷ ys) zero x h = omega arith
times-set v (y ∷ ys) (suc i) x h = omega (arith, times-set v ys i x (omega arith))

-- at an empty place: a pin more left of each gap after it
left-set : (v : ℕ) (l : List ℕ) (i x c : ℕ) → v ≢ 0 → i < length l → get_or l i 0 ≡ 0
    → times v (take c (set l i x)) ≡ times v (take c l) + pick (leb (suc i) c) (bit (eqb x v)) 0
unfolding times
left-set v [] i x c n h e = absurd (omega arith)
left-set v (y ∷ ys) i x zero n h e = omega (arith, ap (λ (q : Bool). pick q (bit (eqb x v)) 0) (lt-leb (suc i) 0 (omega arith)))
left-set v (y ∷ ys) zero x (suc c) n h e =
    omega (arith, eqb_diff y v (λ z. n (sym z ∙ e)), ap (λ (q : Bool). pick q (bit (eqb x v)) 0) (le-leb 1 (suc c) (omega arith)))
left-set v (y ∷ ys) (suc i) x (suc c) n h e =
    omega (arith, left-set v ys i x c n (omega arith) e, ap (λ (q : Bool). pick q (bit (eqb x v)) 0) (leb-suc-suc (suc i) c))

-- ONE PIN

-- what a terminal adds to the row of its side, and to no other
abbrev pub of_side : (own side b : ℕ) → ℕ
of_side own side b = pick (eqb side own) b 0

-- the pins of net v that a pin of `net` in a column adds left of gap c
abbrev pub left_of : (net column v c : ℕ) → ℕ
left_of net column v c = pick (leb column c) (bit (eqb net v)) 0

module _ (own : ℕ) (row : List ℕ) (net column side : ℕ) where
  -- what holds of the row as it was, and with the pin put
  pin_by_lem : (P : List ℕ → Type 0) → P row → (side ≡ own → P (set row (column - 1) net)) → P (with_pin own row net column side)
  unfolding with_pin
  pin_by_lem P kept put = go (eqb side own) (same_by side own)
    where
      go : (q : Bool) → Same side own q → P (pick q (set row (column - 1) net) row)
      go true (same e) = put e
      go false d = kept

  pin_length : length (with_pin own row net column side) ≡ length row
  pin_length = pin_by_lem (λ l. length l ≡ length row) refl (λ e. length-set row (column - 1) net)

  module _ (drawn : ℕ) (free : FreeOn own row drawn column side) where
    -- the drawn columns are as before
    pin_before : take drawn (with_pin own row net column side) ≡ take drawn row
    pin_before = pin_by_lem (λ l. take drawn l ≡ take drawn row) refl (λ e. take-set-le drawn row (column - 1) net (omega (arith, (free e).right)))

    module _ (v : ℕ) (n : v ≢ 0) where
      pin_times : times v (with_pin own row net column side) ≡ times v row + of_side own side (bit (eqb net v))
      unfolding with_pin
      pin_times = go (eqb side own) (same_by side own)
        where
          go : (q : Bool) → Same side own q → times v (pick q (set row (column - 1) net) row) ≡ times v row + pick q (bit (eqb net v)) 0
          go true (same e) =
              let f = free e in
              let z = eqb_diff (get_or row (column - 1) 0) v (λ y. n (sym y ∙ f.empty)) in
              omega (arith, times-set v row (column - 1) net (omega (arith, f.right, f.within)))
          go false d = omega arith

      pin_left : (c : ℕ) → times v (take c (with_pin own row net column side)) ≡ times v (take c row) + of_side own side (left_of net column v c)
      unfolding with_pin
      pin_left c = go (eqb side own) (same_by side own)
        where
          go : (q : Bool) → Same side own q → times v (take c (pick q (set row (column - 1) net) row)) ≡ times v (take c row) + pick q (left_of net column v c) 0
          go true (same e) =
              let f = free e in
              let s : suc (column - 1) ≡ column = omega (arith, f.right) in
              omega (
                arith,
                left-set v row (column - 1) net c n (omega (arith, f.right, f.within)) f.empty,
                ap (λ (k : ℕ). left_of net k v c) s,
              )
          go false d = omega arith

-- BOTH PINS

module _ (own : ℕ) (row : List ℕ) (net column1 side1 column2 side2 : ℕ) where
  -- with the first pin, and with both
  abbrev mid : List ℕ
  mid = with_pin own row net column1 side1

  abbrev pub both : List ℕ
  both = with_pins own row net column1 side1 column2 side2

  pub both_length : length both ≡ length row
  both_length = pin_length own mid net column2 side2 ∙ pin_length own row net column1 side1

  module _ (drawn : ℕ) (one : FreeOn own row drawn column1 side1) (two : FreeOn own row drawn column2 side2) (d : Differ column1 side1 column2 side2) where
    -- the second terminal is free beside the first pin
    pub still-free : FreeOn own mid drawn column2 side2
    still-free e₂ =
        let f = two e₂ in
        record {
          right = f.right;
          within = omega (arith, f.within, pin_length own row net column1 side1);
          empty = pin_by_lem own row net column1 side1 (λ l. get_or l (column2 - 1) 0 ≡ 0) f.empty (λ e₁.
              get_or-set_other row (column1 - 1) (column2 - 1) net 0 (λ y. d (omega (arith, (one e₁).right, f.right)) (e₁ ∙ sym e₂)) ∙ f.empty);
        }

    pub both_before : take drawn both ≡ take drawn row
    both_before = pin_before own mid net column2 side2 drawn still-free ∙ pin_before own row net column1 side1 drawn one

    module _ (v : ℕ) (n : v ≢ 0) where
      pub both_times : times v both ≡ times v row + of_side own side1 (bit (eqb net v)) + of_side own side2 (bit (eqb net v))
      both_times = omega (arith, pin_times own row net column1 side1 drawn one v n, pin_times own mid net column2 side2 drawn still-free v n)

      pub both_left : (c : ℕ)
          → times v (take c both) ≡ times v (take c row) + of_side own side1 (left_of net column1 v c) + of_side own side2 (left_of net column2 v c)
      both_left c = omega (arith, pin_left own row net column1 side1 drawn one v n c, pin_left own mid net column2 side2 drawn still-free v n c)

-- OVER THE CODE'S VARIABLES

-- a refused net leaves the row as it was
pub row_kept : (number : ℕ) (row new : List ℕ) → 0 < number → row ≡ if_accepted number new row
row_kept zero row new h = absurd (omega arith)
row_kept (suc k) row new h = refl

-- beside the first pin of a net is room for the second
pub second_room : {own : ℕ} {row : List ℕ} {drawn column2 side2 : ℕ} → FreeOn own row drawn column2 side2 → (net column1 side1 : ℕ) (l : List ℕ)
    → l ≡ with_pin own row net column1 side1 → side2 ≡ own → (1 ≤ column2) × (column2 ≤ length l)
second_room {own} {row} free net column1 side1 l e s =
    let (a, b) = pin_room free s in
    let n = ap length e ∙ pin_length own row net column1 side1 in
    (a, omega arith)

-- and with both the row is as the net places it
pub row_placed : (own : ℕ) (row half last : List ℕ) (net column1 side1 column2 side2 : ℕ) → half ≡ with_pin own row net column1 side1
    → last ≡ with_pin own half net column2 side2 → last ≡ with_pins own row net column1 side1 column2 side2
row_placed own row half last net column1 side1 column2 side2 e f = f ∙ ap (λ (l : List ℕ). with_pin own l net column2 side2) e
