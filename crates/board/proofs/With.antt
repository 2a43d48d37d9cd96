-- Rows with a net added: without it they are the rows before, and it is open between its columns. Assumes nothing.
use Prim.Native.Nat.{ℕ, ◌+◌, ◌-◌, ◌<◌, min, max}
use mathlib.Core.Path.{◌≡◌, refl, sym, ap, ap₂, ◌∙◌}
use mathlib.Core.Bool.{Bool, true, false, ◌&&◌}
use mathlib.Core.List.{List}
use native.Mathlib.Omega.{arith}
use native.Mathlib.Decide.{dec_lt}
use lib.Dec.{eqb, ltb, leb}
use lib.ListN.{set}
use Rattle.grid.specs.Channel.{pick, bit, times, pins, left, right, is_open, open_at}
use Rattle.grid.proofs.Tests.{lt-ltb, le-ltb, le-leb, lt-leb, Same, same, same_by, eqb_same}
use Rattle.grid.proofs.Rows.{left-right}
use Rattle.placing.specs.Placing.{with_pin, with_pins, placed_top, placed_bottom}
use Rattle.placing.proofs.Terminals.{FreeOn, Differ, Accepted}
use Rattle.placing.proofs.Pins.{left_of, still-free}
use Rattle.placing.proofs.Placed.{more_pins, more_left}
use Rattle.board.specs.Changes.{without_net}
use Rattle.board.proofs.Without.{without_none, without_put, open_without}

-- ONE ROW

-- a pin at a free terminal is gone without its net
pin_without : (own : ℕ) (row : List ℕ) (net column side : ℕ) → FreeOn own row 0 column side
    → without_net net (with_pin own row net column side) ≡ without_net net row
unfolding with_pin
pin_without own row net column side free = go (eqb side own) (same_by side own)
  where
    go : (q : Bool) → Same side own q → without_net net (pick q (set row (column - 1) net) row) ≡ without_net net row
    go true (same e) = without_put net row (column - 1) (free e).empty
    go false d = refl

-- so are both
both_without : (own : ℕ) (row : List ℕ) (net column1 side1 column2 side2 : ℕ) → FreeOn own row 0 column1 side1 → FreeOn own row 0 column2 side2
    → Differ column1 side1 column2 side2 → times net row ≡ 0 → without_net net (with_pins own row net column1 side1 column2 side2) ≡ row
both_without own row net column1 side1 column2 side2 one two d e =
    pin_without own (with_pin own row net column1 side1) net column2 side2 (still-free own row net column1 side1 column2 side2 0 one two d)
    ∙ pin_without own row net column1 side1 one ∙ without_none net row e

-- TWO ROWS

-- a net of two pins that has those of the columns p and q left of gap g has a pin on both sides of it from the first of them to before the last
both_sides : (p q g a b : ℕ) → a ≡ pick (leb p g) 1 0 + pick (leb q g) 1 0 → a + b ≡ 2 → (ltb 0 a && ltb 0 b) ≡ (leb (min p q) g && ltb g (max p q))
both_sides p q g a b e s = go (dec_lt g p) (dec_lt g q)
  where
    at : (column : ℕ) {r : Bool} → leb column g ≡ r → pick (leb column g) 1 0 ≡ pick {A = ℕ} r 1 0
    at column = ap (λ (r : Bool). pick {A = ℕ} r 1 0)

    go : Dec (g < p) → Dec (g < q) → (ltb 0 a && ltb 0 b) ≡ (leb (min p q) g && ltb g (max p q))
    go (yes x) (yes y) =
        let k : a ≡ 0 = omega (arith, at p (lt-leb p g x), at q (lt-leb q g y)) in
        rw (le-ltb 0 a (omega arith), lt-leb (min p q) g (omega arith))
    go (yes x) (no y) =
        let k : a ≡ 1 = omega (arith, at p (lt-leb p g x), at q (le-leb q g (omega arith))) in
        rw (lt-ltb 0 a (omega arith), lt-ltb 0 b (omega arith), le-leb (min p q) g (omega arith), lt-ltb g (max p q) (omega arith))
    go (no x) (yes y) =
        let k : a ≡ 1 = omega (arith, at p (le-leb p g (omega arith)), at q (lt-leb q g y)) in
        rw (lt-ltb 0 a (omega arith), lt-ltb 0 b (omega arith), le-leb (min p q) g (omega arith), lt-ltb g (max p q) (omega arith))
    go (no x) (no y) =
        let k : a ≡ 2 = omega (arith, at p (le-leb p g (omega arith)), at q (le-leb q g (omega arith))) in
        rw (lt-ltb 0 a (omega arith), le-ltb 0 b (omega arith), le-leb (min p q) g (omega arith), le-ltb g (max p q) (omega arith))

module _ (top bottom : List ℕ) (net column1 side1 column2 side2 : ℕ) (a : Accepted top bottom 0 net column1 side1 column2 side2) where
  -- with the net
  abbrev top' : List ℕ
  top' = placed_top top net column1 side1 column2 side2

  abbrev bottom' : List ℕ
  bottom' = placed_bottom bottom net column1 side1 column2 side2

  pub without_top : without_net net (placed_top top net column1 side1 column2 side2) ≡ top
  unfolding pins
  without_top =
      both_without 0 top net column1 side1 column2 side2 a.first.above a.second.above a.distinct (omega (arith, a.unused))

  pub without_bottom : without_net net (placed_bottom bottom net column1 side1 column2 side2) ≡ bottom
  unfolding pins
  without_bottom =
      both_without 1 bottom net column1 side1 column2 side2 a.first.below a.second.below a.distinct (omega (arith, a.unused))

  -- the net has two pins
  two_pins : pins top' bottom' net ≡ 2
  two_pins = omega (arith, more_pins top bottom 0 net column1 side1 column2 side2 a net (omega (arith, a.some)), a.unused, eqb_same net)

  -- left of a gap those of the columns up to it
  left-pins : (g : ℕ) → left top' bottom' g net ≡ pick (leb column1 g) 1 0 + pick (leb column2 g) 1 0
  left-pins g =
      omega (
        arith,
        left-right top bottom net g,
        a.unused,
        more_left top bottom 0 net column1 side1 column2 side2 a g net (omega (arith, a.some)),
        one column1,
        one column2,
      )
    where
      one : (column : ℕ) → left_of net column net g ≡ pick (leb column g) 1 0
      one column = ap (λ (b : ℕ). pick (leb column g) b 0) (eqb_same net)

  placed_open : (g : ℕ)
      → is_open (placed_top top net column1 side1 column2 side2) (placed_bottom bottom net column1 side1 column2 side2) g net
      ≡ (leb (min column1 column2) g && ltb g (max column1 column2))
  unfolding is_open
  placed_open g =
      both_sides column1 column2 g (left top' bottom' g net) (right top' bottom' g net) (left-pins g) (left-right top' bottom' net g ∙ two_pins)

  pub open_placed : (g : ℕ)
      → open_at (placed_top top net column1 side1 column2 side2) (placed_bottom bottom net column1 side1 column2 side2) g
      ≡ open_at top bottom g + bit (leb (min column1 column2) g && ltb g (max column1 column2))
  open_placed g =
      sym (open_without net top' bottom' g a.some a.most)
      ∙ ap₂ ◌+◌ (ap₂ (λ (s t : List ℕ). open_at s t g) without_top without_bottom) (ap bit (placed_open g))
