-- The number of a wrong pin edge: of a terminal, and at a position. Assumes nothing.
use Prim.Native.Nat.{ℕ, ◌+◌, ◌*◌, ◌/◌, ◌%◌, ◌<◌}
use mathlib.Core.Path.{◌≡◌, refl, sym, ◌∙◌}
use mathlib.Core.Logic.{◌≢◌, inl, inr}
use mathlib.Core.Bool.{Bool, true, false, not, ◌&&◌}
use mathlib.Core.List.{List}
use lib.ListN.{length, get_or, get_or-eq_default}
use lib.Dec.{eqb, ltb}
use native.Mathlib.Omega.{arith}
use Rattle.grid.specs.Channel.{pick}
use Rattle.grid.proofs.Tests.{eq-eqb, ne_eqb, lt-ltb, and_none, Same, same, diff, same_by, Below, below, above, below_by}
use Rattle.grid.proofs.Drawings.Flat.{column_of_lem, entry_of}
use Rattle.checker.specs.Check.{terminal_fault, column_fault, pin_fault}
use Rattle.checker.specs.Faults.{Vacant, Unwired, Miswired, Unpinned}

-- OF A TERMINAL
module _ (row : List ℕ) (x e : ℕ) where
  -- one without a pin counts as 0
  vacant_zero : Vacant row x → get_or row x 0 ≡ 0
  vacant_zero (inl l) = get_or-eq_default row 0 {n = x} l
  vacant_zero (inr z) = z

  -- no pin
  pub at_vacant : Vacant row x → terminal_fault row x e ≡ 20
  at_vacant o = rw (eq-eqb (get_or row x 0) 0 (vacant_zero o), and_none (ltb x (length row)) false refl)

  module _ (l : x < length row) (n : get_or row x 0 ≢ 0) where
    -- a pin without a wire
    pub at_unwired : e ≡ 0 → terminal_fault row x e ≡ 14
    at_unwired z = rw (lt-ltb x (length row) l, ne_eqb (get_or row x 0) 0 n, eq-eqb e 0 z)

    -- a pin with one
    pub at_miswired : e ≢ 0 → terminal_fault row x e ≡ 19
    at_miswired m = rw (lt-ltb x (length row) l, ne_eqb (get_or row x 0) 0 n, ne_eqb e 0 m)

  -- what each number says of a wrong edge
  abbrev Says : ℕ → Type 0
  Says k = (k ≡ 14 → Unwired row x e) × (k ≡ 19 → Miswired row x e) × (k ≡ 20 → Unpinned row x e)

  said : e ≢ get_or row x 0 → Says (terminal_fault row x e)
  said d = go (ltb x (length row)) (below_by x (length row)) (eqb (get_or row x 0) 0) (same_by (get_or row x 0) 0) (eqb e 0) (same_by e 0)
    where
      vacant : Vacant row x → Says 20
      vacant o = (λ q. absurd (omega arith), λ q. absurd (omega arith), λ q. (o, λ z. d (z ∙ sym (vacant_zero o))))

      go :
          (a : Bool) → Below x (length row) a → (b : Bool) → Same (get_or row x 0) 0 b → (c : Bool) → Same e 0 c
          → Says (pick (a && not b) (pick c 14 19) 20)
      go false (above l) b s c f = vacant (inl l)
      go true (below l) true (same z) c f = vacant (inr z)
      go true (below l) false (diff n) true (same z) = (λ q. ((l, n), z), λ q. absurd (omega arith), λ q. absurd (omega arith))
      go true (below l) false (diff n) false (diff m) = (λ q. absurd (omega arith), λ q. ((l, n), m, d), λ q. absurd (omega arith))

-- a fault in words, and the number that a wrong edge has just if it has the fault
pub record FaultNumber (Fault : (row : List ℕ) (x e : ℕ) → Type 0) (n : ℕ) : Type 0 where
  pub wrong : (row : List ℕ) (x e : ℕ) → Fault row x e → e ≢ get_or row x 0
  pub number : (row : List ℕ) (x e : ℕ) → Fault row x e → terminal_fault row x e ≡ n
  pub words : (row : List ℕ) (x e : ℕ) → e ≢ get_or row x 0 → terminal_fault row x e ≡ n → Fault row x e

pub unwired_14 : FaultNumber Unwired 14
unwired_14 = record {
  wrong = λ row x e ((l, n), z) q. n (sym q ∙ z);
  number = λ row x e ((l, n), z). at_unwired row x e l n z;
  words = λ row x e d. (said row x e d).0;
}

pub miswired_19 : FaultNumber Miswired 19
miswired_19 = record {
  wrong = λ row x e (o, m, d). d;
  number = λ row x e ((l, n), m, d). at_miswired row x e l n m;
  words = λ row x e d. (said row x e d).1;
}

pub unpinned_20 : FaultNumber Unpinned 20
unpinned_20 = record {
  wrong = λ row x e (o, m) q. m (q ∙ vacant_zero row x e o);
  number = λ row x e (o, m). at_vacant row x e o;
  words = λ row x e d. (said row x e d).2;
}

-- AT A POSITION
-- the three numbers of a wrong pin edge
pub data PinFault : ℕ → Type 0 where
  is_14 : PinFault 14
  is_19 : PinFault 19
  is_20 : PinFault 20

module _ (top bottom : List ℕ) where
  module _ (x i e : ℕ) where
    -- the first entry of a column that is not its bottom pin
    pub bottom_fault : i ≡ 0 → e ≢ get_or bottom x 0 → column_fault top bottom x i e ≡ terminal_fault bottom x e
    bottom_fault z n = rw (eq-eqb i 0 z, ne_eqb e (get_or bottom x 0) n)

    -- an entry that is not the first, or that is the bottom pin
    pub top_fault : (i ≡ 0 → e ≡ get_or bottom x 0) → column_fault top bottom x i e ≡ terminal_fault top x e
    top_fault h = go (eqb i 0) (same_by i 0)
      where
        go : (q : Bool) → Same i 0 q → pick (q && not (eqb e (get_or bottom x 0))) (terminal_fault bottom x e) (terminal_fault top x e) ≡ terminal_fault top x e
        go true (same z) = rw (eq-eqb e (get_or bottom x 0) (h z))
        go false (diff n) = refl

  module _ (t : ℕ) (D : List ℕ) where
    -- at entry i of column x
    pub pin_fault_of : (p x i : ℕ) → i < 2 * t + 1 → p ≡ x * (2 * t + 1) + i → pin_fault top bottom t D p ≡ column_fault top bottom x i (get_or D p 0)
    unfolding pin_fault
    pin_fault_of p x i l e = rw (column_of_lem t p x i l e, entry_of t p x i l e)

    -- it is one of the three
    pub pin_fault_by : (p : ℕ) → PinFault (pin_fault top bottom t D p)
    unfolding pin_fault
    pin_fault_by p =
        let x = p / (2 * t + 1) in
        let e = get_or D p 0 in
        go (eqb (p % (2 * t + 1)) 0 && not (eqb e (get_or bottom x 0))) (of (ltb x (length bottom) && not (eqb (get_or bottom x 0) 0)) (eqb e 0))
        (of (ltb x (length top) && not (eqb (get_or top x 0) 0)) (eqb e 0))
      where
        of : (a b : Bool) → PinFault (pick a (pick b 14 19) 20)
        of true true = is_14
        of true false = is_19
        of false b = is_20

        go : (q : Bool) {k j : ℕ} → PinFault k → PinFault j → PinFault (pick q k j)
        go true f g = f
        go false f g = g

    -- so it is not 0
    pub fault_not_zero : (p : ℕ) → pin_fault top bottom t D p ≢ 0
    fault_not_zero p e = go (pin_fault top bottom t D p) (pin_fault_by p) e
      where
        go : (k : ℕ) → PinFault k → k ≢ 0
        go k is_14 z = omega arith
        go k is_19 z = omega arith
        go k is_20 z = omega arith

    -- by the one test that the code makes, with the entry and the bottom pin of its column
    pub pin_fault_by_lem :
        (p edge pin : ℕ) → edge ≡ get_or D p 0 → pin ≡ get_or bottom (p / (2 * t + 1)) 0 → (q : Bool) → (eqb (p % (2 * t + 1)) 0 && not (eqb edge pin)) ≡ q
        → pin_fault top bottom t D p ≡ pick q (terminal_fault bottom (p / (2 * t + 1)) edge) (terminal_fault top (p / (2 * t + 1)) edge)
    unfolding pin_fault
    pin_fault_by_lem p edge pin a b q h = rw (a, (rw (a, b) at h))
