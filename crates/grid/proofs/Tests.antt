-- Boolean tests as facts about numbers. Those of a single test stand in the kit's library and are passed on: `ltb-true` gives the fact of a test's value,
-- `lt-ltb` the value of a fact, and so for the others. Assumes nothing.
use Prim.Native.Nat.{ℕ, ◌≤◌, ◌<◌}
use mathlib.Core.Path.{◌≡◌, refl, sym, subst, ◌∙◌}
use mathlib.Core.Logic.{◌⊎◌, inl, inr, ⊎_elim, ◌≢◌}
use mathlib.Core.Bool.{Bool, true, false, ◌&&◌, ◌||◌}
use native.Mathlib.Omega.{arith}
use lib.Dec.{T, eqb, ltb}
use Rattle.grid.specs.Channel.{pick, bit}
pub use borrow.Author.Tests.{ltb-true, ltb-false, leb-true, leb-false, eqb-true, eqb-false, not-true, not-false}
pub use borrow.Author.Tests.{lt-ltb, le-ltb, le-leb, lt-leb, eq-eqb, ne_eqb}

-- a test does not both pass and fail
pub not_both : {b : Bool} → b ≡ true → b ≡ false → ⊥
not_both p q = subst T (sym p ∙ q) tt

-- A TEST'S VALUE WITH ITS FACT, to go by cases: `go (eqb x v) (same_by x v)`

-- whether two numbers are equal
pub data Same (x v : ℕ) : Bool → Type 0 where
  same : x ≡ v → Same x v true
  diff : x ≢ v → Same x v false

pub same_by : (x v : ℕ) → Same x v (eqb x v)
same_by x v = go (eqb x v) refl
  where
    go : (q : Bool) → eqb x v ≡ q → Same x v q
    go true e = same (eqb-true x v e)
    go false e = diff (eqb-false x v e)

-- whether a number is below another
pub data Below (x v : ℕ) : Bool → Type 0 where
  below : x < v → Below x v true
  above : v ≤ x → Below x v false

pub below_by : (x v : ℕ) → Below x v (ltb x v)
below_by x v = go (ltb x v) refl
  where
    go : (q : Bool) → ltb x v ≡ q → Below x v q
    go true e = below (ltb-true x v e)
    go false e = above (ltb-false x v e)

-- so it is below or not
pub below_or : (x v : ℕ) → (x < v) ⊎ (v ≤ x)
below_or x v = go (ltb x v) (below_by x v)
  where
    go : (q : Bool) → Below x v q → (x < v) ⊎ (v ≤ x)
    go true (below l) = inl l
    go false (above l) = inr l

-- or below, at or above
pub before_at_after : (x v : ℕ) → (x < v) ⊎ ((x ≡ v) ⊎ (v < x))
before_at_after x v = ⊎_elim inl (λ (l : v ≤ x). inr (⊎_elim (λ k. inr k) (λ k. inl (omega arith)) (below_or v x))) (below_or x v)

-- BITS

-- the bit of an equality, and what it says
pub eq_bit : (x v : ℕ) → ((x ≡ v) × (bit (eqb x v) ≡ 1)) ⊎ ((x ≢ v) × (bit (eqb x v) ≡ 0))
eq_bit x v = go (eqb x v) (same_by x v)
  where
    go : (q : Bool) → Same x v q → ((x ≡ v) × (bit q ≡ 1)) ⊎ ((x ≢ v) × (bit q ≡ 0))
    go true (same e) = inl (e, refl)
    go false (diff n) = inr (n, refl)

-- a number is itself
pub eqb_same : (x : ℕ) → bit (eqb x x) ≡ 1
eqb_same x = rw (eq-eqb x x refl)

-- two numbers that differ
pub eqb_diff : (x v : ℕ) → x ≢ v → bit (eqb x v) ≡ 0
eqb_diff x v n = rw (ne_eqb x v n)

-- a bit of 0 is a test that fails
pub bit_none : (q : Bool) → bit q ≡ 0 → q ≡ false
bit_none true e = absurd (omega arith)
bit_none false e = refl

-- a test's bit is at most a number that is positive where the test holds
pub bit_le : (q : Bool) (n : ℕ) → (q ≡ true → 0 < n) → bit q ≤ n
bit_le true n h = h refl
bit_le false n h = omega arith

-- and at most 1
pub bit_most : (q : Bool) → bit q ≤ 1
bit_most q = bit_le q 1 (λ e. omega arith)

-- AND, OR

-- both of two tests hold
pub and_true : (a b : Bool) → (a && b) ≡ true → (a ≡ true) × (b ≡ true)
and_true true b e = (refl, e)
and_true false b e = absurd (subst T (sym e) tt)

-- a test and one that fails
pub and_none : (a b : Bool) → b ≡ false → (a && b) ≡ false
and_none true b e = e
and_none false b e = refl

-- neither of two tests holds
pub or_false : (a b : Bool) → (a || b) ≡ false → (a ≡ false) × (b ≡ false)
or_false true b e = absurd (subst T e tt)
or_false false b e = (refl, e)

-- CHOICES

-- a choice between equals
pub pick_same {ℓ} : {A : Type ℓ} (q : Bool) (a : A) → pick q a a ≡ a
pick_same true a = refl
pick_same false a = refl

-- a choice that is n did not take a number that is not
pub pick_past : (q : Bool) (m r n : ℕ) → m ≢ n → pick q m r ≡ n → (q ≡ false) × (r ≡ n)
pick_past true m r n d e = absurd (d e)
pick_past false m r n d e = (refl, e)
