-- A number in decimal reads back as the number, and starts with no zero unless it is 0. Assumes nothing.
use Prim.Native.Nat.{ℕ, zero, suc, ◌+◌, ◌*◌, ◌-◌, ◌/◌, ◌%◌, ◌≤◌}
use native.Mathlib.Omega.{arith}
use mathlib.Core.Bool.{Bool, true, false}
use mathlib.Core.Path.{◌≡◌, refl, ap, ◌∙◌}
use mathlib.Core.List.{List, [], ◌∷◌, ◌++◌}
use lib.ListN.{length, get_or, length-append, get_or-append}
use lib.Dec.{ltb}
use borrow.Author.Tests.{ltb-true, ltb-false}
use Rattle.listing.specs.Digits.{digits, decimal}
use Rattle.listing.proofs.Digits.{digits_small, digits_large}

-- the number that digits after a number a stand for
pub value : ℕ → List ℕ → ℕ
value a [] = a
value a (x ∷ xs) = value (10 * a + (x - 48)) xs

-- digits after digits
value_append : (a : ℕ) (xs ys : List ℕ) → value a (xs ++ ys) ≡ value (value a xs) ys
unfolding value
value_append a [] ys = refl
value_append a (x ∷ xs) ys = value_append (10 * a + (x - 48)) xs ys

-- the digits stand for the number
digits_value : (k n : ℕ) → n ≤ k → value 0 (digits k n) ≡ n
unfolding value
digits_value zero n h = ap (λ z. value 0 z) (digits_small zero n (omega arith)) ∙ omega arith
digits_value (suc k) n h = go (λ m l. digits_value k m l) (ltb n 10) refl
  where
    go : ((m : ℕ) → m ≤ k → value 0 (digits k m) ≡ m) → (b : Bool) → ltb n 10 ≡ b → value 0 (digits (suc k) n) ≡ n
    go f true e = ap (λ z. value 0 z) (digits_small (suc k) n (ltb-true n 10 e)) ∙ omega arith
    go f false e =
        ap (λ z. value 0 z) (digits_large k n (ltb-false n 10 e))
        ∙ value_append 0 (digits k (n / 10)) ((48 + n % 10) ∷ [])
        ∙ omega (arith, f (n / 10) (omega (arith, ltb-false n 10 e)))

-- a number in decimal reads back as the number
pub decimal_value : (n : ℕ) → value 0 (decimal n) ≡ n
unfolding decimal
decimal_value n = digits_value n n (omega arith)

-- a single digit
digits_zero : (n : ℕ) → digits zero n ≡ (48 + n) ∷ []
unfolding digits
digits_zero n = refl

-- there is a digit
digits-some : (k n : ℕ) → 1 ≤ length (digits k n)
digits-some zero n = omega (arith, ap length (digits_zero n))
digits-some (suc k) n = go (ltb n 10) refl
  where
    go : (b : Bool) → ltb n 10 ≡ b → 1 ≤ length (digits (suc k) n)
    go true e = omega (arith, ap length (digits_small (suc k) n (ltb-true n 10 e)))
    go false e = omega (arith, ap length (digits_large k n (ltb-false n 10 e)), length-append (digits k (n / 10)) ((48 + n % 10) ∷ []))

-- the first digit of a number from 1 on is no zero
digits-first : (k n : ℕ) → n ≤ k → 1 ≤ n → 49 ≤ get_or (digits k n) 0 0
digits-first zero n h l = absurd (omega arith)
digits-first (suc k) n h l = go (λ m a b. digits-first k m a b) (ltb n 10) refl
  where
    go : ((m : ℕ) → m ≤ k → 1 ≤ m → 49 ≤ get_or (digits k m) 0 0) → (b : Bool) → ltb n 10 ≡ b → 49 ≤ get_or (digits (suc k) n) 0 0
    go f true e = omega (arith, ap (λ z. get_or z 0 0) (digits_small (suc k) n (ltb-true n 10 e)))
    go f false e =
        omega (
          arith,
          ap (λ z. get_or z 0 0) (digits_large k n (ltb-false n 10 e)),
          get_or-append (digits k (n / 10)) ((48 + n % 10) ∷ []) 0 0 (digits-some k (n / 10)),
          f (n / 10) (omega (arith, ltb-false n 10 e)) (omega (arith, ltb-false n 10 e)),
        )

-- no leading zero
pub decimal-first : (n : ℕ) → 1 ≤ n → 49 ≤ get_or (decimal n) 0 0
unfolding decimal
decimal-first n h = digits-first n n (omega arith) h
