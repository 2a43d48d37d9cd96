-- The laws of decimal numbers. Assumes nothing.
use Prim.Native.Nat.{ℕ, zero, suc, ◌+◌, ◌*◌, ◌/◌, ◌%◌, ◌≤◌, ◌<◌}
use native.Mathlib.Omega.{arith}
use mathlib.Core.Bool.{Bool, true, false}
use mathlib.Core.Path.{◌≡◌, refl, ap, sym, ◌∙◌}
use mathlib.Core.List.{[], ◌∷◌, ◌++◌}
use lib.ListN.{length, length-append}
use lib.Dec.{ltb}
use borrow.Author.Tests.{lt-ltb, le-ltb, ltb-true, ltb-false}
use Rattle.listing.specs.Digits.{digits, decimal}

-- below ten: one digit
pub digits_small : (k n : ℕ) → n < 10 → digits k n ≡ (48 + n) ∷ []
unfolding digits
digits_small zero n h = refl
digits_small (suc k) n h = rw (lt-ltb n 10 h, digits)

-- from ten on: the digits of the tenth part, then the last digit
pub digits_large : (k n : ℕ) → 10 ≤ n → digits (suc k) n ≡ digits k (n / 10) ++ ((48 + n % 10) ∷ [])
unfolding digits
digits_large k n h = rw (le-ltb n 10 h, digits)

-- how many are allowed does not matter once there are enough
digits_same : (k j n : ℕ) → n ≤ k → n ≤ j → digits k n ≡ digits j n
digits_same zero j n h l = digits_small zero n (omega arith) ∙ sym (digits_small j n (omega arith))
digits_same (suc k) zero n h l = digits_small (suc k) n (omega arith) ∙ sym (digits_small zero n (omega arith))
digits_same (suc k) (suc j) n h l = go (λ m a b. digits_same k j m a b) (ltb n 10) refl
  where
    go : ((m : ℕ) → m ≤ k → m ≤ j → digits k m ≡ digits j m) → (b : Bool) → ltb n 10 ≡ b → digits (suc k) n ≡ digits (suc j) n
    go f true e = digits_small (suc k) n (ltb-true n 10 e) ∙ sym (digits_small (suc j) n (ltb-true n 10 e))
    go f false e =
        digits_large k n (ltb-false n 10 e)
        ∙ ap (λ z. z ++ ((48 + n % 10) ∷ [])) (f (n / 10) (omega (arith, ltb-false n 10 e)) (omega (arith, ltb-false n 10 e)))
        ∙ sym (digits_large j n (ltb-false n 10 e))

-- below ten: one digit
pub decimal_small : (n : ℕ) → n < 10 → decimal n ≡ (48 + n) ∷ []
unfolding decimal
decimal_small n h = digits_small n n h

-- from ten on: the digits of the tenth part, then the last digit
pub decimal_large : (n : ℕ) → 10 ≤ n → decimal n ≡ decimal (n / 10) ++ ((48 + n % 10) ∷ [])
unfolding decimal
decimal_large zero h = absurd (omega arith)
decimal_large (suc n) h =
    digits_large n (suc n) h
    ∙ ap (λ z. z ++ ((48 + suc n % 10) ∷ [])) (digits_same n (suc n / 10) (suc n / 10) (omega arith) (omega arith))

-- a number below 10 b has at most one digit more than one below b
decimal_step : (n b k : ℕ) → (n / 10 < b → length (decimal (n / 10)) ≤ k) → n < 10 * b → 1 ≤ k → length (decimal n) ≤ suc k
decimal_step n b k f h o = go (ltb n 10) refl
  where
    go : (t : Bool) → ltb n 10 ≡ t → length (decimal n) ≤ suc k
    go true e = omega (arith, ap length (decimal_small n (ltb-true n 10 e)))
    go false e = omega (arith, ap length (decimal_large n (ltb-false n 10 e)), length-append (decimal (n / 10)) ((48 + n % 10) ∷ []), f (omega arith))

-- a number below ten has one digit
one_digit : (n : ℕ) → n < 10 → length (decimal n) ≤ 1
one_digit n h = omega (arith, ap length (decimal_small n h))

-- a number below a thousand has at most three digits
pub three_digits : (n : ℕ) → n < 1000 → length (decimal n) ≤ 3
three_digits n h = decimal_step n 100 2 (λ a. decimal_step (n / 10) 10 1 (λ b. one_digit (n / 10 / 10) b) a (omega arith)) h (omega arith)

-- and one below 100,000 at most five
pub five_digits : (n : ℕ) → n < 100000 → length (decimal n) ≤ 5
five_digits n h = decimal_step n 10000 4 (λ a. decimal_step (n / 10) 1000 3 (λ b. three_digits (n / 10 / 10) b) a (omega arith)) h (omega arith)
