-- What the machine's operations on words do to each binary digit.
use mathlib.Core.Path.{◌≡◌, refl, sym, ap, ◌∙◌}
use Prim.Native.Nat.{ℕ, zero, suc, ◌+◌, ◌-◌, ◌*◌, ◌/◌, ◌%◌, ◌^◌, ◌≤◌, ◌<◌, zero-le, suc-le-suc, min, max}
use native.Mathlib.Nat.{pow-suc, pow-succ', div-one, div-div-eq-div-mul, zero-div, div_self, div-eq_of_lt, lt_of_lt_of_le, mul-mod_left, mul-div_cancel, zero-lt-suc, le_of_suc-le-suc, not-suc-le-zero}
use native.Mathlib.Omega.{arith}
use lib.Bits.{bit_and, bit_or, and_step, or_step, and_shr, or_shr}
use lib.Pow.{pow_pos, pow_mono, shr-shr}
use lib.Count.{count_trailing_zeros, under}
use Rattle.sets.specs.Member.{digit}

pub digit_lt : (x j : ℕ) → digit x j < 2
unfolding digit
digit_lt x j = omega arith

digit_zero : (x : ℕ) → digit x 0 ≡ x % 2
unfolding digit
digit_zero x = ap (λ (n : ℕ). n % 2) (div-one x)

digit_suc : (x j : ℕ) → digit x (suc j) ≡ digit (x / 2) j
unfolding digit
digit_suc x j = ap (λ (n : ℕ). n % 2) (ap (λ (n : ℕ). x / n) (pow-succ' 2 j) ∙ sym (div-div-eq-div-mul x 2 (2 ^ j)))

-- the digits of 0
pub zero_digit : (j : ℕ) → digit 0 j ≡ 0
unfolding digit
zero_digit j = ap (λ (n : ℕ). n % 2) (zero-div (2 ^ j))

-- a shift to the right by m: digit j was digit m + j
pub shr_digit : (x m j : ℕ) → digit (x / 2 ^ m) j ≡ digit x (m + j)
unfolding digit
shr_digit x m j = ap (λ (n : ℕ). n % 2) (shr-shr x m j)

-- ---- `|` and `&`, digit by digit

even_add : (q d : ℕ) → d < 2 → (q * 2 + d) % 2 ≡ d
even_add q d h = omega arith

max_lt : (a b : ℕ) → max (a % 2) (b % 2) < 2
max_lt a b = omega arith

min_lt : (a b : ℕ) → min (a % 2) (b % 2) < 2
min_lt a b = omega arith

pub or_digit : (a b j : ℕ) → digit (bit_or a b) j ≡ max (digit a j) (digit b j)
unfolding digit
or_digit a b j = ap (λ (n : ℕ). n % 2) (or_shr a b j ∙ or_step (a / 2 ^ j) (b / 2 ^ j)) ∙ even_add _ _ (max_lt (a / 2 ^ j) (b / 2 ^ j))

pub and_digit : (a b j : ℕ) → digit (bit_and a b) j ≡ min (digit a j) (digit b j)
unfolding digit
and_digit a b j = ap (λ (n : ℕ). n % 2) (and_shr a b j ∙ and_step (a / 2 ^ j) (b / 2 ^ j)) ∙ even_add _ _ (min_lt (a / 2 ^ j) (b / 2 ^ j))

-- ---- `1 << i`

pub pow_digit_same : (i : ℕ) → digit (2 ^ i) i ≡ 1
unfolding digit
pow_digit_same i = ap (λ (n : ℕ). n % 2) (div_self (pow_pos i))

pub pow_digit_other : (i j : ℕ) → (j ≡ i → ⊥) → digit (2 ^ i) j ≡ 0
pow_digit_other zero zero n = absurd (n refl)
pow_digit_other zero (suc j) n = digit_suc 1 j ∙ zero_digit j
pow_digit_other (suc i) zero n = digit_zero (2 ^ suc i) ∙ ap (λ (x : ℕ). x % 2) (pow-suc 2 i) ∙ mul-mod_left (2 ^ i) 2
pow_digit_other (suc i) (suc j) n =
    digit_suc (2 ^ suc i) j
    ∙ ap (λ (x : ℕ). digit x j) (ap (λ (x : ℕ). x / 2) (pow-suc 2 i) ∙ mul-div_cancel (2 ^ i) (zero-lt-suc 1))
    ∙ pow_digit_other i j (λ e. n (ap suc e))

-- ---- `!x` at w bits

not_low : (p x : ℕ) → x < p * 2 → ((p * 2 - 1) - x) % 2 ≡ 1 - x % 2
not_low p x h = omega arith

not_half : (p x : ℕ) → x < p * 2 → ((p * 2 - 1) - x) / 2 ≡ (p - 1) - x / 2
not_half p x h = omega arith

half_lt : (p x : ℕ) → x < p * 2 → x / 2 < p
half_lt p x h = omega arith

pub not_digit : (w x j : ℕ) → x < 2 ^ w → j < w → digit ((2 ^ w - 1) - x) j ≡ 1 - digit x j
not_digit zero x j h l = absurd (not-suc-le-zero l)
not_digit (suc w) x zero h l =
    digit_zero ((2 ^ suc w - 1) - x) ∙ ap (λ (p : ℕ). ((p - 1) - x) % 2) (pow-suc 2 w)
    ∙ not_low (2 ^ w) x (rw pow-suc at h) ∙ ap (λ (d : ℕ). 1 - d) (sym (digit_zero x))
not_digit (suc w) x (suc j) h l =
    digit_suc ((2 ^ suc w - 1) - x) j
    ∙ ap (λ (y : ℕ). digit y j) (ap (λ (p : ℕ). ((p - 1) - x) / 2) (pow-suc 2 w) ∙ not_half (2 ^ w) x (rw pow-suc at h))
    ∙ not_digit w (x / 2) j (half_lt (2 ^ w) x (rw pow-suc at h)) (le_of_suc-le-suc l)
    ∙ ap (λ (d : ℕ). 1 - d) (sym (digit_suc x j))

-- ---- trailing zeros

-- a number of w bits that is not 0 has its lowest 1 at its trailing zeros
pub trailing_one : (w x : ℕ) → 0 < x → x < 2 ^ w → (count_trailing_zeros w x < w) × (digit x (count_trailing_zeros w x) ≡ 1)
unfolding count_trailing_zeros
trailing_one zero x p h = absurd (none x p h)
  where
    none : (x : ℕ) → 0 < x → x < 1 → ⊥
    none x p h = omega arith
trailing_one (suc w) x p h = go (x % 2) refl (λ e. trailing_one w (x / 2) (omega arith) (half_lt (2 ^ w) x (rw pow-suc at h)))
  where
    go : (r : ℕ) → x % 2 ≡ r → (x % 2 ≡ 0 → (count_trailing_zeros w (x / 2) < w) × (digit (x / 2) (count_trailing_zeros w (x / 2)) ≡ 1))
        → (under r (count_trailing_zeros w (x / 2)) < suc w) × (digit x (under r (count_trailing_zeros w (x / 2))) ≡ 1)
    go zero e ih = (suc-le-suc (ih e).0, digit_suc x (count_trailing_zeros w (x / 2)) ∙ (ih e).1)
    go (suc r) e ih = (suc-le-suc zero-le, digit_zero x ∙ omega arith)

-- and no 1 below it
pub trailing_zero : (w x j : ℕ) → j < count_trailing_zeros w x → digit x j ≡ 0
unfolding count_trailing_zeros
trailing_zero zero x j l = absurd (not-suc-le-zero l)
trailing_zero (suc w) x j l = go (x % 2) refl (trailing_zero w (x / 2)) j l
  where
    go : (r : ℕ) → x % 2 ≡ r → ((j : ℕ) → j < count_trailing_zeros w (x / 2) → digit (x / 2) j ≡ 0) → (j : ℕ) → j < under r (count_trailing_zeros w (x / 2)) → digit x j ≡ 0
    go zero e ih zero l = digit_zero x ∙ e
    go zero e ih (suc j) l = digit_suc x j ∙ ih j (le_of_suc-le-suc l)
    go (suc r) e ih j l = absurd (not-suc-le-zero l)

-- ---- a number of w bits has no 1 from digit w on

pub high_digit : (w x j : ℕ) → x < 2 ^ w → w ≤ j → digit x j ≡ 0
unfolding digit
high_digit w x j h l = ap (λ (n : ℕ). n % 2) (div-eq_of_lt (lt_of_lt_of_le h (pow_mono l)))
