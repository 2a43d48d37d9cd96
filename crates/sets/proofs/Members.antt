-- What storing a word, and the trailing zeros of a word, are to the members of a set.
use mathlib.Core.Path.{◌≡◌, refl, sym, ap, ap₂, ◌∙◌}
use mathlib.Core.Bool.{true, false}
use mathlib.Core.List.{List}
use Prim.Native.Nat.{ℕ, zero, suc, ◌+◌, ◌-◌, ◌*◌, ◌/◌, ◌%◌, ◌^◌, ◌≤◌, ◌<◌}
use native.Mathlib.Nat.{lt_of_le_of_lt, add-sub_cancel_left, one-mul, mod-eq_of_lt, div-one, add-zero}
use native.Mathlib.Decide.{ℕ_discrete, dec_lt}
use native.Mathlib.Omega.{arith}
use lib.ListN.{length, get_or, set, replicate}
use lib.Seq.{get_or-set_same, get_or-set_other}
use lib.Dec.{eqb}
use lib.Bits.{bit_and, bit_or}
use lib.Pow.{pow-lt, shr_le, shr-shr}
use lib.Count.{count_trailing_zeros}
use Rattle.sets.specs.Member.{digit, member, Put, Clear, LowestFrom}
use Rattle.sets.proofs.Digits.{digit_lt, zero_digit, shr_digit, or_digit, and_digit, pow_digit_same, pow_digit_other, not_digit, trailing_one, trailing_zero, high_digit}

-- a word that is v in the place of the one that has k
module _ (s : List ℕ) (k v : ℕ) (l : k / 64 < length s) where
  put_same : (d : ℕ) → digit v (k % 64) ≡ d → member (set s (k / 64) v) k ≡ eqb d 1
  unfolding member
  put_same d e = rw (get_or-set_same s (k / 64) v 0, e)

  put_other : ((i : ℕ) → i < 64 → (i ≡ k % 64 → ⊥) → digit v i ≡ digit (get_or s (k / 64) 0) i)
      → (j : ℕ) → (j ≡ k → ⊥) → member (set s (k / 64) v) j ≡ member s j
  unfolding member
  put_other h j n = go (ℕ_discrete (j / 64) (k / 64))
    where
      go : Dec (j / 64 ≡ k / 64) → member (set s (k / 64) v) j ≡ member s j
      go (yes e) = ap (λ (x : ℕ). eqb (digit x (j % 64)) 1) (ap (λ (w : ℕ). get_or (set s (k / 64) v) w 0) e ∙ get_or-set_same s (k / 64) v 0 l)
          ∙ ap (λ (d : ℕ). eqb d 1) (h (j % 64) (omega arith) (λ m. n (omega arith)))
          ∙ ap (λ (w : ℕ). eqb (digit (get_or s w 0) (j % 64)) 1) (sym e)
      go (no m) = ap (λ (x : ℕ). eqb (digit x (j % 64)) 1) (get_or-set_other s (k / 64) (j / 64) v 0 m)

module _ (s : List ℕ) (k : ℕ) (l : k / 64 < length s) where
  inserted : Put s k true (set s (k / 64) (bit_or (get_or s (k / 64) 0) (2 ^ (k % 64))))
  inserted =
      let x = get_or s (k / 64) 0 in
      let b = k % 64 in
      record {
        same = put_same s k (bit_or x (2 ^ b)) l 1 (or_digit x (2 ^ b) b ∙ omega (arith, digit_lt x b, pow_digit_same b));
        other = put_other s k (bit_or x (2 ^ b)) l (λ i h n. or_digit x (2 ^ b) i ∙ omega (arith, digit_lt x i, pow_digit_other b i n));
      }

  removed : Put s k false (set s (k / 64) (bit_and (get_or s (k / 64) 0) ((2 ^ 64 - 1) - 2 ^ (k % 64))))
  removed =
      let x = get_or s (k / 64) 0 in
      let b = k % 64 in
      let lt : b < 64 = omega arith in
      let m = (2 ^ 64 - 1) - 2 ^ b in
      record {
        same = put_same s k (bit_and x m) l 0 (and_digit x m b ∙ omega (arith, digit_lt x b, not_digit 64 (2 ^ b) b (pow-lt lt) lt, pow_digit_same b));
        other = put_other s k (bit_and x m) l (λ i h n. and_digit x m i ∙ omega (arith, digit_lt x i, not_digit 64 (2 ^ b) i (pow-lt lt) h, pow_digit_other b i n));
      }

-- the same as the machine computes them, at a number below 512
shifted : (b : ℕ) → b < 64 → (1 * 2 ^ b) % 2 ^ 64 ≡ 2 ^ b
shifted b l = ap (λ (x : ℕ). x % 2 ^ 64) (one-mul (2 ^ b)) ∙ mod-eq_of_lt (pow-lt l)

module _ (s : List ℕ) (k : ℕ) (l : length s ≡ 8) (h : k < 512) where
  -- a store of a word with k's bit set
  pub inserted_by : Put s k true (set s (k / 64) (bit_or (get_or s (k / 64) 0) ((1 * 2 ^ (k % 64)) % 2 ^ 64)))
  inserted_by = rw (shifted (k % 64) (omega arith)) (inserted s k (omega arith))

  -- a store of a word with k's bit cleared
  pub removed_by : Put s k false (set s (k / 64) (bit_and (get_or s (k / 64) 0) ((2 ^ 64 - 1) - (1 * 2 ^ (k % 64)) % 2 ^ 64)))
  removed_by = rw (shifted (k % 64) (omega arith)) (removed s k (omega arith))

pub get_or_zeros : (n i : ℕ) → get_or (replicate {A = ℕ} n 0) i 0 ≡ 0
get_or_zeros zero i = refl
get_or_zeros (suc n) zero = refl
get_or_zeros (suc n) (suc i) = get_or_zeros n i

-- no member of the words 0
pub none_member : (s : List ℕ) → ((w : ℕ) → get_or s w 0 ≡ 0) → (k : ℕ) → member s k ≡ false
unfolding member
none_member s h k = ap (λ (x : ℕ). eqb (digit x (k % 64)) 1) (h (k / 64)) ∙ ap (λ (d : ℕ). eqb d 1) (zero_digit (k % 64))

-- a digit that is 1 is below the width
within : (x m t : ℕ) → x < 2 ^ 64 → digit (x / 2 ^ m) t ≡ 1 → m + t < 64
within x m t f e = go (dec_lt (m + t) 64)
  where
    go : Dec (m + t < 64) → m + t < 64
    go (yes l) = l
    go (no n) = absurd (omega (arith, high_digit 64 x (m + t) f (omega arith), shr_digit x m t, e))

-- what is left of word w after a shift by m: the members from w * 64 + m to the word's end
module _ (s : List ℕ) (w m : ℕ) (le : m ≤ 64) where
  rest_at : (k : ℕ) → w * 64 + m ≤ k → k < w * 64 + 64 → member s k ≡ eqb (digit (get_or s w 0 / 2 ^ m) (k - (w * 64 + m))) 1
  unfolding member
  rest_at k a b =
      let q : k / 64 ≡ w = omega arith in
      let r : k % 64 ≡ m + (k - (w * 64 + m)) = omega arith in
      ap₂ (λ (i j : ℕ). eqb (digit (get_or s i 0) j) 1) q r ∙ ap (λ (d : ℕ). eqb d 1) (sym (shr_digit (get_or s w 0) m (k - (w * 64 + m))))

  -- none where it is 0
  rest_none : get_or s w 0 / 2 ^ m ≡ 0 → Clear s (w * 64 + m) (w * 64 + 64)
  rest_none e k a b = rest_at k a b ∙ ap (λ (x : ℕ). eqb (digit x (k - (w * 64 + m))) 1) e ∙ ap (λ (d : ℕ). eqb d 1) (zero_digit (k - (w * 64 + m)))

  -- else the lowest is at its trailing zeros
  rest_some : get_or s w 0 < 2 ^ 64 → 0 < get_or s w 0 / 2 ^ m → w < 8 → LowestFrom s (w * 64 + m) (w * 64 + m + count_trailing_zeros 64 (get_or s w 0 / 2 ^ m))
  rest_some f p h =
      let x = get_or s w 0 in
      let y = x / 2 ^ m in
      let t = count_trailing_zeros 64 y in
      let one = trailing_one 64 y p (lt_of_le_of_lt (shr_le x m) f) in
      let in-word : m + t < 64 = within x m t f one.1 in
      record {
        low = omega arith;
        high = omega arith;
        found = λ l. rest_at (w * 64 + m + t) (omega arith) (omega arith) ∙ ap (λ (j : ℕ). eqb (digit y j) 1) (add-sub_cancel_left (w * 64 + m) t) ∙ ap (λ (d : ℕ). eqb d 1) one.1;
        below = λ k a b. rest_at k a (omega arith) ∙ ap (λ (d : ℕ). eqb d 1) (trailing_zero 64 y (k - (w * 64 + m)) (omega arith));
      }

pub clear_more : (s : List ℕ) {a b c : ℕ} → Clear s a b → Clear s b c → Clear s a c
clear_more s {a} {b} {c} h o k p q = go (dec_lt k b)
  where
    go : Dec (k < b) → member s k ≡ false
    go (yes y) = h k p y
    go (no n) = o k (omega arith) q

-- then the lowest from b on is the lowest from a on
pub lower : {s : List ℕ} {a b r : ℕ} → a ≤ b → Clear s a b → LowestFrom s b r → LowestFrom s a r
lower {s} l h o = record { low = omega arith; high = o.high; found = o.found; below = clear_more s h o.below }

-- no member at all from a on
pub nothing : {s : List ℕ} {a : ℕ} → a ≤ 512 → Clear s a 512 → LowestFrom s a 512
nothing l h = record { low = l; high = omega arith; found = λ p. absurd (omega arith); below = h }

-- a whole word
module _ (s : List ℕ) (w : ℕ) where
  whole : get_or s w 0 / 2 ^ 0 ≡ get_or s w 0
  whole = div-one (get_or s w 0)

  pub word_none : get_or s w 0 ≡ 0 → Clear s (w * 64) ((w + 1) * 64)
  word_none e k a b = rest_none s w 0 (omega arith) (whole ∙ e) k (omega arith) (omega arith)

  pub word_some : get_or s w 0 < 2 ^ 64 → 0 < get_or s w 0 → w < 8 → LowestFrom s (w * 64) (w * 64 + count_trailing_zeros 64 (get_or s w 0))
  word_some f p h = rw (whole, add-zero) at (rest_some s w 0 (omega arith) f (rw (sym whole) at p) h)

-- what is left of k's word above k
module _ (s : List ℕ) (k : ℕ) (h : k < 512) where
  left : get_or s (k / 64) 0 / 2 ^ (k % 64 + 1) ≡ get_or s (k / 64) 0 / 2 ^ (k % 64) / 2
  left = sym (shr-shr (get_or s (k / 64) 0) (k % 64) 1)

  pub above_none : get_or s (k / 64) 0 / 2 ^ (k % 64) / 2 ≡ 0 → Clear s (k + 1) ((k / 64 + 1) * 64)
  above_none z j p q = rest_none s (k / 64) (k % 64 + 1) (omega arith) (left ∙ z) j (omega arith) (omega arith)

  pub above_some : get_or s (k / 64) 0 < 2 ^ 64 → 0 < get_or s (k / 64) 0 / 2 ^ (k % 64) / 2
      → LowestFrom s (k + 1) (k + 1 + count_trailing_zeros 64 (get_or s (k / 64) 0 / 2 ^ (k % 64) / 2))
  above_some z p =
      let at : (k / 64) * 64 + (k % 64 + 1) ≡ k + 1 = omega arith in
      rw (at, left) at (rest_some s (k / 64) (k % 64 + 1) (omega arith) z (rw (sym left) at p) (omega arith))
