-- How often a number stands in a list, and sums and counts over the numbers 1 to k. Assumes nothing.
use Prim.Native.Nat.{ℕ, zero, suc, ◌+◌, ◌*◌, ◌≤◌, ◌<◌, zero-le}
use mathlib.Core.Path.{◌≡◌, refl, sym, ◌∙◌}
use mathlib.Core.Logic.{◌≢◌, ⊎_elim}
use mathlib.Core.Bool.{Bool, true, false}
use mathlib.Core.List.{List, [], ◌∷◌, ◌++◌}
use native.Mathlib.Omega.{arith}
use native.Mathlib.Decide.{dec_lt, ℕ_discrete}
use lib.Dec.{eqb}
use lib.ListN.{length, get_or, take, drop, replicate, get_or-eq_default}
use Rattle.grid.specs.Channel.{bit, times, sum, count}
use Rattle.grid.proofs.Tests.{eq_bit, eqb_same, eqb_diff, bit_none, bit_le}

-- HOW OFTEN A NUMBER STANDS IN A LIST

-- in two lists, one behind the other
pub times-append : (v : ℕ) (a b : List ℕ) → times v (a ++ b) ≡ times v a + times v b
unfolding times
times-append v [] b = omega arith
times-append v (x ∷ a) b = omega (arith, times-append v a b)

-- one more entry; past the list's end there is none
pub times-take : (N : ℕ) (l : List ℕ) (k : ℕ) → N ≢ 0 → times N (take (suc k) l) ≡ times N (take k l) + bit (eqb (get_or l k 0) N)
unfolding times
times-take N [] zero n = omega (arith, eqb_diff 0 N (λ e. n (sym e)))
times-take N [] (suc k) n = omega (arith, eqb_diff 0 N (λ e. n (sym e)))
times-take N (x ∷ xs) zero n = omega arith
times-take N (x ∷ xs) (suc k) n = omega (arith, times-take N xs k n)

-- a list cut in two
pub times_cut : (l : List ℕ) (c v : ℕ) → times v (take c l) + times v (drop c l) ≡ times v l
unfolding times
times_cut l zero v = omega arith
times_cut [] (suc c) v = omega arith
times_cut (y ∷ ys) (suc c) v = omega (arith, times_cut ys c v)

-- a number that is counted stands somewhere
pub times_at : (N : ℕ) (l : List ℕ) → 0 < times N l → (i : ℕ) × (i < length l) × (get_or l i 0 ≡ N)
unfolding times
times_at N [] p = absurd (omega arith)
times_at N (x ∷ xs) p = ⊎_elim (λ d. (0, omega arith, d.0)) (λ d. let (i, q, e) = times_at N xs (omega arith) in (suc i, omega arith, e)) (eq_bit x N)

-- a number that stands somewhere is counted
pub holds_times : (l : List ℕ) (i v : ℕ) → i < length l → get_or l i 0 ≡ v → 0 < times v l
unfolding times
holds_times [] i v h e = absurd (omega arith)
holds_times (x ∷ xs) zero v h e = ⊎_elim (λ d. omega arith) (λ d. absurd (d.0 e)) (eq_bit x v)
holds_times (x ∷ xs) (suc i) v h e = omega (arith, holds_times xs i v (omega arith) e)

-- a number that stands at two places is counted twice
pub two_times : (v : ℕ) (l : List ℕ) (i k : ℕ) → i < k → k < length l → get_or l i 0 ≡ v → get_or l k 0 ≡ v → 2 ≤ times v l
unfolding times
two_times v [] i k p q e f = absurd (omega arith)
two_times v (x ∷ xs) i zero p q e f = absurd (omega arith)
two_times v (x ∷ xs) zero (suc k) p q e f = ⊎_elim (λ d. omega (arith, holds_times xs k v (omega arith) f)) (λ d. absurd (d.0 e)) (eq_bit x v)
two_times v (x ∷ xs) (suc i) (suc k) p q e f = omega (arith, two_times v xs i k (omega arith) (omega arith) e f)

-- a number that stands nowhere is not counted
pub none_times : (v : ℕ) (l : List ℕ) → ((j : ℕ) → j < length l → get_or l j 0 ≢ v) → times v l ≡ 0
none_times v l empty = go (ℕ_discrete (times v l) 0)
  where
    go : Dec (times v l ≡ 0) → times v l ≡ 0
    go (yes e) = e
    go (no e) = let (i, p, f) = times_at v l (omega arith) in absurd (empty i p f)

-- a net stands below the list's length
pub at_below : (l : List ℕ) (x N : ℕ) → N ≢ 0 → get_or l x 0 ≡ N → x < length l
at_below l x N n e = go (dec_lt x (length l))
  where
    go : Dec (x < length l) → x < length l
    go (yes p) = p
    go (no p) = absurd (n (sym e ∙ get_or-eq_default l 0 (omega arith)))

-- a list that counts no number over 256 holds none
pub small_in : (l : List ℕ) → ((v : ℕ) → 256 < v → times v l ≡ 0) → (j : ℕ) → get_or l j 0 ≤ 256
small_in l h j = go (dec_lt 256 (get_or l j 0))
  where
    go : Dec (256 < get_or l j 0) → get_or l j 0 ≤ 256
    go (no q) = omega arith
    go (yes q) = absurd (omega (arith, h (get_or l j 0) q, holds_times l j (get_or l j 0) (at_below l j (get_or l j 0) (λ z. omega arith) refl) refl))

-- zeros have 0 at every place, and past their end
pub zeros : (t j : ℕ) → get_or {A = ℕ} (replicate t 0) j 0 ≡ 0
zeros zero j = refl
zeros (suc t) zero = refl
zeros (suc t) (suc j) = zeros t j

-- SUMS OVER 1 TO k

-- each term is at most the sum
pub sum_term : (f : ℕ → ℕ) (k v : ℕ) → 1 ≤ v → v ≤ k → f v ≤ sum f k
unfolding sum
sum_term f zero v p q = absurd (omega arith)
sum_term f (suc k) v p q = go (ℕ_discrete v (suc k)) (λ r. sum_term f k v p r)
  where
    go : Dec (v ≡ suc k) → (v ≤ k → f v ≤ sum f k) → f v ≤ sum f k + f (suc k)
    go (yes e) ih = rw e (omega arith)
    go (no e) ih = omega (arith, ih (omega arith))

-- a sum of sums
pub sum_plus : (f g : ℕ → ℕ) (k : ℕ) → sum (λ v. f v + g v) k ≡ sum f k + sum g k
unfolding sum
sum_plus f g zero = refl
sum_plus f g (suc k) = omega (arith, sum_plus f g k)

-- a smaller sum, term by term
pub sum_le : (f g : ℕ → ℕ) (k : ℕ) → ((v : ℕ) → f (suc v) ≤ g (suc v)) → sum f k ≤ sum g k
unfolding sum
sum_le f g zero h = zero-le
sum_le f g (suc k) h = omega (arith, sum_le f g k h, h k)

-- a multiple
pub sum_scale : (m : ℕ) (f : ℕ → ℕ) (k : ℕ) → sum (λ v. m * f v) k ≡ m * sum f k
unfolding sum
sum_scale m f zero = omega arith
sum_scale m f (suc k) = omega (arith, sum_scale m f k)

-- a sum of zeros
pub sum_zero : (f : ℕ → ℕ) (k : ℕ) → ((v : ℕ) → v < k → f (suc v) ≡ 0) → sum f k ≡ 0
unfolding sum
sum_zero f zero h = refl
sum_zero f (suc k) h = omega (arith, sum_zero f k (λ v p. h v (omega arith)), h k (omega arith))

-- none of 1 to k passes a test that counts 0
pub count_none : (p : ℕ → Bool) (k v : ℕ) → count p k ≡ 0 → 1 ≤ v → v ≤ k → p v ≡ false
unfolding count
count_none p k v e a b = bit_none (p v) (omega (arith, sum_term (λ u. bit (p u)) k v a b))

-- x is not met before itself
sum_over : (x k : ℕ) → k < x → sum (λ v. bit (eqb x v)) k ≡ 0
sum_over x k p = sum_zero (λ v. bit (eqb x v)) k (λ v q. eqb_diff x (suc v) (omega arith))

-- x, from 1 to k, is met once
pub sum_one : (x k : ℕ) → x ≢ 0 → x ≤ k → sum (λ v. bit (eqb x v)) k ≡ 1
unfolding sum
sum_one x zero n h = absurd (omega arith)
sum_one x (suc k) n h = ⊎_elim (λ d. omega (arith, sum_over x k (omega arith))) (λ d. omega (arith, sum_one x k n (omega arith))) (eq_bit x (suc k))

-- any x is met once at most
sum_once : (x k : ℕ) → sum (λ v. bit (eqb x v)) k ≤ 1
unfolding sum
sum_once x zero = zero-le
sum_once x (suc k) = ⊎_elim (λ d. omega (arith, sum_over x k (omega arith))) (λ d. omega (arith, sum_once x k)) (eq_bit x (suc k))

-- THE ENTRIES OF A LIST BY THEIR NUMBERS

-- the entries among 1 to k are no more than all entries
pub sum-times : (l : List ℕ) (k : ℕ) → sum (λ v. times v l) k ≤ length l
unfolding times
sum-times [] k = omega (arith, sum_zero (λ v. 0) k (λ v p. refl))
sum-times (x ∷ xs) k = omega (arith, sum_plus (λ v. bit (eqb x v)) (λ v. times v xs) k, sum_once x k, sum-times xs k)

-- where no entry is over k, each is 0 or among 1 to k
pub length-times : (l : List ℕ) (k : ℕ) → ((v : ℕ) → k < v → times v l ≡ 0) → length l ≡ times 0 l + sum (λ v. times v l) k
unfolding times
length-times [] k h = omega (arith, sum_zero (λ v. 0) k (λ v p. refl))
length-times (x ∷ xs) k h =
    let ih = length-times xs k (λ v b. omega (arith, h v b)) in
    let s = sum_plus (λ v. bit (eqb x v)) (λ v. times v xs) k in
    ⊎_elim
    (λ d. omega (arith, sum_zero (λ v. bit (eqb x v)) k (λ v p. eqb_diff x (suc v) (omega arith))))
    (λ d. omega (arith, sum_one x k d.0 (small (dec_lt k x))))
    (eq_bit x 0)
  where
    small : Dec (k < x) → x ≤ k
    small (yes p) = absurd (omega (arith, h x p, eqb_same x))
    small (no p) = omega arith

-- THE PIGEONHOLE: if each of 1 to k that passes a test stands in a list, the list is as long as they are many
pub pigeonhole : (p : ℕ → Bool) (l : List ℕ) (k : ℕ) → ((v : ℕ) → p (suc v) ≡ true → 0 < times (suc v) l) → count p k ≤ length l
unfolding count
pigeonhole p l k h = omega (arith, sum_le (λ v. bit (p v)) (λ v. times v l) k (λ v. bit_le (p (suc v)) (times (suc v) l) (h v)), sum-times l k)
