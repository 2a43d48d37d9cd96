-- Sums of two figures at most, and tests over the numbers 1 to k. Assumes nothing.
use Prim.Native.Nat.{ℕ, zero, suc, ◌+◌, ◌-◌, ◌≤◌, ◌<◌}
use mathlib.Core.Path.{◌≡◌, refl, sym, ap, ap₂, ◌∙◌}
use mathlib.Core.List.{List}
use lib.ListN.{length, get_or, take, drop}
use Rattle.std.proofs.lemmas.Grind.{common_steps}
use mathlib.Core.Logic.{◌≢◌}
use mathlib.Core.Bool.{Bool, true, false, not, ◌||◌}
use native.Mathlib.Omega.{arith}
use native.Mathlib.Decide.{dec_lt, ℕ_discrete}
use native.Mathlib.Numerals.{add-one}
use lib.Dec.{eqb}
use Rattle.grid.specs.Channel.{pick, bit, sum, count}
use Rattle.grid.specs.Working.{some_to, of_both}
use Rattle.grid.proofs.Tests.{eq-eqb, ne_eqb, Same, same, diff, same_by, bit_most}
use Rattle.grid.proofs.Counting.{sum_zero}

-- SUMS

-- sums of equal terms
pub sum_same : (f g : ℕ → ℕ) (k : ℕ) → ((v : ℕ) → 1 ≤ v → v ≤ k → f v ≡ g v) → sum f k ≡ sum g k
unfolding sum
sum_same f g zero h = refl
sum_same f g (suc k) h = ap₂ ◌+◌ (sum_same f g k (λ v a b. h v a (omega arith))) (h (suc k) (omega arith) (omega arith))

-- a figure with that of x left out
abbrev without : (ℕ → ℕ) → ℕ → ℕ → ℕ
without f x v = pick (eqb x v) 0 (f v)

-- the term of x taken out of a sum
sum_without : (f : ℕ → ℕ) (x k : ℕ) → f 0 ≡ 0 → x ≤ k → sum f k ≡ sum (without f x) k + f x
unfolding sum
sum_without f x zero z h = let e : f x ≡ f 0 = ap f (omega arith) in omega arith
sum_without f x (suc k) z h = go (eqb x (suc k)) (same_by x (suc k)) (λ l. sum_without f x k z l)
  where
    go : (q : Bool) → Same x (suc k) q → (x ≤ k → sum f k ≡ sum (without f x) k + f x)
        → sum f k + f (suc k) ≡ sum (without f x) k + pick q 0 (f (suc k)) + f x
    go true (same e) ih =
        let s = sum_same f (without f x) k (λ v a b. sym (ap (λ (w : Bool). pick w 0 (f v)) (ne_eqb x v (λ y. let u : ⊥ = omega arith in u)))) in
        let t = ap f e in
        omega arith
    go false (diff n) ih = omega (arith, ih (omega arith))

-- a figure of two nets at most, summed over all
pub sum_both : (f : ℕ → ℕ) (p q k : ℕ) → f 0 ≡ 0 → p ≤ k → q ≤ k → ((v : ℕ) → 1 ≤ v → v ≤ k → v ≢ p → v ≢ q → f v ≡ 0) → sum f k ≡ of_both p q (f p) (f q)
sum_both f p q k z hp hq h =
    let a = sum_without f p k z hp in
    let b = sum_without (without f p) q k (none 0 z) hq in
    let c = sum_zero (without (without f p) q) k (λ v l. rest (suc v) (omega arith) l) in
    omega arith
  where
    none : (v : ℕ) → f v ≡ 0 → without f p v ≡ 0
    none v e = go (eqb p v)
      where
        go : (w : Bool) → pick w 0 (f v) ≡ 0
        go true = refl
        go false = e

    rest : (v : ℕ) → 1 ≤ v → v ≤ k → without (without f p) q v ≡ 0
    rest v l u = go (eqb p v) (same_by p v) (eqb q v) (same_by q v)
      where
        go : (a : Bool) → Same p v a → (b : Bool) → Same q v b → pick b 0 (pick a 0 (f v)) ≡ 0
        go true s true t = refl
        go true s false t = refl
        go false s true t = refl
        go false (diff m) false (diff n) = h v l u (λ e. m (sym e)) (λ e. n (sym e))

-- TESTS OVER 1 TO k

-- no number passes before the first
pub some_none : (p : ℕ → Bool) → some_to p 0 ≡ false
unfolding count sum
some_none p = refl

-- one number more
pub some_more : (p : ℕ → Bool) (k : ℕ) → some_to p (k + 1) ≡ (some_to p k || p (k + 1))
unfolding count sum
some_more p k = rw add-one (go (p (suc k)) (eqb (count p k) 0) (same_by (count p k) 0))
  where
    go : (b : Bool) (z : Bool) → Same (sum (λ v. bit (p v)) k) 0 z → not (eqb (sum (λ v. bit (p v)) k + bit b) 0) ≡ (not z || b)
    go true true s = ap not (ne_eqb (sum (λ v. bit (p v)) k + 1) 0 (λ y. let u : ⊥ = omega arith in u))
    go true false s = ap not (ne_eqb (sum (λ v. bit (p v)) k + 1) 0 (λ y. let u : ⊥ = omega arith in u))
    go false true (same e) = ap not (eq-eqb (sum (λ v. bit (p v)) k + 0) 0 (omega arith))
    go false false (diff n) = ap not (ne_eqb (sum (λ v. bit (p v)) k + 0) 0 (λ y. let u : ⊥ = omega arith in u))

-- a test that passes the same numbers
pub some_same : (p q : ℕ → Bool) (k : ℕ) → ((v : ℕ) → 1 ≤ v → v ≤ k → p v ≡ q v) → some_to p k ≡ some_to q k
unfolding count
some_same p q k h = ap (λ (n : ℕ). not (eqb n 0)) (sum_same (λ v. bit (p v)) (λ v. bit (q v)) k (λ v a b. ap bit (h v a b)))

-- no more pass a test than there are
pub count_le : (p : ℕ → Bool) (k : ℕ) → count p k ≤ k
unfolding count sum
count_le p zero = omega arith
count_le p (suc k) = omega (arith, count_le p k, bit_most (p (suc k)))

-- and no more than m, if none over m does
pub count_at_most : (p : ℕ → Bool) (m k : ℕ) → ((v : ℕ) → m < v → p v ≡ false) → count p k ≤ m
unfolding count sum
count_at_most p m zero h = omega arith
count_at_most p m (suc k) h = go (dec_lt k m) (count_at_most p m k h)
  where
    go : Dec (k < m) → count p k ≤ m → count p k + bit (p (suc k)) ≤ m
    go (yes l) ih = omega (arith, count_le p k, bit_most (p (suc k)))
    go (no l) ih = omega (arith, ap bit (h (suc k) (omega arith)))

-- and no fewer than m, if all of 1 to m do
pub count_at_least : (p : ℕ → Bool) (m k : ℕ) → m ≤ k → ((v : ℕ) → 1 ≤ v → v ≤ m → p v ≡ true) → m ≤ count p k
unfolding count sum
count_at_least p m zero l h = omega arith
count_at_least p m (suc k) l h = go (ℕ_discrete m (suc k)) (λ n q f. count_at_least p n k q f)
  where
    go : Dec (m ≡ suc k) → ((n : ℕ) → n ≤ k → ((v : ℕ) → 1 ≤ v → v ≤ n → p v ≡ true) → n ≤ count p k) → m ≤ count p k + bit (p (suc k))
    go (yes e) ih = omega (arith, ih k (omega arith) (λ v a b. h v a (omega arith)), ap bit (h (suc k) (omega arith) (omega arith)))
    go (no n) ih = omega (arith, ih m (omega arith) h)

-- one place more of those after the first of a list
pub some_next : (q : ℕ → Bool) (l : List ℕ) (i : ℕ) (b : Bool) → i < length (take (length l - 1) (drop 1 l)) → b ≡ some_to (λ v. q (get_or l v 0)) i
    → (b || q (get_or (take (length l - 1) (drop 1 l)) i 0)) ≡ some_to (λ v. q (get_or l v 0)) (i + 1)
some_next q l i b h e =
    let at : get_or (take (length l - 1) (drop 1 l)) i 0 ≡ get_or l (i + 1) 0 = grind (arith, common_steps) in
    ap₂ (λ (a : Bool) (x : ℕ). a || q x) e at ∙ sym (some_more (λ v. q (get_or l v 0)) i)
