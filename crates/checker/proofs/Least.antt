-- The least number that passes a test, and searches for it from below.
use Prim.Native.Nat.{ℕ, zero, suc, ◌+◌, ◌-◌, ◌≤◌, ◌<◌}
use mathlib.Core.Path.{◌≡◌, refl, sym, ◌∙◌, ap}
use mathlib.Core.Logic.{◌≢◌, ◌↔◌, by_cases}
use mathlib.Core.Bool.{Bool, true, false, cond}
use mathlib.Core.List.{List}
use lib.ListN.{length, get_or}
use lib.Dec.{ltb}
use native.Mathlib.Omega.{arith}
use native.Mathlib.Nat.{zero-add}
use native.Mathlib.Decide.{ℕ_discrete, dec_le, dec_lt}
use Rattle.std.specs.Prelude.{Option, Some, None, position, nat_lt}
use Rattle.std.specs.List.{position_or_len}
use Rattle.std.proofs.lemmas.Option.{none-some, same_Some}
use Rattle.std.proofs.lemmas.List.Sums.{fails_before_first}
use Rattle.std.proofs.lemmas.List.Quantifiers.{position-Some}
use Rattle.grid.specs.Channel.{pick}
use Rattle.grid.proofs.Tests.{lt-ltb, le-ltb, ltb-true, ltb-false, not_both}
use Rattle.checker.specs.Check.{least, some}
use Rattle.checker.specs.Working.{first_below}

-- n if none passes
pub least_none : (n : ℕ) (P : ℕ → Bool) → ((k : ℕ) → k < n → P k ≡ false) → least n P ≡ n
unfolding least
least_none zero P h = refl
least_none (suc n) P h =
    let e : least n P ≡ n = least_none n P (λ k l. h k (omega arith)) in
    rw (e, le-ltb n n (omega arith), h n (omega arith))

-- p if p passes and none below it
least_at : (n : ℕ) (P : ℕ → Bool) (p : ℕ) → p < n → P p ≡ true → ((k : ℕ) → k < p → P k ≡ false) → least n P ≡ p
unfolding least
least_at zero P p l x h = absurd (omega arith)
least_at (suc n) P p l x h = go (λ k. least_at n P p k x h) (ℕ_discrete p n)
  where
    go : (p < n → least n P ≡ p) → Dec (p ≡ n) → pick (ltb (least n P) n) (least n P) (pick (P n) n (suc n)) ≡ p
    go r (yes e) = rw (least_none n P (λ k i. h k (omega arith)), le-ltb n n (omega arith), ← e, x)
    go r (no e) = let i : p < n = omega arith in rw (r i, lt-ltb p n i)

-- where it is n none passes
pub least_all : (n : ℕ) (P : ℕ → Bool) → n ≤ least n P → (k : ℕ) → k < n → P k ≡ false
unfolding least
least_all zero P l k i = absurd (omega arith)
least_all (suc n) P l k i = go (λ z. least_all n P z k) (ltb (least n P) n) refl (P n) refl l
  where
    go :
        (n ≤ least n P → k < n → P k ≡ false)
        → (b : Bool) → ltb (least n P) n ≡ b → (c : Bool) → P n ≡ c → suc n ≤ pick b (least n P) (pick c n (suc n)) → P k ≡ false
    go r true e c o z = absurd (omega (arith, ltb-true (least n P) n e))
    go r false e true o z = absurd (omega arith)
    go r false e false o z = by_cases (ℕ_discrete k n) (λ y. rw y o) (λ y. r (ltb-false (least n P) n e) (omega arith))

-- where it is below n it passes
least_passes : (n : ℕ) (P : ℕ → Bool) → least n P < n → P (least n P) ≡ true
unfolding least
least_passes zero P l = absurd (omega arith)
least_passes (suc n) P l = go (λ z. least_passes n P z) (ltb (least n P) n) refl (P n) refl l
  where
    go :
        (least n P < n → P (least n P) ≡ true)
        → (b : Bool) → ltb (least n P) n ≡ b → (c : Bool) → P n ≡ c → pick b (least n P) (pick c n (suc n)) < suc n
        → P (pick b (least n P) (pick c n (suc n))) ≡ true
    go r true e c o z = r (ltb-true (least n P) n e)
    go r false e true o z = o
    go r false e false o z = absurd (omega arith)

-- and none below it passes
below_least : (n : ℕ) (P : ℕ → Bool) (k : ℕ) → k < n → k < least n P → P k ≡ false
unfolding least
below_least zero P k i l = absurd (omega arith)
below_least (suc n) P k i l = go (λ z y. below_least n P k z y) (ltb (least n P) n) refl (P n) refl l
  where
    go :
        (k < n → k < least n P → P k ≡ false)
        → (b : Bool) → ltb (least n P) n ≡ b → (c : Bool) → P n ≡ c → k < pick b (least n P) (pick c n (suc n)) → P k ≡ false
    go r true e c o z = let y = ltb-true (least n P) n e in r (omega arith) z
    go r false e true o z = let y = ltb-false (least n P) n e in r z (omega arith)
    go r false e false o z =
        let y = ltb-false (least n P) n e in
        by_cases (ℕ_discrete k n) (λ x. rw x o) (λ x. r (omega arith) (omega arith))

-- if some number below n passes, the least passes, is below n, and is at most each that passes
pub least_is :
    (n : ℕ) (P : ℕ → Bool) → some n P ≡ true
    → (P (least n P) ≡ true) × (least n P < n) × ((q : ℕ) → q < n → P q ≡ true → least n P ≤ q)
least_is n P s =
    let l : least n P < n = ltb-true (least n P) n s in
    (least_passes n P l, l, λ q k e. by_cases (dec_le (least n P) q) (λ z. z) (λ z. absurd (not_both e (below_least n P q k (omega arith)))))

-- if each fails, none does
pub none_of : (n : ℕ) (P : ℕ → Bool) → ((k : ℕ) → k < n → P k ≡ false) → some n P ≡ false
none_of n P h = le-ltb (least n P) n (omega (arith, least_none n P h))

-- and back
pub of_none : (n : ℕ) (P : ℕ → Bool) → some n P ≡ false → (k : ℕ) → k < n → P k ≡ false
of_none n P s = least_all n P (ltb-false (least n P) n s)

-- if none does, none does
some_none : (n : ℕ) (P : ℕ → Bool) → some n P ≡ false → (q : ℕ) → q < n → P q ≢ true
some_none n P s q k e = not_both e (of_none n P s q k)

-- if one does, some does
pub some_of : (n : ℕ) (P : ℕ → Bool) (q : ℕ) → q < n → P q ≡ true → some n P ≡ true
some_of n P q k e = go (some n P) refl
  where
    go : (b : Bool) → some n P ≡ b → b ≡ true
    go true i = refl
    go false i = absurd (some_none n P i q k e)

-- both in words W for the test
module _ (n : ℕ) (P : ℕ → Bool) (W : ℕ → Type 0) (words : (q : ℕ) → q < n → (P q ≡ true) ↔ W q) where
  pub least-words : some n P ≡ true → W (least n P) × (least n P < n) × ((q : ℕ) → q < n → W q → least n P ≤ q)
  least-words s =
      let (e, l, h) = least_is n P s in
      ((words (least n P) l).0 e, l, λ q k a. h q k ((words q k).1 a))

  pub none_words : some n P ≡ false → (q : ℕ) → q < n → W q → ⊥
  none_words s q k a = some_none n P s q k ((words q k).1 a)

-- equal tests have one least number
pub least_same : (n : ℕ) (P Q : ℕ → Bool) → ((k : ℕ) → k < n → P k ≡ Q k) → least n P ≡ least n Q
unfolding least
least_same zero P Q h = refl
least_same (suc n) P Q h = rw (least_same n P Q (λ k l. h k (omega arith)), h n (omega arith))

-- nor do the searches for it differ
pub first_same : (n : ℕ) (P Q : ℕ → Bool) → ((k : ℕ) → k < n → P k ≡ Q k) → first_below n P ≡ first_below n Q
unfolding first_below
first_same n P Q h = ap (λ (k : ℕ). pick (ltb k n) (Some k) None) (least_same n P Q h)

-- no number below i passes
pub record NoneBelow (P : ℕ → Bool) (i : ℕ) : Type 0 where
  pub none : (k : ℕ) → k < i → P k ≡ false

-- none is below 0
none_yet : {P : ℕ → Bool} → NoneBelow P 0
none_yet = record { none = λ k l. absurd (omega arith) }

-- nor i
pub none_more : (P : ℕ → Bool) (i : ℕ) → NoneBelow P i → P i ≡ false → NoneBelow P (i + 1)
none_more P i n e = record { none = λ k l. by_cases (ℕ_discrete k i) (λ x. rw x e) (λ x. n.none k (omega arith)) }

-- a search that finds i
pub found_at : (n : ℕ) (P : ℕ → Bool) (i : ℕ) → NoneBelow P i → i < n → P i ≡ true → i ≡ least n P
found_at n P i b l e = sym (least_at n P i l e b.none)

module _ (n : ℕ) (P : ℕ → Bool) where
  -- a search that finds i
  pub first_found : (i : ℕ) → NoneBelow P i → i < n → P i ≡ true → Some i ≡ first_below n P
  unfolding first_below
  first_found i b l e = let o = found_at n P i b l e in rw (lt-ltb (least n P) n (omega arith), ← o)

  -- one that finds none
  pub first_none : (i : ℕ) → NoneBelow P i → n ≤ i → None ≡ first_below n P
  unfolding first_below
  first_none i b l = rw (none_of n P (λ k m. b.none k (omega arith)))

  -- what a search says: of the number that it finds
  pub first_is : (i : ℕ) → Some i ≡ first_below n P → (some n P ≡ true) × (i ≡ least n P)
  unfolding first_below
  first_is i e = go (some n P) refl e
    where
      go : (q : Bool) → some n P ≡ q → Some i ≡ pick q (Some (least n P)) None → (some n P ≡ true) × (i ≡ least n P)
      go true o e = (o, same_Some _ _ e)
      go false o e = absurd (none-some _ (sym e))

  -- and where it finds none
  pub first_no : None ≡ first_below n P → some n P ≡ false
  unfolding first_below
  first_no e = go (some n P) refl e
    where
      go : (q : Bool) → some n P ≡ q → None ≡ pick q (Some (least n P)) None → some n P ≡ false
      go true o e = absurd (none-some _ e)
      go false o e = o

  -- a search in a list that begins at number a
  module _ (a : ℕ) (b : NoneBelow P a) {X : Type 0} (p : X → Bool) (xs : List X) (d : X) (tests : (k : ℕ) → k < length xs → p (get_or xs k d) ≡ P (a + k)) where
    below_start : (i : ℕ) → i ≤ length xs → ((k : ℕ) → k < i → p (get_or xs k d) ≡ false) → NoneBelow P (a + i)
    below_start i l h = record {
      none = λ k m.
          by_cases (dec_lt k a) (λ z. b.none k z)
          (λ z.
          let e : a + (k - a) ≡ k = omega arith in
          rw e at (sym (tests (k - a) (omega arith)) ∙ h (k - a) (omega arith)));
    }

    pub position_found : (i : ℕ) → a + length xs ≤ n → Some i ≡ position p xs → Some (a + i) ≡ first_below n P
    position_found i l e =
        let (k, y, h) = position-Some p xs i d (sym e) in
        first_found (a + i) (below_start i (omega arith) h) (omega arith) (sym (tests i k) ∙ y)

    pub position_none : n ≤ a + length xs → None ≡ position p xs → None ≡ first_below n P
    position_none l e = first_none (a + length xs) (below_start (length xs) (omega arith) (λ k m. fails_before_first p xs k d (omega (arith, all)))) l
      where
        all : length xs ≤ position_or_len p xs
        all = go (nat_lt (position_or_len p xs) (length xs)) refl e
          where
            go : (q : Bool) → nat_lt (position_or_len p xs) (length xs) ≡ q → None ≡ cond q (Some (position_or_len p xs)) None → length xs ≤ position_or_len p xs
            go true o e = absurd (none-some _ e)
            go false o e = ltb-false (position_or_len p xs) (length xs) o

-- a search in a whole list
pub position_first : {X : Type 0} (p : X → Bool) (xs : List X) (d : X) {P : ℕ → Bool} → ((k : ℕ) → k < length xs → p (get_or xs k d) ≡ P k) → position p xs ≡ first_below (length xs) P
position_first p xs d {P} tests = go (position p xs) refl
  where
    go : (o : Option ℕ) → o ≡ position p xs → o ≡ first_below (length xs) P
    go (Some i) e = rw (zero-add i) at (position_found (length xs) P 0 none_yet p xs d (λ k l. rw (zero-add k) (tests k l)) i (omega arith) e)
    go None e = position_none (length xs) P 0 none_yet p xs d (λ k l. rw (zero-add k) (tests k l)) (omega arith) e
