-- The lowest member of a set above a number; the net that ends last, member by member; a net apart from two others.
use Prim.Native.Nat.{ℕ, zero, suc, ◌+◌, ◌-◌, ◌%◌, ◌≤◌, ◌<◌}
use mathlib.Core.Path.{◌≡◌, refl, sym, ap, ◌∙◌}
use mathlib.Core.Bool.{Bool, true, false, ◌&&◌, ◌||◌}
use mathlib.Core.Logic.{◌⊎◌, inl, inr, ⊎_elim, ◌≢◌}
use mathlib.Core.List.{List}
use native.Mathlib.Omega.{arith}
use native.Mathlib.Decide.{ℕ_discrete, dec_lt}
use lib.Dec.{eqb, ltb}
use lib.ListN.{get_or}
use Rattle.grid.specs.Channel.{pick}
use Rattle.grid.proofs.Tests.{eq-eqb, ne_eqb, and_none, Same, same, same_by}
use Rattle.sets.specs.Member.{member, Put, LowestFrom}
use Rattle.sweep.specs.Pairs.{latest_to}
use Rattle.pairs.specs.Working.{lone_by, LoneAt, MarksLone, LeastAbove, but_for, apart_from}

-- THE LOWEST MEMBER above a, as the set has it
pub least_above : (s : List ℕ) (a k r : ℕ) → a < 512 → LowestFrom s (a + 1) k → r ≡ k % 512 → LeastAbove (member s) a r
least_above s a k r h o e = go (dec_lt k 512)
  where
    go : Dec (k < 512) → LeastAbove (member s) a r
    go (yes q) =
        let f : r ≡ k = omega arith in
        record {
          small = omega arith;
          found = λ n. (omega (arith, o.low), ap (member s) f ∙ o.found q);
          below = λ v x y. ⊎_elim (λ (z : r ≡ 0). absurd (omega (arith, o.low))) (λ (z : v < r). o.below v (omega arith) (omega arith));
        }
    go (no q) =
        let f : k ≡ 512 = omega (arith, o.high) in
        record {
          small = omega arith;
          found = λ n. absurd (n (omega arith));
          below = λ v x y z. o.below v (omega arith) (omega arith);
        }

-- the lowest but for d, where the lowest is another
pub least_other : (s : List ℕ) (d r : ℕ) → LeastAbove (member s) 0 r → r ≢ d → LeastAbove (but_for s d) 0 r
least_other s d r l n = record {
  small = l.small;
  found = λ m. (let (a, b) = l.found m in (a, rw (b, ne_eqb r d n) refl));
  below = λ v a b c. rw (l.below v a b c) refl;
}

-- and where it is d
pub least_next : (s : List ℕ) (d r : ℕ) → LeastAbove (member s) 0 d → LeastAbove (member s) d r → LeastAbove (but_for s d) 0 r
least_next s d r l m = record {
  small = m.small;
  found = λ n. (let (a, b) = m.found n in (omega arith, rw (b, ne_eqb r d (omega arith)) refl));
  below = low;
}
  where
    low : (v : ℕ) → 0 < v → v < 512 → (r ≡ 0) ⊎ (v < r) → but_for s d v ≡ false
    low v a b c = go (dec_lt v d) (ℕ_discrete v d)
      where
        go : Dec (v < d) → Dec (v ≡ d) → but_for s d v ≡ false
        go (yes x) y = rw (l.below v a b (inr x)) refl
        go (no x) (yes y) = rw (eq-eqb v d y) (and_none (member s v) false refl)
        go (no x) (no y) = rw (m.below v (omega arith) b c) refl

-- THE NET THAT ENDS LAST

module _ (e : ℕ → ℕ) (p : ℕ → Bool) where
  -- one number more
  latest_one : (k : ℕ) → latest_to e p (suc k) ≡ pick (p (suc k) && (eqb (latest_to e p k) 0 || ltb (e (latest_to e p k)) (e (suc k)))) (suc k) (latest_to e p k)
  unfolding latest_to
  latest_one k = refl

  -- numbers that fail the test change nothing
  pub skips : (a b : ℕ) → ((j : ℕ) → a < j → j ≤ a + b → p j ≡ false) → latest_to e p (a + b) ≡ latest_to e p a
  skips a zero h = let z : a + 0 ≡ a = omega arith in ap (latest_to e p) z
  skips a (suc b) h =
      let z : a + suc b ≡ suc (a + b) = omega arith in
      ap (latest_to e p) z ∙ latest_one (a + b)
      ∙ ap (λ (q : Bool). pick (q && (eqb (latest_to e p (a + b)) 0 || ltb (e (latest_to e p (a + b))) (e (suc (a + b))))) (suc (a + b)) (latest_to e p (a + b))) (h (suc (a + b)) (omega arith) (omega arith))
      ∙ skips a b (λ j x y. h j x (omega arith))

module _ (e : ℕ → ℕ) (s : List ℕ) where
  -- none is looked at
  pub latest_none : 0 ≡ latest_to e (member s) 0
  unfolding latest_to
  latest_none = refl

  -- after member k and what came before it, the next one, m
  pub latest_more : (k m best r : ℕ) → LowestFrom s (k + 1) m → m < 512 → best ≡ latest_to e (member s) k → r ≡ pick (eqb best 0 || ltb (e best) (e m)) m best
      → r ≡ latest_to e (member s) m
  latest_more k zero best r l h b f = absurd (omega (arith, l.low))
  latest_more k (suc v) best r l h b f =
      let z : k + (v - k) ≡ v = omega (arith, l.low) in
      let q : latest_to e (member s) v ≡ best = ap (latest_to e (member s)) (sym z) ∙ skips e (member s) k (v - k) (λ j x y. l.below j (omega arith) (omega arith)) ∙ sym b in
      f ∙ ap (λ (x : ℕ). pick (eqb x 0 || ltb (e x) (e (suc v))) (suc v) x) (sym q)
      ∙ ap (λ (x : Bool). pick (x && (eqb (latest_to e (member s) v) 0 || ltb (e (latest_to e (member s) v)) (e (suc v)))) (suc v) (latest_to e (member s) v)) (sym (l.found h))
      ∙ sym (latest_one e (member s) v)

  -- there is none after k
  pub latest_end : (k best : ℕ) → k < 512 → LowestFrom s (k + 1) 512 → best ≡ latest_to e (member s) k → best ≡ latest_to e (member s) 511
  latest_end k best h l b =
      let z : k + (511 - k) ≡ 511 = omega arith in
      b ∙ sym (skips e (member s) k (511 - k) (λ j x y. l.below j (omega arith) (omega arith))) ∙ ap (latest_to e (member s)) z

-- MARKS

-- no net is no double net
pub none_told : (number mates s : List ℕ) (v : ℕ) → v ≡ 0 → member s 0 ≡ false → MarksLone number mates v s s
unfolding lone_by
none_told number mates s v e z j (inl d) = rw (d ∙ e) z
none_told number mates s v e z j (inr h) = h

-- a net put by its strands and its mate
pub put_told : (number mates s s' : List ℕ) (v : ℕ) (b : Bool) → v ≢ 0 → v ≤ 511 → b ≡ (eqb (get_or number v 0) 2 && eqb (get_or mates v 0) 0) → Put s (v % 512) b s'
    → MarksLone number mates v s s'
put_told number mates s s' v b n h e x = tells
  where
    same : v % 512 ≡ v
    same = omega arith

    own : LoneAt number mates s' v
    own = unfold lone_by in ap (member s') (sym same) ∙ x.same ∙ e ∙ sym (rw (ne_eqb v 0 n) refl)

    tells : MarksLone number mates v s s'
    tells j (inl d) = rw d own
    tells j (inr o) = go (ℕ_discrete j v)
      where
        go : Dec (j ≡ v) → LoneAt number mates s' j
        go (yes d) = rw d own
        go (no d) = x.other j (λ i. d (i ∙ same)) ∙ o

-- A NET APART FROM TWO OTHERS
-- it is net u, or u is one of them
apart_or : (u v w : ℕ) → (apart_from v w u ≡ u) ⊎ ((u ≡ v) ⊎ (u ≡ w))
unfolding apart_from
apart_or u v w = go (eqb u v) (eqb u w) (same_by u v) (same_by u w)
  where
    go : (p q : Bool) → Same u v p → Same u w q → (pick (p || q) 0 u ≡ u) ⊎ ((u ≡ v) ⊎ (u ≡ w))
    go true q (same e) f = inr (inl e)
    go false true e (same f) = inr (inr f)
    go false false e f = inl refl

-- it is at most u
pub apart_most : (u v w : ℕ) → apart_from v w u ≤ u
unfolding apart_from
apart_most u v w = go (eqb u v || eqb u w)
  where
    go : (b : Bool) → pick b 0 u ≤ u
    go true = omega arith
    go false = omega arith

-- marked beside them it does for u
pub marked_apart : (u v w : ℕ) {P : ℕ → Type 0} {Q : ℕ → Type 0} → ((j : ℕ) → (j ≡ apart_from v w u) ⊎ ((j ≡ v) ⊎ ((j ≡ w) ⊎ P j)) → Q j)
    → (j : ℕ) → (j ≡ u) ⊎ ((j ≡ v) ⊎ ((j ≡ w) ⊎ P j)) → Q j
marked_apart u v w {P} {Q} f j (inl e) = go (apart_or u v w)
  where
    go : (apart_from v w u ≡ u) ⊎ ((u ≡ v) ⊎ (u ≡ w)) → Q j
    go (inl a) = f j (inl (e ∙ sym a))
    go (inr (inl a)) = f j (inr (inl (e ∙ a)))
    go (inr (inr a)) = f j (inr (inr (inl (e ∙ a))))
marked_apart u v w f j (inr x) = f j (inr x)
