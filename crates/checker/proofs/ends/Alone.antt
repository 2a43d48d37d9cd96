-- The entries at a point that are alone, and the nets with one edge there.
use Prim.Native.Nat.{ℕ, ◌+◌, ◌≤◌, ◌<◌, min}
use mathlib.Core.Path.{◌≡◌, refl, sym, ◌∙◌, ap, subst}
use mathlib.Core.Logic.{◌≢◌, by_cases}
use mathlib.Core.Bool.{Bool, true, false, not, ◌&&◌}
use lib.Dec.{T, eqb}
use native.Mathlib.Omega.{arith}
use native.Mathlib.Decide.{dec_le}
use Rattle.grid.specs.Channel.{pick, bit}
use Rattle.grid.specs.Grid.{edges_among}
use Rattle.grid.proofs.Tests.{Same, same, same_by, eq-eqb, eqb-false, eqb_same, eqb_diff, not-true, and_true, and_none}
use Rattle.checker.specs.Working.{alone, alone_net, lowest_alone}

-- equal entries count alike
alike : (x y N : ℕ) → x ≡ y → bit (eqb x N) ≡ bit (eqb y N)
alike x y N e = ap (λ (z : ℕ). bit (eqb z N)) e

module _ (e a b c : ℕ) where
  -- an edge that is not alone has another of its net beside it
  beside : alone e a b c ≡ false → (N : ℕ) → N ≢ 0 → bit (eqb e N) ≤ bit (eqb a N) + (bit (eqb b N) + bit (eqb c N))
  unfolding alone
  beside f N n = go (eqb e 0) (same_by e 0) (eqb e a) (same_by e a) (eqb e b) (same_by e b) (eqb e c) (same_by e c) f
    where
      go :
          (i : Bool) → Same e 0 i → (j : Bool) → Same e a j → (k : Bool) → Same e b k → (l : Bool) → Same e c l
          → (((not i && not j) && not k) && not l) ≡ false → bit (eqb e N) ≤ bit (eqb a N) + (bit (eqb b N) + bit (eqb c N))
      go true (same z) j s k u l v f = omega (arith, eqb_diff e N (λ i. n (sym i ∙ z)))
      go false z true (same s) k u l v f = omega (arith, alike e a N s)
      go false z false s true (same u) l v f = omega (arith, alike e b N u)
      go false z false s false u true (same v) f = omega (arith, alike e c N v)
      go false z false s false u false v f = absurd (subst T f tt)

  -- an entry like the first of the others is not alone
  like_first : e ≡ a → alone e a b c ≡ false
  unfolding alone
  like_first i = rw (eq-eqb e a i, and_none (not (eqb e 0)) false refl)

  -- nor one like the last
  like_last : e ≡ c → alone e a b c ≡ false
  unfolding alone
  like_last i = rw (eq-eqb e c i) (and_none ((not (eqb e 0) && not (eqb e a)) && not (eqb e b)) false refl)

  -- one that is alone has none
  by_itself : alone e a b c ≡ true → (e ≢ 0) × (edges_among e a b c e ≡ 1)
  unfolding alone
  by_itself f =
      let (x, v) = and_true ((not (eqb e 0) && not (eqb e a)) && not (eqb e b)) (not (eqb e c)) f in
      let (y, u) = and_true (not (eqb e 0) && not (eqb e a)) (not (eqb e b)) x in
      let (z, s) = and_true (not (eqb e 0)) (not (eqb e a)) y in
      let differs : (o : ℕ) → not (eqb e o) ≡ true → e ≢ o = λ o h. eqb-false e o (not-true (eqb e o) h) in (
        differs 0 z,
        omega (
          arith,
          eqb_same e,
          eqb_diff a e (λ i. differs a s (sym i)),
          eqb_diff b e (λ i. differs b u (sym i)),
          eqb_diff c e (λ i. differs c v (sym i)),
        ),
      )

  -- an edge of a net below the one that is alone has another beside it
  below_alone : (N : ℕ) → N ≢ 0 → N < alone_net e a b c → bit (eqb e N) ≤ bit (eqb a N) + (bit (eqb b N) + bit (eqb c N))
  unfolding alone_net
  below_alone N n l = go (alone e a b c) refl l
    where
      go : (q : Bool) → alone e a b c ≡ q → N < pick q e 257 → bit (eqb e N) ≤ bit (eqb a N) + (bit (eqb b N) + bit (eqb c N))
      go true i l = omega (arith, eqb_diff e N (omega arith))
      go false i l = beside i N n

  -- the net that is alone has one edge
  alone_own : alone_net e a b c < 257 → (alone_net e a b c ≢ 0) × (edges_among e a b c (alone_net e a b c) ≡ 1)
  unfolding alone_net
  alone_own l = go (alone e a b c) refl l
    where
      go : (q : Bool) → alone e a b c ≡ q → pick q e 257 < 257 → (pick q e 257 ≢ 0) × (edges_among e a b c (pick q e 257) ≡ 1)
      go true i l = by_itself i
      go false i l = absurd (omega arith)

module _ (b a l r : ℕ) where
  -- where nets only cross each has no edge or at least two
  pub none_crossing : b ≡ a → l ≡ r → (N : ℕ) → edges_among b a l r N ≢ 1
  none_crossing e f N i = omega (arith, i, alike b a N e, alike l r N f)

  -- so none is alone
  pub alone_crossing : b ≡ a → l ≡ r → 257 ≡ lowest_alone b a l r
  unfolding lowest_alone alone_net
  alone_crossing e f = rw (like_first b a l r e, like_first a b l r (sym e), like_last l b a r f, like_last r b a l (sym f)) (omega arith)

  -- nor has any below the lowest that is alone one edge
  pub below_lowest : (N : ℕ) → N ≢ 0 → N < lowest_alone b a l r → edges_among b a l r N ≢ 1
  unfolding lowest_alone
  below_lowest N n k i =
      omega (
        arith,
        i,
        below_alone b a l r N n (omega arith),
        below_alone a b l r N n (omega arith),
        below_alone l b a r N n (omega arith),
        below_alone r b a l N n (omega arith),
      )

  -- and that one has one edge
  pub lowest_own : lowest_alone b a l r < 257 → (lowest_alone b a l r ≢ 0) × (edges_among b a l r (lowest_alone b a l r) ≡ 1)
  unfolding lowest_alone
  lowest_own k =
      by_cases (dec_le (alone_net b a l r) m) (λ d. is (alone_net b a l r) (omega arith) (λ o. let (x, y) = alone_own b a l r o in (x, omega (arith, y)))) (λ d₁.
      by_cases (dec_le (alone_net a b l r) m) (λ d. is (alone_net a b l r) (omega arith) (λ o. let (x, y) = alone_own a b l r o in (x, omega (arith, y)))) (λ d₂.
      by_cases (dec_le (alone_net l b a r) m) (λ d. is (alone_net l b a r) (omega arith) (λ o. let (x, y) = alone_own l b a r o in (x, omega (arith, y)))) (λ d₃.
      is (alone_net r b a l) (omega arith) (λ o. let (x, y) = alone_own r b a l o in (x, omega (arith, y))))))
    where
      m : ℕ
      m = min (min (alone_net b a l r) (alone_net a b l r)) (min (alone_net l b a r) (alone_net r b a l))

      is : (s : ℕ) → s ≡ m → (s < 257 → (s ≢ 0) × (edges_among b a l r s ≡ 1)) → (m ≢ 0) × (edges_among b a l r m ≡ 1)
      is s e f = rw e at (f (omega arith))
