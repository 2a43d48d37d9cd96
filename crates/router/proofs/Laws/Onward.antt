-- From one net of a set to the next: what holds of the nets passed so far, and of those that are no members, holds up to the next one.
use Prim.Native.Nat.{ℕ, zero, suc, ◌+◌, ◌-◌, ◌≤◌, ◌<◌}
use mathlib.Core.Path.{◌≡◌, refl, sym, ap, subst}
use mathlib.Core.Bool.{Bool, true, false}
use mathlib.Core.List.{List}
use mathlib.Core.Logic.{⊎_elim}
use native.Mathlib.Omega.{arith}
use Rattle.grid.specs.Channel.{bit, sum, count}
use Rattle.grid.proofs.Tests.{below_or}
use Rattle.sets.specs.Member.{member, LowestFrom}
use Rattle.router.specs.Working.{Next, NetsOnly}

-- the nets below the next one are passed, and all where there is none
abbrev pub reached : ℕ → ℕ
reached zero = 256
reached (suc k) = k

-- the nets below v are passed where v is the next
pub reached_below : (v : ℕ) → (v ≡ 0 → ⊥) → reached v + 1 ≡ v
reached_below zero h = absurd (h refl)
reached_below (suc k) h = omega arith

-- what stands at the next net r of the set s after the nets 1 to k, where U says what holds of the nets passed
pub record Onward (s : List ℕ) (U : ℕ → Type 0) (k r : ℕ) : Type 0 where
  pub small : r ≤ 256
  pub upto : U (reached r)
  pub onward : k ≤ reached r
  pub found : (r ≡ 0 → ⊥) → member s r ≡ true

module _ (s : List ℕ) (nets : NetsOnly s) (U : ℕ → Type 0) (skip : (j : ℕ) → member s (suc j) ≡ false → U j → U (suc j)) where
  -- numbers that are no members are passed
  skips : (m k : ℕ) → U k → ((x : ℕ) → k < x → x ≤ m + k → member s x ≡ false) → U (m + k)
  skips zero k u e = subst U (let z : k ≡ 0 + k = omega arith in z) u
  skips (suc m) k u e =
      let z : suc (m + k) ≡ suc m + k = omega arith in
      subst U z (skip (m + k) (e (suc (m + k)) (omega arith) (omega arith)) (skips m k u (λ x p q. e x p (omega arith))))

  -- the next net from b up
  onward_at : (k b r : ℕ) → U k → b ≤ k + 1 → ((p : ℕ) → b ≤ p → 0 < p → k < p) → k ≤ 256 → Next s b r → Onward s U k r
  onward_at k b r u d past hk nx = ⊎_elim some none (below_or nx.place 512)
    where
      p : ℕ
      p = nx.place

      o : LowestFrom s b p
      o = nx.least

      -- up to a number below p
      up_to : (q : ℕ) → k ≤ q → q < p → U q
      up_to q h l =
          let z : q - k + k ≡ q = omega arith in
          subst U z (skips (q - k) k u (λ x y i. o.below x (omega arith) (omega arith)))

      found_at : (q : ℕ) → p ≡ q → p < 512 → Onward s U k q
      found_at zero e h = absurd (omega (arith, (nets p (o.found h)).0))
      found_at (suc q) e h =
          let far : k < p = past p o.low (nets p (o.found h)).0 in
          record {
            small = omega (arith, (nets p (o.found h)).1);
            upto = up_to q (omega arith) (omega arith);
            onward = omega arith;
            found = λ z. subst (λ (y : ℕ). member s y ≡ true) e (o.found h);
          }

      some : p < 512 → Onward s U k r
      some h =
          let e : p ≡ r = omega (arith, nx.is) in
          found_at r e h

      none : 512 ≤ p → Onward s U k r
      none h =
          let e : r ≡ 0 = omega (arith, nx.is, o.high) in
          subst (λ (z : ℕ). Onward s U k z) (sym e)
          (record { small = omega arith; upto = up_to 256 hk (omega arith); onward = hk; found = λ z. absurd (z refl) })

  -- the first net
  pub onward_first : (r : ℕ) → U 0 → Next s 0 r → Onward s U 0 r
  onward_first r u nx = onward_at 0 0 r u (omega arith) (λ p a b. b) (omega arith) nx

  -- the net after v
  pub onward_next : (v r : ℕ) → v ≤ 256 → U v → Next s (v + 1) r → Onward s U v r
  onward_next v r b u nx = onward_at v (v + 1) r u (omega arith) (λ p a b. omega arith) b nx

-- ---- how many nets are passed

-- one number more
pub count_more : (p : ℕ → Bool) (k : ℕ) → count p (suc k) ≡ count p k + bit (p (suc k))
unfolding count sum
count_more p k = refl

-- of no numbers none passes
pub count_zero : (p : ℕ → Bool) → count p 0 ≡ 0
unfolding count sum
count_zero p = refl

-- the next net is one more
pub count_next : (p : ℕ → Bool) (v : ℕ) → (v ≡ 0 → ⊥) → p v ≡ true → count p v ≡ count p (reached v) + 1
count_next p zero z e = absurd (z refl)
count_next p (suc k) z e = omega (arith, count_more p k, ap bit e)

module _ (s : List ℕ) where
  -- m nets of the set are numbered up to k
  abbrev pub Passed : (m k : ℕ) → Type 0
  Passed m k = m ≡ count (member s) k

  -- a number that is no member is none of them
  passed_skip : (m j : ℕ) → member s (suc j) ≡ false → Passed m j → Passed m (suc j)
  passed_skip m j e u = omega (arith, count_more (member s) j, ap bit e)

  -- the first net, and the one after net v
  pub passed_first : NetsOnly s → (r : ℕ) → Next s 0 r → Onward s (Passed 0) 0 r
  passed_first nets r nx = onward_first s nets (Passed 0) (passed_skip 0) r (sym (count_zero (member s))) nx

  pub passed_next : NetsOnly s → (m v r : ℕ) → (v ≡ 0 → ⊥) → v ≤ 256 → member s v ≡ true → Passed m (reached v) → Next s (v + 1) r → Onward s (Passed (m + 1)) v r
  passed_next nets m v r z b e u nx = onward_next s nets (Passed (m + 1)) (passed_skip (m + 1)) v r b (omega (arith, count_next (member s) v z e)) nx
