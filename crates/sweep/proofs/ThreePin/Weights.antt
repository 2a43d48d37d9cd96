-- What each net weighs in a gap, and how the sums over all nets are compared. Assumes nothing.
use Prim.Native.Nat.{ℕ, zero, suc, ◌+◌, ◌*◌, ◌≤◌, ◌<◌, zero-le}
use mathlib.Core.Path.{◌≡◌, refl, sym, ap, ◌∙◌, subst}
use mathlib.Core.Logic.{◌⊎◌, inl, inr, ◌≢◌, ⊎_elim}
use mathlib.Core.Bool.{Bool, true, false, ◌&&◌}
use mathlib.Core.List.{List, [], ◌∷◌}
use native.Mathlib.Omega.{arith}
use native.Mathlib.Nat.{mul-one}
use lib.Dec.{eqb, ltb}
use Rattle.grid.specs.Channel.{pick, bit, times, sum, left, right}
use Rattle.grid.proofs.Tests.{Same, same, diff, same_by, Below, below, above, below_by, eqb_same}
use Rattle.grid.proofs.Counting.{sum_plus, sum_term, sum_le, sum_scale, sum_zero, sum_one, sum-times}
use Rattle.sweep.specs.Pairs.{mate}

module _ (top bottom : List ℕ) (c : ℕ) (tr m : List ℕ) where
  -- an extended net weighs 2, an open one 1, and 1 more if it has two strands and no mate
  unfoldable pub weight : ℕ → ℕ
  weight v =
      pick (eqb (right top bottom c v) 0) (2 * bit (ltb 0 (times v tr)))
      (bit (ltb 0 (left top bottom c v)) + bit (ltb 1 (times v tr) && eqb (mate v m) 0))

  -- net v weighs w
  pub data Weigh (v w : ℕ) : Type 0 where
    gone : w ≡ 0 → right top bottom c v ≡ 0 → times v tr ≡ 0 → Weigh v w
    extended : w ≡ 2 → right top bottom c v ≡ 0 → 0 < times v tr → Weigh v w
    unborn : w ≤ 1 → 0 < right top bottom c v → left top bottom c v ≡ 0 → (w ≡ 0) ⊎ (2 ≤ times v tr) → Weigh v w
    single : w ≡ 1 → 0 < right top bottom c v → 0 < left top bottom c v → (times v tr ≤ 1) ⊎ (mate v m ≢ 0) → Weigh v w
    lone : w ≡ 2 → 0 < right top bottom c v → 0 < left top bottom c v → 2 ≤ times v tr → mate v m ≡ 0 → Weigh v w

  -- by cases
  pub weigh : (v : ℕ) → Weigh v (weight v)
  unfolding weight
  weigh v =
      go (eqb (right top bottom c v) 0) (same_by (right top bottom c v) 0) (ltb 0 (times v tr)) (below_by 0 (times v tr)) (ltb 0 (left top bottom c v))
      (below_by 0 (left top bottom c v)) (ltb 1 (times v tr)) (below_by 1 (times v tr)) (eqb (mate v m) 0) (same_by (mate v m) 0)
    where
      go : (i : Bool) → Same (right top bottom c v) 0 i → (j : Bool) → Below 0 (times v tr) j → (k : Bool) → Below 0 (left top bottom c v) k
          → (l : Bool) → Below 1 (times v tr) l → (o : Bool) → Same (mate v m) 0 o → Weigh v (pick i (2 * bit j) (bit k + bit (l && o)))
      go true (same a) true (below b) k d l e o f = extended refl a b
      go true (same a) false (above b) k d l e o f = gone refl a (omega arith)
      go false (diff a) j b true (below d) true (below e) true (same f) = lone refl (omega arith) d e f
      go false (diff a) j b true (below d) true e false (diff f) = single refl (omega arith) d (inr f)
      go false (diff a) j b true (below d) false (above e) o f = single refl (omega arith) d (inl e)
      go false (diff a) j b false (above d) true (below e) true f = unborn (omega arith) (omega arith) (omega arith) (inr e)
      go false (diff a) j b false (above d) true (below e) false f = unborn (omega arith) (omega arith) (omega arith) (inl refl)
      go false (diff a) j b false (above d) false e o f = unborn (omega arith) (omega arith) (omega arith) (inl refl)

  -- an open net weighs 1 at least
  pub weigh_open : (v : ℕ) → 0 < right top bottom c v → 0 < left top bottom c v → 1 ≤ weight v
  weigh_open v r l = go (weigh v)
    where
      go : {w : ℕ} → Weigh v w → 1 ≤ w
      go (gone e a b) = absurd (omega arith)
      go (extended e a b) = absurd (omega arith)
      go (unborn e a b d) = absurd (omega arith)
      go (single e a b d) = omega arith
      go (lone e a b d f) = omega arith

  -- an open net with two strands and no mate weighs 2
  pub weigh_lone : (v : ℕ) → 0 < right top bottom c v → 0 < left top bottom c v → 2 ≤ times v tr → mate v m ≡ 0 → 2 ≤ weight v
  weigh_lone v r l p z = go (weigh v)
    where
      go : {w : ℕ} → Weigh v w → 2 ≤ w
      go (gone e a b) = absurd (omega arith)
      go (extended e a b) = absurd (omega arith)
      go (unborn e a b d) = absurd (omega arith)
      go (single e a b d) = absurd (⊎_elim (λ (x : times v tr ≤ 1). omega arith) (λ x. x z) d)
      go (lone e a b d f) = omega arith

  -- so does an extended net
  pub weigh_extended : (v : ℕ) → right top bottom c v ≡ 0 → 0 < times v tr → 2 ≤ weight v
  weigh_extended v r p = go (weigh v)
    where
      go : {w : ℕ} → Weigh v w → 2 ≤ w
      go (gone e a b) = absurd (omega arith)
      go (extended e a b) = omega arith
      go (unborn e a b d) = absurd (omega arith)
      go (single e a b d) = absurd (omega arith)
      go (lone e a b d f) = absurd (omega arith)

-- SUMS OVER 1 TO k

-- a figure e at x alone is at least e, if x is among them
spot_ge : (e x k : ℕ) → (e ≢ 0 → (x ≢ 0) × (x ≤ k)) → e ≤ sum (λ v. e * bit (eqb x v)) k
spot_ge zero x k f = zero-le
spot_ge (suc e) x k f =
    let (n, p) = f (omega arith) in
    omega (arith, sum_scale (suc e) (λ v. bit (eqb x v)) k ∙ ap (λ (z : ℕ). suc e * z) (sum_one x k n p) ∙ mul-one (suc e))

-- and at most e
spot_le : (e x k : ℕ) → sum (λ v. e * bit (eqb x v)) k ≤ e
unfolding times
spot_le e x k =
    go (sum (λ v. bit (eqb x v)) k)
    (omega (arith, sum_le (λ v. bit (eqb x v)) (λ v. times v (x ∷ [])) k (λ v. omega arith), sum-times (x ∷ []) k))
    (sum_scale e (λ v. bit (eqb x v)) k)
  where
    go : (s : ℕ) → s ≤ 1 → sum (λ v. e * bit (eqb x v)) k ≡ e * s → sum (λ v. e * bit (eqb x v)) k ≤ e
    go zero h i = omega arith
    go (suc zero) h i = omega (arith, mul-one e)
    go (suc (suc s)) h i = absurd (omega arith)

-- a smaller sum, by the terms from 1 to k
sum_le_to : (f g : ℕ → ℕ) (k : ℕ) → ((v : ℕ) → v ≢ 0 → v ≤ k → f v ≤ g v) → sum f k ≤ sum g k
unfolding sum
sum_le_to f g zero h = zero-le
sum_le_to f g (suc k) h = omega (arith, sum_le_to f g k (λ v n p. h v n (omega arith)), h (suc k) (omega arith) (omega arith))

-- sums in either order
sum_swap : (f : ℕ → ℕ → ℕ) (k l : ℕ) → sum (λ v. sum (λ u. f v u) l) k ≡ sum (λ u. sum (λ v. f v u) k) l
unfolding sum
sum_swap f zero l = sym (sum_zero (λ u. 0) l (λ u p. refl))
sum_swap f (suc k) l = omega (arith, sum_swap f k l, sum_plus (λ u. sum (λ v. f v u) k) (λ u. f (suc k) u) l)

-- GAINS AND LOSSES: l₁ and l₂ lose e₁ and e₂, p₁ and p₂ gain g₁ and g₂ at most, no other net gains
module _ (w w' : ℕ → ℕ) (l₁ l₂ p₁ p₂ e₁ e₂ g₁ g₂ : ℕ)
    (d₁ : l₁ ≢ 0 → (l₁ ≢ l₂) × (l₁ ≢ p₁) × (l₁ ≢ p₂)) (d₂ : l₂ ≢ 0 → (l₂ ≢ p₁) × (l₂ ≢ p₂)) (d₃ : p₁ ≢ 0 → p₁ ≢ p₂)
    (lose₁ : l₁ ≢ 0 → w' l₁ + e₁ ≤ w l₁) (lose₂ : l₂ ≢ 0 → w' l₂ + e₂ ≤ w l₂)
    (gain₁ : p₁ ≢ 0 → w' p₁ ≤ w p₁ + g₁) (gain₂ : p₂ ≢ 0 → w' p₂ ≤ w p₂ + g₂)
    (others : (v : ℕ) → v ≢ 0 → l₁ ≢ v → l₂ ≢ v → p₁ ≢ v → p₂ ≢ v → w' v ≤ w v) where
  -- of each net
  point : (v : ℕ) → v ≢ 0 → w' v + (e₁ * bit (eqb l₁ v) + e₂ * bit (eqb l₂ v)) ≤ w v + (g₁ * bit (eqb p₁ v) + g₂ * bit (eqb p₂ v))
  point v n = go (eqb l₁ v) (same_by l₁ v) (eqb l₂ v) (same_by l₂ v) (eqb p₁ v) (same_by p₁ v) (eqb p₂ v) (same_by p₂ v)
    where
      some : {x : ℕ} → x ≡ v → x ≢ 0
      some e z = n (sym e ∙ z)

      go : (i : Bool) → Same l₁ v i → (j : Bool) → Same l₂ v j → (k : Bool) → Same p₁ v k → (l : Bool) → Same p₂ v l
          → w' v + (e₁ * bit i + e₂ * bit j) ≤ w v + (g₁ * bit k + g₂ * bit l)
      go true (same a) true (same b) k x l y = absurd ((d₁ (some a)).0 (a ∙ sym b))
      go true (same a) false b true (same x) l y = absurd ((d₁ (some a)).1 (a ∙ sym x))
      go true (same a) false b false x true (same y) = absurd ((d₁ (some a)).2 (a ∙ sym y))
      go true (same a) false b false x false y = let z = subst (λ (z : ℕ). w' z + e₁ ≤ w z) a (lose₁ (some a)) in omega arith
      go false a true (same b) true (same x) l y = absurd ((d₂ (some b)).0 (b ∙ sym x))
      go false a true (same b) false x true (same y) = absurd ((d₂ (some b)).1 (b ∙ sym y))
      go false a true (same b) false x false y = let z = subst (λ (z : ℕ). w' z + e₂ ≤ w z) b (lose₂ (some b)) in omega arith
      go false a false b true (same x) true (same y) = absurd (d₃ (some x) (x ∙ sym y))
      go false a false b true (same x) false y = let z = subst (λ (z : ℕ). w' z ≤ w z + g₁) x (gain₁ (some x)) in omega arith
      go false a false b false x true (same y) = let z = subst (λ (z : ℕ). w' z ≤ w z + g₂) y (gain₂ (some y)) in omega arith
      go false (diff a) false (diff b) false (diff x) false (diff y) = omega (arith, others v n a b x y)

  -- of the sum
  pub balance : (k : ℕ) → (e₁ ≢ 0 → (l₁ ≢ 0) × (l₁ ≤ k)) → (e₂ ≢ 0 → (l₂ ≢ 0) × (l₂ ≤ k)) → sum w' k + (e₁ + e₂) ≤ sum w k + (g₁ + g₂)
  balance k a b =
      omega (
        arith,
        sum_le (λ v. w' v + (e₁ * bit (eqb l₁ v) + e₂ * bit (eqb l₂ v)))
            (λ v. w v + (g₁ * bit (eqb p₁ v) + g₂ * bit (eqb p₂ v))) k (λ v. point (suc v) (omega arith)),
        sum_plus w' (λ v. e₁ * bit (eqb l₁ v) + e₂ * bit (eqb l₂ v)) k,
        sum_plus (λ v. e₁ * bit (eqb l₁ v)) (λ v. e₂ * bit (eqb l₂ v)) k,
        sum_plus w (λ v. g₁ * bit (eqb p₁ v) + g₂ * bit (eqb p₂ v)) k,
        sum_plus (λ v. g₁ * bit (eqb p₁ v)) (λ v. g₂ * bit (eqb p₂ v)) k,
        spot_ge e₁ l₁ k a,
        spot_ge e₂ l₂ k b,
        spot_le g₁ p₁ k,
        spot_le g₂ p₂ k,
      )

-- AS MANY: each v that a counts is g of some u that b counts
pub as_many : (a b : ℕ → ℕ) (g : ℕ → ℕ) (k : ℕ) → ((v : ℕ) → v ≢ 0 → a v ≤ 1)
    → ((v : ℕ) → v ≢ 0 → v ≤ k → 0 < a v → (u : ℕ) × (u ≢ 0) × (u ≤ k) × (g u ≡ v) × (0 < b u))
    → sum a k ≤ sum b k
as_many a b g k one find =
    omega (
      arith,
      sum_le_to a (λ v. sum (λ u. b u * bit (eqb (g u) v)) k) k term,
      sum_swap (λ v u. b u * bit (eqb (g u) v)) k k,
      sum_le (λ u. sum (λ v. b u * bit (eqb (g u) v)) k) b k (λ u. spot_le (b (suc u)) (g (suc u)) k),
    )
  where
    term : (v : ℕ) → v ≢ 0 → v ≤ k → a v ≤ sum (λ u. b u * bit (eqb (g u) v)) k
    term v n p = go (ltb 0 (a v)) (below_by 0 (a v))
      where
        go : (q : Bool) → Below 0 (a v) q → a v ≤ sum (λ u. b u * bit (eqb (g u) v)) k
        go true (below h) =
            let (u, m, l, e, o) = find v n p h in
            let x : b u * bit (eqb (g u) v) ≡ b u = ap (λ (z : ℕ). b u * bit (eqb z v)) e ∙ ap (λ (z : ℕ). b u * z) (eqb_same v) ∙ mul-one (b u) in
            omega (arith, one v n, sum_term (λ u. b u * bit (eqb (g u) v)) k u (omega arith) l)
        go false (above h) = omega arith
