-- What the nets weigh after a column of a three-pin channel, against what they weighed before, and their sum against the density.
use Prim.Native.Nat.{ℕ, suc, ◌+◌, ◌≤◌, ◌<◌}
use mathlib.Core.Path.{◌≡◌, sym, ◌∙◌, subst}
use mathlib.Core.Logic.{◌⊎◌, inl, inr, ◌≢◌, ⊎_elim}
use mathlib.Core.List.{List}
use native.Mathlib.Omega.{arith}
use lib.Dec.{eqb}
use lib.ListN.{length, get_or}
use Rattle.grid.specs.declared.Family.TheVariants.{ThreePin}
use Rattle.grid.specs.Channel.{bit, times, sum, count, left, right, is_open, open_at, density, family}
use Rattle.grid.specs.Nets.{last_column}
use Rattle.grid.proofs.Tests.{eq_bit, bit_most, ltb-true, lt-ltb}
use Rattle.grid.proofs.Counting.{sum_le}
use Rattle.grid.proofs.Rows.{RowsFit, HasPin, left-right, right_suc, pin_right, open_bit, open_density}
use Rattle.grid.proofs.Nets.{goes_on}
use Rattle.sweep.specs.declared.Move.{Move}
use Rattle.sweep.specs.Tracks.{after}
use Rattle.sweep.specs.Pairs.{mate}
use Rattle.sweep.specs.Drawing.{mates_after}
use Rattle.sweep.proofs.Gaps.Keeps.{few_more}
use Rattle.sweep.proofs.Actions.Good.{Good}
use Rattle.sweep.proofs.ThreePin.Weights.{weight, Weigh, gone, extended, unborn, single, lone, weigh, weigh_open, weigh_lone, weigh_extended, balance}
use Rattle.sweep.proofs.ThreePin.Kept.{Kept, Forms, same_left, same_right, small, no_more_away}
use Rattle.sweep.proofs.ThreePin.Mates.{Parts, unpaired, held_next}

-- two different nets are not both v
one_pin : (P Q v : ℕ) → Q ≢ P → bit (eqb P v) + bit (eqb Q v) ≤ 1
one_pin P Q v d =
    ⊎_elim (λ a. ⊎_elim (λ b. absurd (d (b.0 ∙ sym a.0))) (λ b. omega arith) (eq_bit Q v)) (λ a. omega (arith, bit_most (eqb Q v))) (eq_bit P v)

-- a net that ends no earlier than one with later pins has later pins
later_too : (top bottom : List ℕ) → RowsFit top bottom → (c u v : ℕ) → u ≢ 0 → v ≢ 0 → last_column top bottom u ≤ last_column top bottom v
    → 0 < right top bottom c u → 0 < right top bottom c v
later_too top bottom fit c u v n l h r =
    let a = ltb-true c (last_column top bottom u) (sym (goes_on top bottom u n fit.same c) ∙ lt-ltb 0 (right top bottom c u) r) in
    ltb-true 0 (right top bottom c v) (goes_on top bottom v l fit.same c ∙ lt-ltb c (last_column top bottom v) (omega arith))

module _ {t : ℕ} (top bottom : List ℕ) (fit : RowsFit top bottom) (three : family top bottom ≡ ThreePin) (c : ℕ) (tr m : List ℕ) (k : Kept t top bottom c tr m)
    (x : Move) (b : Forms top bottom c tr m x) (good : Good top bottom c t tr (get_or top c 0) (get_or bottom c 0) x.action) where
  abbrev P : ℕ
  P = get_or top c 0

  abbrev Q : ℕ
  Q = get_or bottom c 0

  abbrev tr' : List ℕ
  tr' = after x.action tr

  abbrev m' : List ℕ
  m' = mates_after top bottom c x m

  -- what a net weighs before the column and after it
  abbrev W : ℕ → ℕ
  W v = weight top bottom c tr m v

  abbrev W' : ℕ → ℕ
  W' v = weight top bottom (suc c) tr' m' v

  -- a net without a pin here weighs no more
  pub others : (v : ℕ) → v ≢ 0 → P ≢ v → Q ≢ v → W' v ≤ W v
  others v n p q = go (weigh top bottom (suc c) tr' m' v)
    where
      same_l : left top bottom (suc c) v ≡ left top bottom c v
      same_l = same_left top bottom c v n p q

      same_r : right top bottom (suc c) v ≡ right top bottom c v
      same_r = same_right top bottom c v n p q

      less : times v tr' ≤ times v tr
      less = no_more_away top bottom c tr k.held x.action good v n p q

      -- its pair does not end here: with two strands it ends no later than its mate
      lasts : 2 ≤ times v tr' → 0 < right top bottom (suc c) v → Parts top bottom fit three c tr m k v → ⊥
      lasts two r (g, i, here, off, inl e) = ⊎_elim (λ a. p (a ∙ e)) (λ a. q (a ∙ e)) here
      lasts two r (g, i, here, off, inr e) =
          let o = k.order v n (λ z. i (e ∙ z)) (omega (arith, less)) in
          omega (arith, later_too top bottom fit (suc c) v g n i (subst (λ (z : ℕ). last_column top bottom v ≤ last_column top bottom z) (sym e) o) r)

      go : {w : ℕ} → Weigh top bottom (suc c) tr' m' v w → w ≤ W v
      go (gone e r l) = omega arith
      go (extended e r l) = omega (arith, weigh_extended top bottom c tr m v (omega (arith, same_r)) (omega (arith, less)))
      go (unborn e r l o) = ⊎_elim (λ (z : _ ≡ 0). omega arith) (λ (z : 2 ≤ times v tr'). absurd (omega (arith, k.held.few v n, less, same_l))) o
      go (single e r l o) = omega (arith, weigh_open top bottom c tr m v (omega (arith, same_r)) (omega (arith, same_l)))
      go (lone e r l two z) =
          omega (
            arith,
            weigh_lone top bottom c tr m v (omega (arith, same_r)) (omega (arith, same_l)) (omega (arith, less))
                (⊎_elim (λ i. i) (λ d. absurd (lasts two r d)) (unpaired top bottom fit three c tr m k x b v n z)),
          )

  -- the net of a pin, where the two pins are of different nets, gains 1 at most
  pub pin_gain : Q ≢ P → (v : ℕ) → v ≢ 0 → HasPin top bottom v c → W' v ≤ W v + 1
  pin_gain d v n here = go (weigh top bottom (suc c) tr' m' v)
    where
      opened : 0 < left top bottom c v → 1 ≤ W v
      opened = weigh_open top bottom c tr m v (pin_right top bottom v c n here)

      begun : right top bottom (suc c) v ≡ 0 → 0 < left top bottom c v
      begun r =
          omega (arith, fit.lone v (omega arith), left-right top bottom v c, right_suc top bottom v c n, pin_right top bottom v c n here, one_pin P Q v d)

      go : {w : ℕ} → Weigh top bottom (suc c) tr' m' v w → w ≤ W v + 1
      go (gone e r l) = omega arith
      go (extended e r l) = omega (arith, opened (begun r))
      go (unborn e r l o) = omega arith
      go (single e r l o) = omega arith
      go (lone e r l two z) =
          omega (arith, opened (omega (arith, k.held.few v n, few_more top bottom c tr k.held x.action good.0 good.1 v n, one_pin P Q v d)))

  -- none if it continues, and stays single or is paired
  pub pin_keep : (v : ℕ) → v ≢ 0 → HasPin top bottom v c → 0 < left top bottom c v → 0 < right top bottom (suc c) v → (times v tr' ≤ 1) ⊎ (mate v m' ≢ 0)
      → W' v ≤ W v
  pin_keep v n here l r o = go (weigh top bottom (suc c) tr' m' v)
    where
      opened : 1 ≤ W v
      opened = weigh_open top bottom c tr m v (pin_right top bottom v c n here) l

      go : {w : ℕ} → Weigh top bottom (suc c) tr' m' v w → w ≤ W v
      go (gone e i j) = omega arith
      go (extended e i j) = absurd (omega arith)
      go (unborn e i j u) = omega (arith, opened)
      go (single e i j u) = omega (arith, opened)
      go (lone e i j two z) = absurd (⊎_elim (λ (y : times v tr' ≤ 1). omega arith) (λ y. y z) o)

  -- a net that is gone weighs nothing
  pub nothing : (v : ℕ) → right top bottom (suc c) v ≡ 0 → times v tr' ≡ 0 → W' v ≡ 0
  nothing v r l = go (weigh top bottom (suc c) tr' m' v)
    where
      go : {w : ℕ} → Weigh top bottom (suc c) tr' m' v w → w ≡ 0
      go (gone e i j) = e
      go (extended e i j) = absurd (omega arith)
      go (unborn e i j o) = absurd (omega arith)
      go (single e i j o) = absurd (omega arith)
      go (lone e i j o z) = absurd (omega arith)

  -- a net that ends and has no strand left loses 1
  pub pin_lost : (v : ℕ) → v ≢ 0 → HasPin top bottom v c → 0 < left top bottom c v → right top bottom (suc c) v ≡ 0 → times v tr' ≡ 0 → W' v + 1 ≤ W v
  pin_lost v n here l r o = omega (arith, nothing v r o, weigh_open top bottom c tr m v (pin_right top bottom v c n here) l)

  -- an extended net that is joined loses 2
  pub joined_lost : (v : ℕ) → v ≢ 0 → right top bottom c v ≡ 0 → 0 < times v tr → times v tr' ≡ 0 → W' v + 2 ≤ W v
  joined_lost v n r l o = omega (arith, nothing v (omega (arith, right_suc top bottom v c n)) o, weigh_extended top bottom c tr m v r l)

  -- an unpaired double net without a pin here that is reduced or paired loses 1
  pub lone_lost : (v : ℕ) → v ≢ 0 → P ≢ v → Q ≢ v → 0 < right top bottom c v → 2 ≤ times v tr → mate v m ≡ 0 → (times v tr' ≤ 1) ⊎ (mate v m' ≢ 0)
      → W' v + 1 ≤ W v
  lone_lost v n p q r two z o = go (weigh top bottom (suc c) tr' m' v)
    where
      heavy : 2 ≤ W v
      heavy = weigh_lone top bottom c tr m v r (omega (arith, k.held.few v n)) two z

      go : {w : ℕ} → Weigh top bottom (suc c) tr' m' v w → w + 1 ≤ W v
      go (gone e i j) = omega (arith, heavy)
      go (extended e i j) = absurd (omega (arith, same_right top bottom c v n p q))
      go (unborn e i j u) = omega (arith, heavy)
      go (single e i j u) = omega (arith, heavy)
      go (lone e i j u w) = absurd (⊎_elim (λ (a : times v tr' ≤ 1). omega arith) (λ a. a w) o)

  -- THE SUM

  -- where no net is extended or unpaired double afterwards, it is the density at most
  pub by_density : c < length top → ((v : ℕ) → v ≢ 0 → right top bottom (suc c) v ≡ 0 → times v tr' ≡ 0)
      → ((v : ℕ) → v ≢ 0 → 0 < right top bottom (suc c) v → (times v tr' ≤ 1) ⊎ (mate v m' ≢ 0))
      → sum W' 256 ≤ density top bottom
  unfolding open_at count
  by_density inside off on =
      omega (
        arith,
        open_density top bottom (suc c) (omega (arith, fit.same)) (omega arith) inside,
        sum_le W' (λ v. bit (is_open top bottom (suc c) v)) 256 (λ v. at (suc v) (omega arith)),
      )
    where
      at : (v : ℕ) → v ≢ 0 → W' v ≤ bit (is_open top bottom (suc c) v)
      at v n = go (weigh top bottom (suc c) tr' m' v)
        where
          go : {w : ℕ} → Weigh top bottom (suc c) tr' m' v w → w ≤ bit (is_open top bottom (suc c) v)
          go (gone e r l) = omega arith
          go (extended e r l) = absurd (omega (arith, off v n r))
          go (unborn e r l o) =
              ⊎_elim (λ (z : _ ≡ 0). omega arith)
              (λ (z : 2 ≤ times v tr'). absurd (omega (arith, (held_next top bottom fit three c tr m k x b good).few v n)))
              o
          go (single e r l o) = omega (arith, open_bit top bottom (suc c) v l r)
          go (lone e r l two z) = absurd (⊎_elim (λ (y : times v tr' ≤ 1). omega arith) (λ y. y z) (on v n r))

  -- where l₁ and l₂ lose e₁ and e₂, p₁ and p₂ gain no more, and every net with a pin here is one of these, it is as well
  pub settle : (l₁ l₂ p₁ p₂ e₁ e₂ g₁ g₂ : ℕ) → (l₁ ≢ 0 → (l₁ ≢ l₂) × (l₁ ≢ p₁) × (l₁ ≢ p₂)) → (l₂ ≢ 0 → (l₂ ≢ p₁) × (l₂ ≢ p₂)) → (p₁ ≢ 0 → p₁ ≢ p₂)
      → (l₁ ≢ 0 → (W' l₁ + e₁ ≤ W l₁) × (0 < left top bottom c l₁)) → (l₂ ≢ 0 → (W' l₂ + e₂ ≤ W l₂) × (0 < left top bottom c l₂))
      → (p₁ ≢ 0 → W' p₁ ≤ W p₁ + g₁) → (p₂ ≢ 0 → W' p₂ ≤ W p₂ + g₂)
      → ((v : ℕ) → v ≢ 0 → l₁ ≢ v → l₂ ≢ v → p₁ ≢ v → p₂ ≢ v → (P ≢ v) × (Q ≢ v))
      → (e₁ ≢ 0 → l₁ ≢ 0) → (e₂ ≢ 0 → l₂ ≢ 0) → g₁ + g₂ ≤ e₁ + e₂
      → sum W' 256 ≤ density top bottom
  settle l₁ l₂ p₁ p₂ e₁ e₂ g₁ g₂ d₁ d₂ d₃ lose₁ lose₂ gain₁ gain₂ cover s₁ s₂ h =
      omega (
        arith,
        k.bound,
        balance W W' l₁ l₂ p₁ p₂ e₁ e₂ g₁ g₂ d₁ d₂ d₃ (λ n. (lose₁ n).0) (λ n. (lose₂ n).0) gain₁ gain₂
            (λ v n a e p q. let o = cover v n a e p q in others v n o.0 o.1) 256
            (λ n. (s₁ n, small top bottom fit l₁ c (lose₁ (s₁ n)).1))
            (λ n. (s₂ n, small top bottom fit l₂ c (lose₂ (s₂ n)).1)),
      )
