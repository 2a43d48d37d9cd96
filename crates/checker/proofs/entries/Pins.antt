-- Entries that are a column's first or last vertical one and not its pin.
use Prim.Native.Nat.{ℕ, ◌+◌, ◌*◌, ◌-◌, ◌<◌}
use mathlib.Core.Path.{◌≡◌, refl, sym, ◌∙◌, ap}
use mathlib.Core.Logic.{◌≢◌, ◌⊎◌, inl, inr, by_cases}
use mathlib.Core.Bool.{Bool, true, false, not, ◌&&◌, ◌||◌}
use mathlib.Core.List.{List}
use lib.ListN.{get_or}
use lib.Dec.{eqb}
use native.Mathlib.Omega.{arith}
use native.Mathlib.Decide.{ℕ_discrete, dec_lt}
use Rattle.grid.specs.Channel.{bit}
use Rattle.grid.proofs.Tests.{eq-eqb, ne_eqb, eqb-true, eqb-false, not-true, and_true, or_false}
use Rattle.checker.specs.Check.{pin_wrong, mispinned}
use Rattle.grid.proofs.Drawings.Flat.{column_of_lem, entry_of}
use Rattle.checker.proofs.Least.{NoneBelow}

-- an entry that equals the pins that it has to equal
pinned_in : (t a b e i : ℕ) → (i ≡ 0 → e ≡ b) → (i ≡ t → e ≡ a) → pin_wrong t a b e i ≡ false
pinned_in t a b e i x y = go (eqb i 0) refl (eqb i t) refl
  where
    go : (z : Bool) → eqb i 0 ≡ z → (k : Bool) → eqb i t ≡ k → (z && not (eqb e b)) || (k && not (eqb e a)) ≡ false
    go false o false m = refl
    go false o true m = rw (eq-eqb e a (y (eqb-true i t m)))
    go true o false m = rw (eq-eqb e b (x (eqb-true i 0 o)))
    go true o true m = rw (eq-eqb e b (x (eqb-true i 0 o)), eq-eqb e a (y (eqb-true i t m)))

-- and back
in_pinned : (t a b e i : ℕ) → pin_wrong t a b e i ≡ false → (i ≡ 0 → e ≡ b) × (i ≡ t → e ≡ a)
in_pinned t a b e i h =
    let r = or_false (eqb i 0 && not (eqb e b)) (eqb i t && not (eqb e a)) h in
    (λ x. same i 0 e b x r.0, λ x. same i t e a x r.1)
  where
    same : (i k e b : ℕ) → i ≡ k → eqb i k && not (eqb e b) ≡ false → e ≡ b
    same i k e b x h =
        by_cases (ℕ_discrete e b) (λ z. z)
        (λ z. absurd (let o : ◌≡◌ {A = ℕ} 1 0 = ap bit (rw (eq-eqb i k x, ne_eqb e b z) at h) in omega arith))

module _ (top bottom : List ℕ) (t : ℕ) (D : List ℕ) where
  -- at entry i of column x
  mispinned_at :
      (p x i : ℕ) → i < 2 * t + 1 → p ≡ x * (2 * t + 1) + i
      → mispinned top bottom t D p ≡ pin_wrong t (get_or top x 0) (get_or bottom x 0) (get_or D p 0) i
  mispinned_at p x i l e = rw (column_of_lem t p x i l e, entry_of t p x i l e)

  -- a position that has the pins of its column
  pub pinned_at :
      (p x i : ℕ) → i < 2 * t + 1 → p ≡ x * (2 * t + 1) + i
      → (i ≡ 0 → get_or D p 0 ≡ get_or bottom x 0) → (i ≡ t → get_or D p 0 ≡ get_or top x 0) → mispinned top bottom t D p ≡ false
  pinned_at p x i l e lo hi = mispinned_at p x i l e ∙ pinned_in t (get_or top x 0) (get_or bottom x 0) (get_or D p 0) i lo hi

  -- and back
  pub at_pinned :
      (p x i : ℕ) → i < 2 * t + 1 → p ≡ x * (2 * t + 1) + i → mispinned top bottom t D p ≡ false
      → (i ≡ 0 → get_or D p 0 ≡ get_or bottom x 0) × (i ≡ t → get_or D p 0 ≡ get_or top x 0)
  at_pinned p x i l e h = in_pinned t (get_or top x 0) (get_or bottom x 0) (get_or D p 0) i (sym (mispinned_at p x i l e) ∙ h)

  module _ (x b : ℕ) (e : b ≡ x * (2 * t + 1)) where
    -- a wrong bottom pin
    pub pin_low : get_or D b 0 ≢ get_or bottom x 0 → mispinned top bottom t D b ≡ true
    pin_low n = mispinned_at b x 0 (omega arith) (omega arith) ∙ rw (eq-eqb 0 0 refl, ne_eqb (get_or D b 0) (get_or bottom x 0) n)

    -- a wrong top pin
    pub pin_high : get_or D (b + t) 0 ≢ get_or top x 0 → mispinned top bottom t D (b + t) ≡ true
    pin_high n =
        mispinned_at (b + t) x t (omega arith) (omega arith)
        ∙ rw (eq-eqb t t refl, ne_eqb (get_or D (b + t) 0) (get_or top x 0) n) (go (eqb t 0 && not (eqb (get_or D (b + t) 0) (get_or bottom x 0))))
      where
        go : (b : Bool) → b || true ≡ true
        go true = refl
        go false = refl

    module _ (n : NoneBelow (mispinned top bottom t D) b) (lo : get_or D b 0 ≡ get_or bottom x 0) where
      -- with the right bottom pin none is wrong below the top pin
      pub pins_between : NoneBelow (mispinned top bottom t D) (b + t)
      pins_between = record {
        none = λ k l.
            by_cases (dec_lt k b) (λ m. n.none k m)
            (λ m. pinned_at k x (k - b) (omega arith) (omega arith) (λ z. ap (λ (j : ℕ). get_or D j 0) (omega arith) ∙ lo) (λ z. absurd (omega arith)));
      }

      -- with both none in the column
      pub pins_fine : get_or D (b + t) 0 ≡ get_or top x 0 → NoneBelow (mispinned top bottom t D) (b + (2 * t + 1))
      pins_fine hi = record {
        none = λ k l.
            by_cases (dec_lt k b) (λ m. n.none k m)
            (λ m.
            pinned_at k x (k - b) (omega arith) (omega arith) (λ z. ap (λ (j : ℕ). get_or D j 0) (omega arith) ∙ lo)
            (λ z. ap (λ (j : ℕ). get_or D j 0) (omega arith) ∙ hi));
      }

-- an entry that is not a pin that it has to equal
pub wrong_pin : (t a b e i : ℕ) → pin_wrong t a b e i ≡ true → ((i ≡ 0) × (e ≢ b)) ⊎ ((i ≡ t) × (e ≢ a))
wrong_pin t a b e i h = go (eqb i 0 && not (eqb e b)) refl h
  where
    both : (i k e b : ℕ) → eqb i k && not (eqb e b) ≡ true → (i ≡ k) × (e ≢ b)
    both i k e b h =
        let (m, n) = and_true (eqb i k) (not (eqb e b)) h in
        (eqb-true i k m, eqb-false e b (not-true (eqb e b) n))

    go :
        (z : Bool) → eqb i 0 && not (eqb e b) ≡ z → z || (eqb i t && not (eqb e a)) ≡ true
        → ((i ≡ 0) × (e ≢ b)) ⊎ ((i ≡ t) × (e ≢ a))
    go true o m = inl (both i 0 e b o)
    go false o m = inr (both i t e a m)
