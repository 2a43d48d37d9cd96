-- Horizontal edges of the last column: in a drawing of w columns they stand among the last t entries.
use Prim.Native.Nat.{ℕ, zero, suc, ◌+◌, ◌*◌, ◌-◌, ◌/◌, ◌%◌, ◌≤◌, ◌<◌}
use mathlib.Core.Path.{◌≡◌, refl, sym, ◌∙◌, ap}
use mathlib.Core.Logic.{◌≢◌, by_cases}
use mathlib.Core.Bool.{Bool, true, false, not, ◌&&◌}
use mathlib.Core.List.{List}
use lib.ListN.{length, get_or, drop}
use lib.Dec.{eqb, ltb}
use native.Mathlib.Omega.{arith}
use native.Mathlib.Decide.{ℕ_discrete}
use native.Mathlib.Nat.{mod-lt, div-add-mod'}
use Rattle.grid.specs.Channel.{bit}
use Rattle.grid.proofs.Tests.{eq-eqb, ne_eqb, eqb-true, lt-ltb, ltb-true}
use Rattle.checker.specs.Check.{last_edge, leaves_last}
use Rattle.grid.proofs.Drawings.Flat.{column_of_lem, entry_of}
use Rattle.std.specs.Prelude.{Option, Some, None, position}
use Rattle.std.proofs.Common.{length-drop}
use Rattle.std.proofs.lemmas.List.{get_or-drop}
use Rattle.checker.specs.Working.{first_below}
use Rattle.checker.proofs.Least.{NoneBelow, position_found, position_none}

-- only an edge of the last column after its vertical entries is one
not_last_edge : (w t x i e : ℕ) → (suc x ≡ w → t < i → e ≡ 0) → last_edge w t x i e ≡ false
not_last_edge w t x i e h = go (eqb (suc x) w) refl (ltb t i) refl
  where
    go : (a : Bool) → eqb (suc x) w ≡ a → (b : Bool) → ltb t i ≡ b → a && (b && not (eqb e 0)) ≡ false
    go false m b n = refl
    go true m false n = refl
    go true m true n = rw (eq-eqb e 0 (h (eqb-true (suc x) w m) (ltb-true t i n)))

module _ (w t : ℕ) (D : List ℕ) where
  -- at entry i of column x
  last_edge_at : (p x i : ℕ) → i < 2 * t + 1 → p ≡ x * (2 * t + 1) + i → leaves_last w t D p ≡ last_edge w t x i (get_or D p 0)
  last_edge_at p x i l e = rw (column_of_lem t p x i l e, entry_of t p x i l e)

  -- an edge there
  pub last_edge_in : (p x i : ℕ) → i < 2 * t + 1 → p ≡ x * (2 * t + 1) + i → suc x ≡ w → t < i → get_or D p 0 ≢ 0 → leaves_last w t D p ≡ true
  last_edge_in p x i l e m k n = last_edge_at p x i l e ∙ rw (eq-eqb (suc x) w m, lt-ltb t i k, ne_eqb (get_or D p 0) 0 n)

  -- an entry 0 is no edge
  pub last_none : (p : ℕ) → get_or D p 0 ≡ 0 → leaves_last w t D p ≡ false
  last_none p e = not_last_edge w t (p / (2 * t + 1)) (p % (2 * t + 1)) (get_or D p 0) (λ m k. e)

  module _ (size : length D ≡ w * (2 * t + 1)) where
    -- none before the last t entries
    pub last_start : NoneBelow (leaves_last w t D) (length D - t)
    last_start = record {
      none = λ k l.
          not_last_edge w t (k / (2 * t + 1)) (k % (2 * t + 1)) (get_or D k 0)
          (λ m i. absurd (omega (arith, size, ap (λ (x : ℕ). x * (2 * t + 1)) m, div-add-mod' k (2 * t + 1))));
    }

    -- each edge among them
    pub last_edge_lem : (p : ℕ) → length D - t ≤ p → p < length D → get_or D p 0 ≢ 0 → leaves_last w t D p ≡ true
    last_edge_lem p l k n = go w refl
      where
        go : (z : ℕ) → z ≡ w → leaves_last w t D p ≡ true
        go zero e = absurd (let o : 0 * (2 * t + 1) ≡ w * (2 * t + 1) = ap (λ (k : ℕ). k * (2 * t + 1)) e in omega (arith, size))
        go (suc x) e =
            let o : suc x * (2 * t + 1) ≡ w * (2 * t + 1) = ap (λ (k : ℕ). k * (2 * t + 1)) e in
            last_edge_in p x (p - x * (2 * t + 1)) (omega (arith, size)) (omega (arith, size)) e (omega (arith, size)) n

    -- so a search of these is one for an edge of the last column
    abbrev pub LastSearch : Option ℕ → Type 0
    LastSearch o = o ≡ position (λ e. not (eqb e 0)) (drop (length D - t) D)

    edges_tested : (k : ℕ) → k < length (drop (length D - t) D) → not (eqb (get_or (drop (length D - t) D) k 0) 0) ≡ leaves_last w t D (length D - t + k)
    edges_tested k l = rw (get_or-drop (length D - t) D k 0) (tested (length D - t + k) (omega arith) (omega (arith, length-drop (length D - t) D)))
      where
        tested : (p : ℕ) → length D - t ≤ p → p < length D → not (eqb (get_or D p 0) 0) ≡ leaves_last w t D p
        tested p l k =
            by_cases (ℕ_discrete (get_or D p 0) 0) (λ z. ap not (eq-eqb (get_or D p 0) 0 z) ∙ sym (last_none p z))
            (λ n. ap not (ne_eqb (get_or D p 0) 0 n) ∙ sym (last_edge_lem p l k n))

    pub last_found : (i : ℕ) → LastSearch (Some i) → Some (length D - t + i) ≡ first_below (length D) (leaves_last w t D)
    last_found i e = position_found _ _ (length D - t) last_start _ _ 0 edges_tested i (omega (arith, length-drop (length D - t) D)) e

    pub last_missed : LastSearch None → None ≡ first_below (length D) (leaves_last w t D)
    last_missed e = position_none _ _ (length D - t) last_start _ _ 0 edges_tested (omega (arith, length-drop (length D - t) D)) e

  -- the horizontal entries of the last column are 0 where the test finds none
  pub last_zero : (x j : ℕ) → suc x ≡ w → j < t → leaves_last w t D (x * (2 * t + 1) + t + 1 + j) ≡ false → get_or D (x * (2 * t + 1) + t + 1 + j) 0 ≡ 0
  last_zero x j e l h =
      by_cases (ℕ_discrete (get_or D (x * (2 * t + 1) + t + 1 + j) 0) 0) (λ z. z)
      (λ z.
      let o : ◌≡◌ {A = ℕ} 0 1 =
      ap bit (sym h ∙ last_edge_in (x * (2 * t + 1) + t + 1 + j) x (t + 1 + j) (omega arith) (omega arith) e (omega arith) z)
      in absurd (omega arith))

  -- and back
  pub zero_last :
      ((x j : ℕ) → suc x ≡ w → j < t → get_or D (x * (2 * t + 1) + t + 1 + j) 0 ≡ 0) → (p : ℕ) → leaves_last w t D p ≡ false
  zero_last h p =
      let x = p / (2 * t + 1) in
      let i = p % (2 * t + 1) in
      not_last_edge w t x i (get_or D p 0)
      (λ m k.
      let j : ℕ = i - t - 1 in
      let l : j < t = omega (arith, mod-lt p {m = 2 * t + 1} (omega arith)) in
      ap (λ (k : ℕ). get_or D k 0) (omega (arith, div-add-mod' p (2 * t + 1))) ∙ h x j m l)
