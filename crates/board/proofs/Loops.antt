-- What the searches for a net's columns find. Assumes nothing.
use Prim.Native.Nat.{ℕ, zero, suc, ◌+◌, ◌-◌, ◌<◌}
use mathlib.Core.Path.{◌≡◌, refl, sym, ap, ap₂, ◌∙◌}
use mathlib.Core.Logic.{◌≢◌}
use mathlib.Core.Bool.{Bool, true, false, ◌&&◌}
use mathlib.Core.List.{List}
use native.Mathlib.Omega.{arith}
use native.Mathlib.Numerals.{add-one}
use lib.Dec.{eqb}
use lib.ListN.{length}
use Rattle.std.specs.Prelude.{Some, None}
use Rattle.grid.specs.Channel.{pick}
use Rattle.grid.specs.Nets.{is_pinned, first_to, last_to, first_column}
use Rattle.grid.proofs.Tests.{eq-eqb, ne_eqb, and_none}
use Rattle.board.specs.Working.{column_by}

-- THE FIRST AND THE LAST COLUMN OF A NET

module _ (top bottom : List ℕ) (net : ℕ) where
  -- the first of no columns
  pub first_none : first_to top bottom net 0 ≡ 0
  unfolding first_to
  first_none = refl

  -- a column more without a pin of the net
  pub first_not_yet : (c : ℕ) → first_to top bottom net c ≡ 0 → is_pinned top bottom net c ≡ false → first_to top bottom net (c + 1) ≡ 0
  unfolding first_to
  first_not_yet c e p =
      ap (first_to top bottom net) (add-one c)
      ∙ ap (λ (q : Bool). pick (q && eqb (first_to top bottom net c) 0) (suc c) (first_to top bottom net c)) p ∙ e

  -- columns after the first change it no more
  first_kept : (c k : ℕ) → first_to top bottom net c ≢ 0 → first_to top bottom net (k + c) ≡ first_to top bottom net c
  unfolding first_to
  first_kept c zero n = ap (first_to top bottom net) (let e : 0 + c ≡ c = omega arith in e)
  first_kept c (suc k) n =
      let f = first_to top bottom net (k + c) in
      let e : f ≡ first_to top bottom net c = first_kept c k n in
      ap (first_to top bottom net) (let s : suc k + c ≡ suc (k + c) = omega arith in s)
      ∙ ap (λ (q : Bool). pick q (suc (k + c)) f) (and_none (is_pinned top bottom net (k + c)) (eqb f 0) (ne_eqb f 0 (λ z. n (sym e ∙ z)))) ∙ e

  -- it is the next column
  pub first_found : (c : ℕ) → c < length top → first_to top bottom net c ≡ 0 → is_pinned top bottom net c ≡ true → c + 1 ≡ first_column top bottom net
  unfolding first_to first_column
  first_found c h e p =
      let found : first_to top bottom net (suc c) ≡ suc c = rw (p, eq-eqb (first_to top bottom net c) 0 e) in
      add-one c ∙ sym (ap (first_to top bottom net) (let s : length top ≡ (length top - suc c) + suc c = omega arith in s)
      ∙ first_kept (suc c) (length top - suc c) (λ z. let u : ⊥ = omega arith in u) ∙ found)

  -- the last of no columns
  pub last_not_there : last_to top bottom net 0 ≡ 0
  unfolding last_to
  last_not_there = refl

  -- of the columns 1 to c it is c or one before, by the pins of column c
  pub last_by : (c : ℕ) (q : Bool) → 0 < c → is_pinned top bottom net (c - 1) ≡ q → last_to top bottom net c ≡ pick q c (last_to top bottom net (c - 1))
  unfolding last_to
  last_by zero q h p = absurd (omega arith)
  last_by (suc c) q h p =
      let s : suc c - 1 ≡ c = omega arith in
      ap₂ (λ (q : Bool) (k : ℕ). pick q (suc c) (last_to top bottom net k)) (ap (is_pinned top bottom net) (sym s) ∙ p) (sym s)

-- A COLUMN, OR NONE

-- by its number
pub column_some : (k m : ℕ) → k ≡ m → k ≢ 0 → Some k ≡ column_by m
column_some k zero e n = absurd (n e)
column_some k (suc m) e n = ap Some e

pub column_none : (m : ℕ) → m ≡ 0 → None ≡ column_by m
column_none m e = ap column_by (sym e)

-- and its number
pub column_is : (k m : ℕ) → Some k ≡ column_by m → (k ≡ m) × (m ≢ 0)
column_is k zero e = absurd (cc)
column_is k (suc m) e = ((cc), λ z. let u : ⊥ = omega arith in u)

pub no_column : (m : ℕ) → None ≡ column_by m → m ≡ 0
no_column zero e = refl
no_column (suc m) e = absurd (cc)
