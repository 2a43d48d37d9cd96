-- The place of a column's entries in a layout. Assumes nothing.
use Prim.Native.Nat.{ℕ, suc, ◌+◌, ◌*◌, ◌-◌, ◌≤◌, ◌<◌}
use mathlib.Core.Path.{◌≡◌, refl, sym, ◌∙◌}
use mathlib.Core.Bool.{Bool, true, false, not}
use lib.Dec.{eqb, ltb}
use mathlib.Core.Logic.{◌≢◌}
use borrow.Author.Tests.{eq-eqb, ne_eqb, lt-ltb, le-ltb, ltb-false, eqb-true, not-false}
use Rattle.grid.specs.declared.Part.{Part}
use Rattle.grid.specs.Channel.{pick}
use Rattle.grid.specs.View.{no_part, column_part}
use native.Mathlib.Omega.{arith}
use native.Mathlib.Nat.{mul-le-mul, mul-le-mul_right, suc-mul}

-- column c of w columns of s entries ends inside
pub part_end : (c w s : ℕ) → 1 ≤ c → c ≤ w → (c - 1) * s + s ≤ w * s
part_end c w s a b =
    let e : (c - 1) * s + s ≡ suc (c - 1) * s = sym (suc-mul (c - 1) s) in
    let f : suc (c - 1) * s ≤ w * s = mul-le-mul_right s (omega arith) in
    omega arith

-- the entries of the largest drawing
pub product_le : (a b : ℕ) → a ≤ 511 → b ≤ 1023 → a * b ≤ 522753
product_le a b h k = mul-le-mul h k

-- The part by the tests, each after those that came before it.
module _ (len w t c : ℕ) where
  -- w over 511
  pub too_wide : 511 < w → no_part ≡ column_part len w t c
  unfolding column_part
  too_wide h = simp (lt-ltb 511 w h)

  module _ (a : w ≤ 511) where
    -- t over 511
    pub too_tall : 511 < t → no_part ≡ column_part len w t c
    unfolding column_part
    too_tall h = simp (le-ltb 511 w a, lt-ltb 511 t h)

    module _ (b : t ≤ 511) where
      -- another length
      pub wrong_size_lem : len ≢ w * (2 * t + 1) → no_part ≡ column_part len w t c
      unfolding column_part
      wrong_size_lem h = simp (le-ltb 511 w a, le-ltb 511 t b, ne_eqb len (w * (2 * t + 1)) h)

      module _ (e : len ≡ w * (2 * t + 1)) where
        -- column 0
        pub no_column : c < 1 → no_part ≡ column_part len w t c
        unfolding column_part
        no_column h = simp (le-ltb 511 w a, le-ltb 511 t b, eq-eqb len (w * (2 * t + 1)) e, lt-ltb c 1 h)

        module _ (f : 1 ≤ c) where
          -- past the last column
          pub past_last : w < c → no_part ≡ column_part len w t c
          unfolding column_part
          past_last h = simp (le-ltb 511 w a, le-ltb 511 t b, eq-eqb len (w * (2 * t + 1)) e, le-ltb c 1 f, lt-ltb w c h)

          -- a column of the layout
          pub found : (p : Part) → p ≡ record { offset = (c - 1) * (2 * t + 1); length = 2 * t + 1 } → c ≤ w → p ≡ column_part len w t c
          unfolding column_part
          found p q h = q ∙ simp (le-ltb 511 w a, le-ltb 511 t b, eq-eqb len (w * (2 * t + 1)) e, le-ltb c 1 f, le-ltb w c h)

-- WHERE THE PART LIES: inside the layout, whose length is at most that of the largest drawing where the part is not empty
pub record Inside (len : ℕ) (p : Part) : Type 0 where
  pub ends : p.offset + p.length ≤ len
  pub small : p.offset + p.length ≤ 522753

nothing_inside : (len : ℕ) → Inside len no_part
nothing_inside len = record { ends = omega arith; small = omega arith }

-- by a test: none, or what it leaves
inside_or : (len : ℕ) (b : Bool) (p : Part) → (b ≡ false → Inside len p) → Inside len (pick b no_part p)
inside_or len true p f = nothing_inside len
inside_or len false p f = f refl

pub part_inside : (len w t c : ℕ) → Inside len (column_part len w t c)
unfolding column_part
part_inside len w t c =
    inside_or len (ltb 511 w) _ (λ a.
    inside_or len (ltb 511 t) _ (λ b.
    inside_or len (not (eqb len (w * (2 * t + 1)))) _ (λ e.
    inside_or len (ltb c 1) _ (λ f.
    inside_or len (ltb w c) (record { offset = (c - 1) * (2 * t + 1); length = 2 * t + 1 }) (λ h.
    let x = part_end c w (2 * t + 1) (ltb-false c 1 f) (ltb-false w c h) in
    let y = product_le w (2 * t + 1) (ltb-false 511 w a) (omega (arith, ltb-false 511 t b)) in
    let z = eqb-true len (w * (2 * t + 1)) (not-false _ e) in
    record { ends = omega arith; small = omega arith })))))
