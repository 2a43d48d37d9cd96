-- How many tracks are enough; the invariant of the tracks in a gap, and what it says of two-pin channels.
use Prim.Native.Nat.{ℕ, ◌*◌, ◌-◌, ◌/◌, ◌≤◌, ◌<◌}
use mathlib.Core.Path.{◌≡◌, sym, ◌∙◌}
use mathlib.Core.Logic.{◌⊎◌, inl, inr, ◌≢◌, ⊎_elim}
use mathlib.Core.List.{List}
use native.Mathlib.Omega.{arith}
use lib.ListN.{length, replicate, length-replicate}
use Rattle.grid.specs.declared.Family.TheVariants.{TwoPin, ThreePin, ManyPin}
use Rattle.grid.specs.Channel.{times, left, right, density, family, tracks}
use Rattle.grid.proofs.Counting.{none_times, zeros}
use Rattle.grid.proofs.Rows.{RowsFit, two_fit, two_density, three_density, many-density, before, left-right}

-- THE TRACKS that the sweep of each family asks for
pub record Enough (t : ℕ) (top bottom : List ℕ) : Type 0 where
  pub two_pin : family top bottom ≡ TwoPin → density top bottom ≤ t
  pub three_pin : family top bottom ≡ ThreePin → 3 * density top bottom / 2 ≤ t
  pub many_pin : family top bottom ≡ ManyPin → 2 * density top bottom - 1 ≤ t

-- the channel's tracks are enough
pub tracks_enough : (top bottom : List ℕ) → Enough (tracks top bottom) top bottom
tracks_enough top bottom = record {
  two_pin = λ e. omega (arith, two_density top bottom e);
  three_pin = λ e. omega (arith, three_density top bottom e);
  many_pin = λ e. omega (arith, many-density top bottom e);
}

-- with two-pin nets as many as the density are, or more
pub two_enough : (t : ℕ) (top bottom : List ℕ) → family top bottom ≡ TwoPin → density top bottom ≤ t → Enough t top bottom
two_enough t top bottom e p = record {
  two_pin = λ i. p;
  three_pin = λ i. absurd (let z : ◌≡◌ {A = ℕ} 0 1 = cc in omega arith);
  many_pin = λ i. absurd (let z : ◌≡◌ {A = ℕ} 0 1 = cc in omega arith);
}

-- THE INVARIANT of the t tracks in gap c
pub record Held (t : ℕ) (top bottom : List ℕ) (c : ℕ) (tr : List ℕ) : Type 0 where
  pub size : length tr ≡ t
  -- an open net has a strand
  pub opens : (v : ℕ) → v ≢ 0 → 0 < left top bottom c v → 0 < right top bottom c v → 0 < times v tr
  -- a net whose pins all lie left has none, or is extended: it has two or more
  pub done : (v : ℕ) → v ≢ 0 → right top bottom c v ≡ 0 → (times v tr ≡ 0) ⊎ (2 ≤ times v tr)
  -- a net has no more strands than pins to the left
  pub few : (v : ℕ) → v ≢ 0 → times v tr ≤ left top bottom c v

-- in gap 0 all tracks are free
pub held_start : (t : ℕ) (top bottom : List ℕ) → Held t top bottom 0 (replicate t 0)
held_start t top bottom = record {
  size = length-replicate t 0;
  opens = λ v n l r. absurd (omega (arith, before top bottom v));
  done = λ v n r. inl (empty v n);
  few = λ v n. omega (arith, empty v n);
}
  where
    empty : (v : ℕ) → v ≢ 0 → times v (replicate t 0) ≡ 0
    empty v n = none_times v (replicate t 0) (λ j p e. n (sym e ∙ zeros t j))

module _ {t : ℕ} (top bottom : List ℕ) (fit : RowsFit top bottom) (c : ℕ) (tr : List ℕ) (h : Held t top bottom c tr) where
  -- where each net has two pins, an open net has one strand
  pub single : family top bottom ≡ TwoPin → (v : ℕ) → v ≢ 0 → 0 < right top bottom c v → times v tr ≤ 1
  single e v n r = omega (arith, two_fit top bottom fit e v (omega arith), left-right top bottom v c, h.few v n)

  -- and a net whose pins all lie left has none, or two
  pub double : family top bottom ≡ TwoPin → (v : ℕ) → v ≢ 0 → right top bottom c v ≡ 0 → (times v tr ≡ 0) ⊎ (times v tr ≡ 2)
  double e v n r =
      ⊎_elim inl (λ p. inr (omega (arith, two_fit top bottom fit e v (omega arith), left-right top bottom v c, h.few v n))) (h.done v n r)

  -- no net over 256 has a strand
  pub no_more : (v : ℕ) → 256 < v → times v tr ≡ 0
  no_more v p = omega (arith, h.few v (omega arith), fit.small v p, left-right top bottom v c)
