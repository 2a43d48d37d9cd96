-- The second lowest strand of a net, as the tracks above its lowest are read.
use Prim.Native.Nat.{ℕ, suc, ◌+◌, ◌-◌, ◌≤◌, ◌<◌}
use mathlib.Core.Path.{◌≡◌, sym, ap, subst, ◌∙◌}
use mathlib.Core.List.{List}
use mathlib.Core.Logic.{⊎_elim}
use native.Mathlib.Nat.{le_antisymm}
use native.Mathlib.Omega.{arith}
use native.Mathlib.Numerals.{add-one}
use lib.ListN.{length, drop, get_or}
use Rattle.sweep.specs.Tracks.{strands_from, strands, first, lowest, highest, second}
use Rattle.router.specs.Working.{tracks_in}
use Rattle.grid.proofs.Tests.{below_or}
use Rattle.sweep.proofs.Tracks.Changed.{last_at_most, second_found, second_none}
use Rattle.sweep.proofs.Tracks.Strands.{between_from}
use Rattle.router.proofs.Laws.Arrays.{length-tracks, tracks_at_lem}

module _ (t : ℕ) (d : List ℕ) (h : t ≤ 511) (e : length d ≡ 512) (v : ℕ) where
  -- the highest strand is one of the tracks
  pub high_most : highest v (tracks_in t d) ≤ t
  unfolding highest strands
  high_most = omega (arith, last_at_most 0 v (tracks_in t d), length-tracks t d h e)

  -- the first strand above the lowest is the second
  pub second_scanned : (a y : ℕ) → a ≡ lowest v (tracks_in t d) → a ≤ y → y < t → get_or d (y + 1) 0 ≡ v → ((i : ℕ) → a < i → i ≤ y → get_or d i 0 ≡ v → ⊥) → y + 1 ≡ second v (tracks_in t d)
  unfolding lowest second strands
  second_scanned a y ea b yt g none =
      let at : a + (y - a) ≡ y = omega arith in
      let g' : get_or (tracks_in t d) (a + (y - a)) 0 ≡ v = ap (λ (k : ℕ). get_or (tracks_in t d) k 0) at ∙ tracks_at_lem t d y yt ∙ ap (λ (k : ℕ). get_or d k 0) (sym (add-one y)) ∙ g in
      let f : first (drop 1 (strands_from 1 v (tracks_in t d))) ≡ suc (a + (y - a)) =
      second_found v (tracks_in t d) a (y - a) ea (omega (arith, length-tracks t d h e)) g'
      (λ i c q. none (suc (a + i)) (omega arith) (omega arith) (sym (tracks_at_lem t d (a + i) (omega arith)) ∙ q)) in
      add-one y ∙ ap suc (sym at) ∙ sym f

  -- no strand above the lowest: no second
  pub second_absent : (a b y : ℕ) → a ≡ lowest v (tracks_in t d) → b ≡ highest v (tracks_in t d) → b ≤ y → ((i : ℕ) → a < i → i ≤ y → get_or d i 0 ≡ v → ⊥) → 0 ≡ second v (tracks_in t d)
  unfolding lowest highest second strands
  second_absent a b y ea eb by none =
      sym (second_none v (tracks_in t d) a ea
      (λ i c q.
      let w = between_from 1 v (tracks_in t d) (a + i) c q in
      none (suc (a + i)) (omega arith) (omega arith) (sym (tracks_at_lem t d (a + i) (omega (arith, length-tracks t d h e))) ∙ q)))

-- none up to y, and not y + 1
pub none_more : (a y : ℕ) (p : ℕ → Type 0) → ((i : ℕ) → a < i → i ≤ y → p i) → p (y + 1) → (i : ℕ) → a < i → i ≤ y + 1 → p i
none_more a y p h q i b c = ⊎_elim (λ l. h i b (omega arith)) (λ g. subst p (le_antisymm g c) q) (below_or i (y + 1))
