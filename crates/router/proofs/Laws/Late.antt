-- Arrays and sets that hold gap c of a channel of two-pin nets hold gap c of each one with the same first c columns: no later column counts.
use Prim.Native.Nat.{ℕ, ◌≤◌, ◌<◌}
use mathlib.Core.Path.{◌≡◌, refl, sym, ap, subst, ◌∙◌}
use mathlib.Core.Bool.{Bool, true, false, not, ◌&&◌}
use mathlib.Core.List.{List}
use mathlib.Core.Logic.{⊎_elim, ◌≢◌}
use native.Mathlib.Omega.{arith}
use native.Mathlib.Decide.{ℕ_discrete}
use lib.Dec.{eqb, ltb}
use lib.ListN.{take, length, get_or, get_or-eq_default}
use Rattle.grid.specs.declared.Family.TheVariants.{TwoPin}
use Rattle.grid.specs.Channel.{times, left, right}
use Rattle.grid.specs.Working.{ByNet}
use Rattle.grid.proofs.Tests.{Below, below, above, below_by, below_or, le-ltb, and_none, not_both}
use Rattle.grid.proofs.Rows.{two_fit, left-right}
use Rattle.sweep.specs.Tracks.{many}
use Rattle.sweep.specs.Drawing.{later, gap}
use Rattle.router.specs.Working.{Holds, Spans, Keeps, extended_by}
use Rattle.sweep.proofs.Tracks.Strands.{many-times}
use Rattle.sweep.proofs.Gaps.Held.{Held, two_enough}
use Rattle.sweep.proofs.Gaps.Pins.{later_by}
use Rattle.sweep.proofs.Drawing.Sweep.{invariant}
use Rattle.sweep.proofs.Drawing.Beginning.{left_same, TwoPinOn, gap_same}

-- a net on a track has pins to come just if it has one of its two before
later_by-left : (t : ℕ) (top bottom : List ℕ) → TwoPinOn t top bottom → (c : ℕ) → c ≤ length top
    → (v : ℕ) → v ≢ 0 → 0 < times v (gap t top bottom c) → later top bottom c v ≡ ltb (left top bottom c v) 2
later_by-left t top bottom two c p v n s =
    both (later top bottom c v) (ltb (left top bottom c v) 2) (later_by top bottom c v n) (below_by (left top bottom c v) 2)
  where
    h : Held t top bottom c (gap t top bottom c)
    h = invariant t top bottom two.fit (two_enough t top bottom two.two two.dense) c p

    both : (q r : Bool) → Below 0 (right top bottom c v) q → Below (left top bottom c v) 2 r → q ≡ r
    both true true a b = refl
    both true false (below a) (above b) = absurd (omega (arith, two_fit top bottom two.fit two.two v (omega arith), left-right top bottom v c))
    both false true (above a) (below b) = absurd (omega (arith, h.few v n, two.fit.lone v (omega arith), left-right top bottom v c))
    both false false a b = refl

-- a net with no strands is not extended
none_extended : (last number : List ℕ) (c v : ℕ) → get_or number v 0 ≡ 0 → extended_by last number c v ≡ false
unfolding extended_by
none_extended last number c v e =
    and_none (not (eqb v 0)) (not (ltb c (get_or last v 0)) && ltb 0 (get_or number v 0))
    (and_none (not (ltb c (get_or last v 0))) (ltb 0 (get_or number v 0)) (le-ltb 0 (get_or number v 0) (omega arith)))

-- TWO CHANNELS of two-pin nets with the same first c columns
module _ (t c : ℕ) (top bottom top' bottom' first last first' last' : List ℕ) (one : TwoPinOn t top bottom) (other : TwoPinOn t top' bottom')
    (inside : c ≤ length top) (inside' : c ≤ length top') (tops : take c top ≡ take c top') (bottoms : take c bottom ≡ take c bottom')
    (spans : Spans top bottom first last) (spans' : Spans top' bottom' first' last') where
  -- in their gap c, which is the same, a net on a track has pins to come in both or in neither
  same_later : (v : ℕ) → v ≢ 0 → v ≤ 256 → 0 < times v (gap t top bottom c) → ltb c (get_or last v 0) ≡ ltb c (get_or last' v 0)
  same_later v n b p =
      sym (spans.after c v b)
      ∙ later_by-left t top bottom one c inside v n p
      ∙ ap (λ (f : ℕ → ℕ). ltb (f v) 2) (left_same t top bottom top' bottom' c tops bottoms c (omega arith))
      ∙ sym (later_by-left t top' bottom' other c inside' v n (subst (λ (l : List ℕ). 0 < times v l) same p))
      ∙ spans'.after c v b
    where
      same : gap t top bottom c ≡ gap t top' bottom' c
      same = gap_same t top bottom top' bottom' one other c inside inside' tops bottoms c (omega arith)

  module _ {number : List ℕ} (m : ByNet (λ v. many v (gap t top bottom c)) number) where
    -- and a net with strands is extended in both or in neither
    strands-extended : (v : ℕ) → v ≢ 0 → v < 257 → 0 < get_or number v 0 → extended_by last number c v ≡ extended_by last' number c v
    unfolding extended_by
    strands-extended v n b p =
        let e : get_or number v 0 ≡ times v (gap t top bottom c) = m.at v (omega arith) (omega arith) ∙ many-times v (gap t top bottom c) in
        ap (λ (q : Bool). not (eqb v 0) && (not q && ltb 0 (get_or number v 0))) (same_later v n (omega arith) (omega arith))

    -- so is every net
    same_extended : (v : ℕ) → extended_by last number c v ≡ extended_by last' number c v
    same_extended v = go (ℕ_discrete v 0)
      where
        none : get_or number v 0 ≡ 0 → extended_by last number c v ≡ extended_by last' number c v
        none e = none_extended last number c v e ∙ sym (none_extended last' number c v e)

        go : Dec (v ≡ 0) → extended_by last number c v ≡ extended_by last' number c v
        go (yes z) = unfold extended_by in rw z refl
        go (no n) =
            ⊎_elim
            (λ (b : v < 257).
            ⊎_elim (λ (p : 0 < get_or number v 0). strands-extended v n b p) (λ (p : get_or number v 0 ≤ 0). none (omega arith)) (below_or 0 (get_or number v 0)))
            (λ (b : 257 ≤ v). none (get_or-eq_default number 0 (omega (arith, m.size))))
            (below_or v 257)

-- THE ARRAYS AND SETS THAT HOLD GAP c OF ONE HOLD THAT OF THE OTHER
pub keeps_late : (t c : ℕ) (top bottom top' bottom' first last first' last' : List ℕ) {a f low high number s w : List ℕ}
    → TwoPinOn t top bottom → TwoPinOn t top' bottom' → c ≤ length top → c ≤ length top' → take c top ≡ take c top' → take c bottom ≡ take c bottom'
    → Spans top bottom first last → Spans top' bottom' first' last'
    → Keeps last t TwoPin c (gap t top bottom c) a f low high number s w → Keeps last' t TwoPin c (gap t top' bottom' c) a f low high number s w
keeps_late t c top bottom top' bottom' first last first' last' {a} {f} {low} {high} {number} one other inside inside' tops bottoms spans spans' k = record {
  holds = subst (λ (l : List ℕ). Holds t l a f low high number)
      (gap_same t top bottom top' bottom' one other c inside inside' tops bottoms c (omega arith)) k.holds;
  marked = λ v. record {
    extended = (k.marked v).extended
        ∙ same_extended t c top bottom top' bottom' first last first' last' one other inside inside' tops bottoms spans spans' k.holds.numbers v;
    wide = λ e. absurd (not_both refl e);
  };
}
