-- The arrays and sets as the sweep begins, and as it ends.
use Prim.Native.Nat.{ℕ, zero, suc, ◌≤◌, ◌<◌}
use mathlib.Core.Path.{◌≡◌, refl, sym, ap, subst, ◌∙◌}
use mathlib.Core.Bool.{Bool, false, not, ◌&&◌}
use mathlib.Core.List.{List, [], ◌∷◌}
use mathlib.Core.Logic.{⊎_elim}
use native.Mathlib.Omega.{arith}
use lib.Dec.{eqb, ltb}
use lib.ListN.{length, take, get_or, replicate, length-replicate, get_or-eq_default}
use Rattle.grid.proofs.Rows.{no_right}
use Rattle.grid.proofs.Tests.{and_none, below_or}
use Rattle.grid.specs.declared.Family.{Family}
use Rattle.grid.specs.Working.{ByNet}
use Rattle.sets.specs.Member.{member}
use Rattle.sweep.specs.Tracks.{strands, first, last, lowest, highest, many}
use Rattle.sweep.specs.Drawing
use Rattle.sweep.specs.Drawing.{state_by, state, gap, remains}
use Rattle.sweep.specs.Pairs.{no_mates}
use Rattle.pairs.specs.Working.{lone_by}
use Rattle.router.specs.Working.{tracks_in, Frees, Holds, Spans, Marked, Mated, AtGap, Remaining, extended_by, wide_by, blank, no_nets}
use Rattle.grid.proofs.Counting.{zeros}
use Rattle.sweep.proofs.Tracks.Changed.{no_strands}
use Rattle.router.proofs.Laws.Sweeps.{no_strands_over}

-- some of many zeros
take_zeros : (t n : ℕ) → t ≤ n → take t (replicate {A = ℕ} n 0) ≡ replicate t 0
take_zeros zero n h = refl
take_zeros (suc t) zero h = absurd (omega arith)
take_zeros (suc t) (suc n) h = ap (λ (l : List ℕ). 0 ∷ l) (take_zeros t n (omega arith))

-- zeros, where the tracks hold nothing and so g is 0
none_indexed : (g : List ℕ → ℕ) → g [] ≡ 0 → (t n : ℕ) → n ≡ 257 → ByNet (λ v. g (strands v (replicate t 0))) (replicate n 0)
unfolding strands
none_indexed g e t n en = record { size = length-replicate {A = ℕ} n 0 ∙ en; at = λ v h b. zeros n v ∙ sym (ap g (no_strands 1 v (replicate t 0) (λ i c q. omega (arith, zeros t i))) ∙ e) }

-- blank arrays hold gap 0
blank_holds : (top bottom : List ℕ) (t : ℕ) (a f l h n : List ℕ) → t ≤ 511 → a ≡ blank → Frees t blank f → l ≡ no_nets → h ≡ no_nets → n ≡ no_nets
    → Holds t (gap t top bottom 0) a f l h n
unfolding state_by blank no_nets lowest highest many first last
blank_holds top bottom t a f l h n b ea fr el eh en =
    rw (ea, el, eh, en)
    (record {
      fits = b;
      sized = length-replicate {A = ℕ} 512 0;
      nets = λ j. subst (λ (z : ℕ). z ≤ 256) (sym (zeros 512 j)) (omega arith);
      is = take_zeros t 511 b;
      frees = fr;
      lows = none_indexed first refl t 257 refl;
      highs = none_indexed last refl t 257 refl;
      numbers = none_indexed length refl t 257 refl;
    })

-- empty sets mark its nets
none_marked : (last n s w : List ℕ) (fam : Family) → n ≡ no_nets → ((k : ℕ) → member s k ≡ false) → ((k : ℕ) → member w k ≡ false) → Marked last n 0 s w fam
unfolding extended_by wide_by no_nets
none_marked last n s w fam en hs hw v =
    let z : get_or n v 0 ≡ 0 = ap (λ (l : List ℕ). get_or l v 0) en ∙ zeros 257 v in
    record {
      extended = hs v ∙ sym (rw z (ap (λ (y : Bool). not (eqb v 0) && y) (and_none (not (ltb 0 (get_or last v 0))) false refl) ∙ and_none (not (eqb v 0)) false refl));
      wide = λ _. hw v ∙ sym (rw z (ap (λ (y : Bool). not (eqb v 0) && y) (and_none (ltb 0 (get_or last v 0)) false refl) ∙ and_none (not (eqb v 0)) false refl));
    }

-- no net has a mate, and none is double
none_mated : (top bottom : List ℕ) (t : ℕ) (fam : Family) (n m q : List ℕ) → n ≡ no_nets → m ≡ no_nets → ((k : ℕ) → member q k ≡ false)
    → Mated fam (state t top bottom 0).mates n m q
unfolding state_by no_mates no_nets lone_by
none_mated top bottom t fam n m q en em hq = record {
  is = λ z. em;
  small = λ z j. omega (arith, ap (λ (l : List ℕ). get_or l j 0) em ∙ zeros 257 j);
  lone = λ z v. hq v ∙ sym (rw (ap (λ (l : List ℕ). get_or l v 0) en ∙ zeros 257 v) (and_none (not (eqb v 0)) false refl));
}

-- so the sweep begins
pub begins : (top bottom last : List ℕ) (t : ℕ) (fam : Family) (a f l h n s w m q : List ℕ) → t ≤ 511 → a ≡ blank → Frees t blank f → l ≡ no_nets → h ≡ no_nets → n ≡ no_nets
    → ((k : ℕ) → member s k ≡ false) → ((k : ℕ) → member w k ≡ false) → m ≡ no_nets → ((k : ℕ) → member q k ≡ false)
    → AtGap top bottom last t fam 0 a f l h n s w m q
begins top bottom last t fam a f l h n s w m q b ea fr el eh en hs hw em hq = record {
  keeps = record { holds = blank_holds top bottom t a f l h n b ea fr el eh en; marked = none_marked last n s w fam en hs hw };
  mated = none_mated top bottom t fam n m q en em hq;
}

-- after column n no net has pins
none_later : (top bottom : List ℕ) (v : ℕ) → length bottom ≡ length top → Drawing.later top bottom (length top) v ≡ false
unfolding Drawing.later
none_later top bottom v e = rw (no_right top bottom v (omega arith)) (and_none (not (eqb v 0)) false refl)

-- and the extended nets are those with strands
pub all_remain : (top bottom first last : List ℕ) {t : ℕ} {a f l h n : List ℕ} (s w : List ℕ) (fam : Family) → Spans top bottom first last → length bottom ≡ length top → Holds t (tracks_in t a) a f l h n
    → Marked last n (length top) s w fam → Remaining (tracks_in t a) s
unfolding extended_by remains
all_remain top bottom first last {t} {a} {f} {l} {h} {n} s w fam sp e hh so v =
    (so v).extended ∙ ⊎_elim (λ (b : v < 257). small v (omega arith)) (λ (b : 257 ≤ v). ap (λ (y : Bool). not (eqb v 0) && y) (large v b)) (below_or v 257)
  where
    small : (v : ℕ) → v ≤ 256 → (not (eqb v 0) && (not (ltb (length top) (get_or last v 0)) && ltb 0 (get_or n v 0))) ≡ (not (eqb v 0) && ltb 0 (many v (tracks_in t a)))
    small zero b = refl
    small (suc v) b =
        let z : ltb (length top) (get_or last (suc v) 0) ≡ false = sym (sp.after (length top) (suc v) b) ∙ none_later top bottom (suc v) e in
        rw (z, hh.numbers.at (suc v) (omega arith) b) refl

    large : (v : ℕ) → 257 ≤ v → (not (ltb (length top) (get_or last v 0)) && ltb 0 (get_or n v 0)) ≡ ltb 0 (many v (tracks_in t a))
    large v b =
        let z : get_or n v 0 ≡ 0 = get_or-eq_default n 0 (omega (arith, hh.numbers.size)) in
        let m : many v (tracks_in t a) ≡ 0 = no_strands_over hh v b in
        rw (z, m) (and_none (not (ltb (length top) (get_or last v 0))) false refl)
