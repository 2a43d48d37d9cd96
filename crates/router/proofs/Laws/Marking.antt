-- The sets of extended and of wide nets from one gap to the next: they change for the column's nets alone; and the pairs.
use Prim.Native.Nat.{ℕ, zero, suc, ◌+◌, ◌≤◌, ◌<◌}
use mathlib.Core.Path.{◌≡◌, refl, sym, ap, ap₂, subst, ◌∙◌}
use mathlib.Core.Bool.{Bool, true, false, not, ◌&&◌}
use mathlib.Core.List.{List}
use mathlib.Core.Logic.{◌⊎◌, inl, inr, ⊎_elim, ◌≢◌}
use native.Mathlib.Numerals.{add-one}
use native.Mathlib.Omega.{arith}
use native.Mathlib.Decide.{ℕ_discrete}
use lib.Dec.{eqb, ltb}
use borrow.Author.Tests.{eqb-true, eqb-false}
use lib.ListN.{get_or, get_or-eq_default}
use Rattle.grid.proofs.Rows.{right_suc}
use Rattle.grid.proofs.Tests.{eqb_diff, and_none, below_or}
use Rattle.grid.specs.declared.Family.{Family}
use Rattle.grid.specs.Channel.{pick, right}
use Rattle.sweep.specs.declared.Move.{Move}
use Rattle.sweep.specs.Tracks.{after}
use Rattle.sweep.specs.Pairs.{unpair, pair_up}
use Rattle.sweep.specs.Drawing
use Rattle.sweep.specs.Drawing.{ending_at, mates_after}
use Rattle.pairs.specs.Working.{lone_by, ending_by, renewed, Numbers, MarksAllLone}
use Rattle.pairs.proofs.Renewal.{small_renewed}
use Rattle.router.specs.Working.{tracks_in, Holds, RowsAndLasts, Fitting, MarkedAt, Marked, MarksThree, Keeps, Mated, forms, OthersTold, PairsSettled, extended_by, wide_by}
use Rattle.sweep.proofs.Columns.Others.{others_stay}

-- a net with no pin in column c + 1 has as many pins after it as before it
later_next : (top bottom : List ℕ) (c v : ℕ) → v ≢ 0 → v ≢ get_or top c 0 → v ≢ get_or bottom c 0 → Drawing.later top bottom c v ≡ Drawing.later top bottom (suc c) v
unfolding Drawing.later
later_next top bottom c v n p q =
    let same : right top bottom c v ≡ right top bottom (suc c) v =
    omega (arith, right_suc top bottom v c n, eqb_diff (get_or top c 0) v (λ e. p (sym e)), eqb_diff (get_or bottom c 0) v (λ e. q (sym e))) in
    rw same refl

-- net 0 is never marked
pub zero_marked : (last n n' : List ℕ) (c c' : ℕ) (s w : List ℕ) (fam : Family) → MarkedAt last n c s w fam 0 → MarkedAt last n' c' s w fam 0
unfolding extended_by wide_by
zero_marked last n n' c c' s w fam r = record { extended = r.extended; wide = r.wide }

-- a net that the column does not touch has as many strands as before
number_stays : (top bottom : List ℕ) (c : ℕ) (x : Move) {t : ℕ} {a f l h n a' f' l' h' n' : List ℕ} → Holds t (tracks_in t a) a f l h n → Fitting top bottom c x (tracks_in t a)
    → Holds t (after x.action (tracks_in t a)) a' f' l' h' n' → (j : ℕ) → j ≢ 0 → j ≢ x.action.ended → j ≢ get_or top c 0 → j ≢ get_or bottom c 0 → get_or n' j 0 ≡ get_or n j 0
number_stays top bottom c x {t} {a} {f} {l} {h} {n} {a'} {f'} {l'} {h'} {n'} H ax H' j z d p q =
    ⊎_elim
    (λ (b : j < 257). H'.numbers.at j (omega arith) (omega arith)
    ∙ others_stay x.action (get_or top c 0) (get_or bottom c 0) j (tracks_in t a) ax.applies ax.plain (omega arith) d p q ∙ sym (H.numbers.at j (omega arith) (omega arith)))
    (λ (b : 257 ≤ j). get_or-eq_default n' 0 (omega (arith, H'.numbers.size)) ∙ sym (get_or-eq_default n 0 (omega (arith, H.numbers.size))))
    (below_or j 257)

module _ (top bottom last : List ℕ) (c : ℕ) (x : Move) {t : ℕ} {a f l h n a' f' l' h' n' s w : List ℕ} {fam : Family} where
  -- a net that the column does not touch is still marked as it is
  marked_stays : RowsAndLasts top bottom last
      → Holds t (tracks_in t a) a f l h n → Fitting top bottom c x (tracks_in t a) → Holds t (after x.action (tracks_in t a)) a' f' l' h' n'
      → (j : ℕ) → (j ≡ x.action.ended → ⊥) → (j ≡ get_or top c 0 → ⊥) → (j ≡ get_or bottom c 0 → ⊥) → MarkedAt last n c s w fam j → MarkedAt last n' (c + 1) s w fam j
  unfolding extended_by wide_by
  marked_stays sp H ax H' zero d p q r = zero_marked last n n' c (c + 1) s w fam r
  marked_stays sp H ax H' (suc j) d p q r = ⊎_elim small large (below_or (suc j) 257)
    where
      small : suc j < 257 → MarkedAt last n' (c + 1) s w fam (suc j)
      small b =
          let k : suc j ≤ 256 = omega arith in
          let m : get_or n' (suc j) 0 ≡ get_or n (suc j) 0 = number_stays top bottom c x H ax H' (suc j) (λ e. omega arith) d p q in
          let e : ltb (c + 1) (get_or last (suc j) 0) ≡ ltb c (get_or last (suc j) 0) =
          ap (λ (y : ℕ). ltb y (get_or last (suc j) 0)) (add-one c) ∙ sym (sp.lasts (suc c) (suc j) k)
          ∙ sym (later_next top bottom c (suc j) (λ e. omega arith) p q) ∙ sp.lasts c (suc j) k in
          record { extended = r.extended ∙ sym (rw (e, m) refl); wide = λ g. r.wide g ∙ sym (rw (e, m) refl) }

      large : 257 ≤ suc j → MarkedAt last n' (c + 1) s w fam (suc j)
      large b =
          let m : get_or n' (suc j) 0 ≡ 0 = get_or-eq_default n' 0 (omega (arith, H'.numbers.size)) in
          let o : get_or n (suc j) 0 ≡ 0 = get_or-eq_default n 0 (omega (arith, H.numbers.size)) in
          record {
            extended = r.extended ∙ rw (o, m) (ap (λ (y : Bool). not (eqb (suc j) 0) && y) (and_none (not (ltb c (get_or last (suc j) 0))) false refl ∙ sym (and_none (not (ltb (c + 1) (get_or last (suc j) 0))) false refl)));
            wide = λ g. r.wide g ∙ rw (o, m) (ap (λ (y : Bool). not (eqb (suc j) 0) && y) (and_none (ltb c (get_or last (suc j) 0)) false refl ∙ sym (and_none (ltb (c + 1) (get_or last (suc j) 0)) false refl)));
          }

  -- each net is one of the three that the column marks, or it is marked already
  marked_next : RowsAndLasts top bottom last
      → Holds t (tracks_in t a) a f l h n → Fitting top bottom c x (tracks_in t a) → Holds t (after x.action (tracks_in t a)) a' f' l' h' n'
      → Marked last n c s w fam → (j : ℕ) → (j ≡ x.action.ended) ⊎ ((j ≡ get_or top c 0) ⊎ ((j ≡ get_or bottom c 0) ⊎ MarkedAt last n' (c + 1) s w fam j))
  marked_next sp H ax H' so j = go (eqb j x.action.ended) (eqb j (get_or top c 0)) (eqb j (get_or bottom c 0)) refl refl refl
    where
      go : (p q r : Bool) → eqb j x.action.ended ≡ p → eqb j (get_or top c 0) ≡ q → eqb j (get_or bottom c 0) ≡ r
          → (j ≡ x.action.ended) ⊎ ((j ≡ get_or top c 0) ⊎ ((j ≡ get_or bottom c 0) ⊎ MarkedAt last n' (c + 1) s w fam j))
      go true q r e g k = inl (eqb-true j x.action.ended e)
      go false true r e g k = inr (inl (eqb-true j (get_or top c 0) g))
      go false false true e g k = inr (inr (inl (eqb-true j (get_or bottom c 0) k)))
      go false false false e g k =
          inr (inr (inr (marked_stays sp H ax H' j (eqb-false j x.action.ended e) (eqb-false j (get_or top c 0) g) (eqb-false j (get_or bottom c 0) k) (so j))))

  -- the arrays and sets after the column, k its number, once its three nets are marked
  settled : (k : ℕ) {s' w' : List ℕ} → k ≡ c + 1 → RowsAndLasts top bottom last
      → Keeps last t fam c (tracks_in t a) a f l h n s w → Fitting top bottom c x (tracks_in t a)
      → Holds t (after x.action (tracks_in t a)) a' f' l' h' n' → MarksThree last n' k fam x.action.ended (get_or top c 0) (get_or bottom c 0) s w s' w'
      → Keeps last t fam (c + 1) (after x.action (tracks_in t a)) a' f' l' h' n' s' w'
  settled k {s'} {w'} ek sp K ax H' E =
      record {
        holds = H';
        marked = λ j.
            subst (λ (z : ℕ). MarksThree last n' z fam x.action.ended (get_or top c 0) (get_or bottom c 0) s w s' w') ek E j
            (marked_next sp K.holds ax H' K.marked j);
      }

  -- and so with the column's pins u and v given as numbers
  pub settled_pins : (k u v : ℕ) {s' w' : List ℕ} → k ≡ c + 1 → get_or top c 0 ≡ u → get_or bottom c 0 ≡ v → RowsAndLasts top bottom last
      → Keeps last t fam c (tracks_in t a) a f l h n s w → Fitting top bottom c x (tracks_in t a)
      → Holds t (after x.action (tracks_in t a)) a' f' l' h' n' → MarksThree last n' k fam x.action.ended u v s w s' w'
      → Keeps last t fam (c + 1) (after x.action (tracks_in t a)) a' f' l' h' n' s' w'
  settled_pins k u v {s'} {w'} ek eu ev sp K ax H' E =
      settled k ek sp K ax H'
      (subst (λ (z : ℕ). MarksThree last n' k fam x.action.ended z (get_or bottom c 0) s w s' w') (sym eu)
      (subst (λ (z : ℕ). MarksThree last n' k fam x.action.ended u z s w s' w') (sym ev) E))

-- THE PAIRS
module _ (top bottom : List ℕ) (c : ℕ) (x : Move) {t : ℕ} {a f l h n a' f' l' h' n' m mates q : List ℕ} {fam : Family} where
  -- of the nets that the column, with the pins u and v, does not touch the set of the unpaired double nets still tells
  pub others_told : (u v : ℕ) → get_or top c 0 ≡ u → get_or bottom c 0 ≡ v → Mated fam m n mates q → Holds t (tracks_in t a) a f l h n
      → Fitting top bottom c x (tracks_in t a) → Holds t (after x.action (tracks_in t a)) a' f' l' h' n'
      → forms fam ≡ true → OthersTold n' mates q x.action.ended u v
  unfolding lone_by
  others_told u v eu ev M H ax H' e =
      subst (λ (z : ℕ). OthersTold n' mates q x.action.ended z v) eu
      (subst (λ (z : ℕ). OthersTold n' mates q x.action.ended (get_or top c 0) z) ev
      (record { small = M.small e; none = M.lone e 0; others = λ j d p r. M.lone e j ∙ same j d p r (ℕ_discrete j 0) }))
    where
      same : (j : ℕ) → j ≢ x.action.ended → j ≢ get_or top c 0 → j ≢ get_or bottom c 0 → Dec (j ≡ 0) → lone_by n mates j ≡ lone_by n' mates j
      same j d p r (yes z) = rw z refl
      same j d p r (no z) = ap (λ (k : ℕ). not (eqb j 0) && (eqb k 2 && eqb (get_or mates j 0) 0)) (sym (number_stays top bottom c x H ax H' j z d p r))

-- the mates after the column, k its number and u and v its pins
pub mates_settled : (top bottom last : List ℕ) (c k u v : ℕ) (x : Move) (number m mates q q' : List ℕ) → k ≡ c + 1 → get_or top c 0 ≡ u → get_or bottom c 0 ≡ v
    → RowsAndLasts top bottom last → (x.action.ended ≤ 256) × (x.double ≤ 256) × (x.single ≤ 256) → OthersTold number m q x.action.ended u v
    → mates ≡ renewed last k u v x.double x.single m
    → (Numbers x.action.ended u v x.double x.single m → MarksAllLone number m mates x.action.ended u v q q')
    → PairsSettled top bottom c x number m mates q'
mates_settled top bottom last c k u v x number m mates q q' ek eu ev r b o em tells = record {
  is = em ∙ renewed_is;
  small = λ j. subst (λ (z : List ℕ). get_or z j 0 ≤ 256) (sym em) (small_renewed 256 last m k u v x.double x.single j b.1 b.2 o.small);
  lone = tells (record {
    ended = omega (arith, b.0);
    above = omega (arith, above);
    below = omega (arith, below);
    double = omega (arith, b.1);
    single = omega (arith, b.2);
    mates = λ j. omega (arith, o.small j);
  }) o.none o.others;
}
  where
    above : u ≤ 256
    above = subst (λ (z : ℕ). z ≤ 256) eu (r.tops c)

    below : v ≤ 256
    below = subst (λ (z : ℕ). z ≤ 256) ev (r.bottoms c)

    ending_is : (i : ℕ) → i ≤ 256 → ending_by last k i ≡ ending_at top bottom c i
    ending_is i h = unfold ending_by ending_at in
        ap (λ (z : Bool). pick z 0 i) (ap (λ (j : ℕ). ltb j (get_or last i 0)) (ek ∙ add-one c) ∙ sym (r.lasts (suc c) i h))

    renewed_is : renewed last k u v x.double x.single m ≡ mates_after top bottom c x m
    renewed_is = unfold renewed mates_after in
        ap₂ (λ (i j : ℕ). pair_up x.double x.single (unpair j (unpair i m))) (ending_is u above ∙ ap (ending_at top bottom c) (sym eu))
        (ending_is v below ∙ ap (ending_at top bottom c) (sym ev))

-- where pairs are formed
pub mated_next : {top bottom : List ℕ} {c : ℕ} {x : Move} {n m mates q : List ℕ} (fam : Family) → (forms fam ≡ true → PairsSettled top bottom c x n m mates q)
    → Mated fam (mates_after top bottom c x m) n mates q
mated_next fam p = record { is = λ e. (p e).is; small = λ e. (p e).small; lone = λ e. (p e).lone }
