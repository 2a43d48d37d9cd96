-- What the mates and the set of the unpaired double nets say of a column of a three-pin channel.
use Prim.Native.Nat.{ℕ, zero, suc, ◌≤◌, ◌<◌}
use mathlib.Core.Path.{◌≡◌, refl, sym, ap, ap₂, subst, ◌∙◌}
use mathlib.Core.Bool.{Bool, true, false, not, ◌&&◌, ◌||◌}
use mathlib.Core.List.{List}
use mathlib.Core.Logic.{◌⊎◌, inl, inr, ⊎_elim, ◌≢◌}
use native.Mathlib.Omega.{arith}
use native.Mathlib.Decide.{ℕ_discrete}
use lib.Dec.{eqb, ltb}
use borrow.Author.Tests.{eq-eqb, ne_eqb, eqb-true, eqb-false}
use lib.ListN.{get_or, get_or-eq_default}
use Rattle.grid.specs.declared.Family.{Family}
use Rattle.grid.specs.declared.Family.TheVariants.{ThreePin}
use Rattle.grid.specs.Channel.{pick}
use Rattle.grid.specs.Nets.{last_column}
use Rattle.grid.proofs.Tests.{and_true, or_false, below_or}
use Rattle.sets.specs.Member.{member}
use Rattle.sweep.specs.declared.Pin.{Pin}
use Rattle.sweep.specs.declared.Joint.{Joint}
use Rattle.sweep.specs.declared.Double.{Double}
use Rattle.sweep.specs.declared.Free.{Free}
use Rattle.sweep.specs.declared.Move.{Move}
use Rattle.sweep.specs.Tracks.{many}
use Rattle.sweep.specs.Pairs.{latest_to}
use Rattle.sweep.specs.ThreePin.{still, choose_three}
use Rattle.sweep.specs.Working.{no_pins, join_alone}
use Rattle.sweep.specs.Drawing.{move_of, move, free_of, pin_at, extended_net, joint_of, end_of, lone_double, latest_double, other_double, double_of}
use Rattle.sweep.proofs.Rules.Seconds.{leaving, alone_same, three_same}
use Rattle.sweep.proofs.Rules.Empty.{extended-alone}
use Rattle.sweep.proofs.Rules.Doubles.{doubles_idle}
use Rattle.pairs.specs.Working.{lone_by, LoneAt, LeastAbove, but_for, double_by}
use Rattle.pairs.proofs.Laws.{skips}
use Rattle.router.specs.Working.{tracks_in, Holds, Spans, Ready, Marked, IsLowestJoint, ChosenThree, pin_by}
use Rattle.router.proofs.Laws.Lowest.{OnTrack, least_net, many_on}
use Rattle.router.proofs.Laws.Sweeps.{on_small, no_strands_over, nonzero, joint_is, extended_small, extended_is, top_is_lem, bottom_is_lem, net_is, column-move}

-- THE NET THAT ENDS LAST depends on the tests and the last columns alone
module _ (e e' : ℕ → ℕ) (p p' : ℕ → Bool) where
  latest_same : (k : ℕ) → ((v : ℕ) → v ≢ 0 → v ≤ k → e v ≡ e' v) → ((v : ℕ) → v ≢ 0 → v ≤ k → p v ≡ p' v)
      → (latest_to e p k ≡ latest_to e' p' k) × (latest_to e p k ≤ k)
  unfolding latest_to
  latest_same zero i j = (refl, omega arith)
  latest_same (suc k) i j =
      let (q, b) = latest_same k (λ v n h. i v n (omega arith)) (λ v n h. j v n (omega arith)) in
      (same (latest_to e p k) (latest_to e' p' k) q b, most (p (suc k) && (eqb (latest_to e p k) 0 || ltb (e (latest_to e p k)) (e (suc k)))) (latest_to e p k) b)
    where
      same : (u v : ℕ) → u ≡ v → u ≤ k → pick (p (suc k) && (eqb u 0 || ltb (e u) (e (suc k)))) (suc k) u ≡ pick (p' (suc k) && (eqb v 0 || ltb (e' v) (e' (suc k)))) (suc k) v
      same u v q b = go (ℕ_discrete u 0)
        where
          go : Dec (u ≡ 0) → pick (p (suc k) && (eqb u 0 || ltb (e u) (e (suc k)))) (suc k) u ≡ pick (p' (suc k) && (eqb v 0 || ltb (e' v) (e' (suc k)))) (suc k) v
          go (yes z) = rw (← q) (rw (j (suc k) (λ y. omega arith) (omega arith), eq-eqb u 0 z) refl)
          go (no z) = rw (← q) (rw (j (suc k) (λ y. omega arith) (omega arith), i (suc k) (λ y. omega arith) (omega arith), i u z (omega arith)) refl)

      most : (b : Bool) (u : ℕ) → u ≤ k → pick b (suc k) u ≤ suc k
      most true u h = omega arith
      most false u h = omega arith

module _ {t : ℕ} {d f low high number : List ℕ} (h : Holds t (tracks_in t d) d f low high number) (mates l : List ℕ) (told : (v : ℕ) → LoneAt number mates l v) where
  -- the tracks
  abbrev tr : List ℕ
  tr = tracks_in t d

  -- the numbers of strands
  number_is : (v : ℕ) → v ≢ 0 → get_or number v 0 ≡ many v tr
  number_is v n =
      ⊎_elim (λ (q : v < 257). h.numbers.at v (omega arith) (omega arith))
      (λ (q : 257 ≤ v). get_or-eq_default number 0 (omega (arith, h.numbers.size)) ∙ sym (no_strands_over h v q)) (below_or v 257)

  -- the set of the unpaired double nets by its test
  lone_is : (v : ℕ) → member l v ≡ lone_double tr mates v
  unfolding lone_by lone_double
  lone_is v = told v ∙ go (ℕ_discrete v 0)
    where
      go : Dec (v ≡ 0) → (not (eqb v 0) && (eqb (get_or number v 0) 2 && eqb (get_or mates v 0) 0)) ≡ (not (eqb v 0) && (eqb (many v tr) 2 && eqb (get_or mates v 0) 0))
      go (yes z) = rw (eq-eqb v 0 z) refl
      go (no n) = rw (number_is v n) refl

  -- its members are nets on the tracks
  lone_on : (v : ℕ) → lone_double tr mates v ≡ true → (0 < v) × (v ≤ 256) × OnTrack v tr
  unfolding lone_double
  lone_on v e =
      let a = and_true (not (eqb v 0)) _ e in
      let b = and_true (eqb (many v tr) 2) _ a.1 in
      let o = many_on v tr (omega (arith, eqb-true (many v tr) 2 b.0)) in
      (nonzero v a.0, on_small h v o, o)

  module _ (top bottom first last : List ℕ) (sp : Spans top bottom first last) where
    -- the last column of a net that is there
    last_is : (v : ℕ) → v ≢ 0 → v ≤ 256 → get_or last v 0 ≡ last_column top bottom v
    unfolding end_of
    last_is v n b = sp.ends v b ∙ rw (ne_eqb v 0 n) refl

    -- no member is over 256
    none_more : (j : ℕ) → 256 < j → member l j ≡ false
    none_more j q = go (member l j) refl
      where
        go : (b : Bool) → member l j ≡ b → member l j ≡ false
        go true e = absurd (omega (arith, (lone_on j (sym (lone_is j) ∙ e)).1))
        go false e = e

    -- the one that ends last
    latest_is : (latest_to (λ v. get_or last v 0) (member l) 511 ≡ latest_double top bottom tr mates) × (latest_double top bottom tr mates ≤ 256)
    unfolding latest_double
    latest_is =
        let (q, b) = latest_same (λ v. get_or last v 0) (last_column top bottom) (member l) (lone_double tr mates) 256 last_is (λ v n k. lone_is v) in
        (skips (λ v. get_or last v 0) (member l) 256 255 (λ j x y. none_more j x) ∙ q, omega (arith, q))

    -- the lowest other one
    other_is : (v w : ℕ) → v ≡ latest_double top bottom tr mates → LeastAbove (but_for l v) 0 w → (w ≡ other_double top bottom tr mates) × (w ≤ 256)
    unfolding other_double
    other_is v w e n = (
      least_net (λ u. lone_double tr mates u && not (eqb u (latest_double top bottom tr mates))) tr (but_for l v) w record { only = only; all = all } n,
      small (ℕ_discrete w 0),
    )
      where
        test : (u : ℕ) → but_for l v u ≡ (lone_double tr mates u && not (eqb u (latest_double top bottom tr mates)))
        test u = ap₂ (λ (x : Bool) (y : ℕ). x && not (eqb u y)) (lone_is u) e

        only : (u : ℕ) → but_for l v u ≡ true → (0 < u) × ((lone_double tr mates u && not (eqb u (latest_double top bottom tr mates))) ≡ true) × OnTrack u tr
        only u i = let (x, y, z) = lone_on u (and_true (lone_double tr mates u) _ (sym (test u) ∙ i)).0 in (x, sym (test u) ∙ i, z)

        all : (u : ℕ) → OnTrack u tr → 0 < u → (lone_double tr mates u && not (eqb u (latest_double top bottom tr mates))) ≡ true → (u < 512) × (but_for l v u ≡ true)
        all u o x i = (omega (arith, on_small h u o), test u ∙ i)

        small : Dec (w ≡ 0) → w ≤ 256
        small (yes z) = omega arith
        small (no z) = on_small h w (only w (n.found z).1).2

    -- a net as a double net
    double_is : (v : ℕ) → v ≤ 256 → double_by last low high v ≡ double_of top bottom tr v
    unfolding double_by double_of
    double_is zero b = refl
    double_is (suc v) b =
        let p : 0 < suc v = omega arith in
        rw (ne_eqb (suc v) 0 (λ e. omega arith), h.lows.at (suc v) p b, h.highs.at (suc v) p b, last_is (suc v) (λ e. omega arith) b)

-- the net of a pin is numbered up to 256
pub pin_small : (f l a b m c v : ℕ) (A : Pin) → v ≤ 256 → A ≡ pin_by f l a b m c v → A.net ≤ 256
unfolding pin_by
pin_small f l a b m c zero A h e = omega (arith, ap (λ (z : Pin). z.net) e)
pin_small f l a b m c (suc v) A h e =
    let i : (pin_by f l a b m c (suc v)).net ≡ suc v = rw (ne_eqb (suc v) 0 (λ z. omega arith)) refl in
    omega (arith, ap (λ (z : Pin). z.net) e ∙ i)

-- A COLUMN, from what its functions found
module _ (top bottom first last : List ℕ) {t : ℕ} {d f low high number s w : List ℕ} {fam : Family} (c : ℕ) (A B : Pin) (x : Move)
    (h : Holds t (tracks_in t d) d f low high number) (so : Marked last number c s w fam) (mates l : List ℕ) (told : (v : ℕ) → LoneAt number mates l v)
    (ea : A ≡ pin_by (get_or first (get_or top c 0) 0) (get_or last (get_or top c 0) 0) (get_or low (get_or top c 0) 0) (get_or high (get_or top c 0) 0) (get_or number (get_or top c 0) 0) c (get_or top c 0))
    (eb : B ≡ pin_by (get_or first (get_or bottom c 0) 0) (get_or last (get_or bottom c 0) 0) (get_or low (get_or bottom c 0) 0) (get_or high (get_or bottom c 0) 0) (get_or number (get_or bottom c 0) 0) c (get_or bottom c 0)) where
  -- its last column
  end_is : (v : ℕ) (C : Pin) → v ≤ 256 → C ≡ pin_at top bottom c (tracks_in t d) v → {p : Family} → Ready top bottom first last t p → get_or last C.net 0 ≡ end_of top bottom v
  end_is v C b e r = ap (λ (z : Pin). get_or last z.net 0) e ∙ ap (λ (z : ℕ). get_or last z 0) (net_is top bottom c (tracks_in t d) v) ∙ r.spans.ends v b

  -- the move is that of the sweep
  pub column_three_is : fam ≡ ThreePin → Ready top bottom first last t fam → ChosenThree t A B last low high s l (tracks_in t d) c x
      → x ≡ move t top bottom c (tracks_in t d) mates
  unfolding move_of
  column_three_is m r ex =
      let sp = r.spans in
      let tr : List ℕ = tracks_in t d in
      let J : Joint = joint_of top bottom c tr (extended_net top bottom c tr) in
      let D : Double = double_of top bottom tr (latest_double top bottom tr mates) in
      let M : Double = double_of top bottom tr (other_double top bottom tr mates) in
      let p : A ≡ pin_at top bottom c tr (get_or top c 0) = top_is_lem top bottom first last c A B h so ea eb r in
      let q : B ≡ pin_at top bottom c tr (get_or bottom c 0) = bottom_is_lem top bottom first last c A B h so ea eb r in
      let (la, lb) = latest_is h mates l told top bottom first last sp in
      let e : x ≡ pick (no_pins A B) (still (join_alone (leaving J))) (choose_three t A B (get_or last A.net 0) (get_or last B.net 0) (free_of tr) (leaving J) D M) =
      ex (leaving J) D M
      (λ v nx.
      joint_is top bottom first last sp h c v (extended_small top bottom first last sp h c so v nx)
      ∙ ap (λ (u : ℕ). leaving (joint_of top bottom c tr u)) (extended_is top bottom first last sp h c so v nx))
      (ap (double_by last low high) la ∙ double_is h mates l told top bottom first last sp (latest_double top bottom tr mates) lb)
      (λ v lv. let (o, b) = other_is h mates l told top bottom first last sp _ v la lv in double_is h mates l told top bottom first last sp v b ∙ ap (double_of top bottom tr) o) in
      let k : choose_three t A B (get_or last A.net 0) (get_or last B.net 0) (free_of tr) (leaving J) D M ≡ choose_three t A B (get_or last A.net 0) (get_or last B.net 0) (free_of tr) J D M =
      three_same A B (free_of tr) J t (get_or last A.net 0) (get_or last B.net 0) D M in
      let y : get_or last A.net 0 ≡ end_of top bottom (get_or top c 0) = end_is (get_or top c 0) A (r.tops c) p r in
      let z : get_or last B.net 0 ≡ end_of top bottom (get_or bottom c 0) = end_is (get_or bottom c 0) B (r.bottoms c) q r in
      column-move top bottom first last c A B h so ea eb r mates x (join_alone (leaving J)) _ (λ i. alone_same J ∙ extended-alone top bottom c tr) (rw m (k ∙ ap₂ (λ (i j : ℕ). choose_three t A B i j (free_of tr) J D M) y z ∙ ap₂ (λ (i j : Pin). choose_three t i j (end_of top bottom (get_or top c 0)) (end_of top bottom (get_or bottom c 0)) (free_of tr) J D M) p q)) e

-- WHAT THE FUNCTION OF A COLUMN FOUND
module _ (t : ℕ) (A B : Pin) (last low high s l tr : List ℕ) (c : ℕ) (x : Move) (f : Free) (n : Joint) (ef : f ≡ free_of tr) (en : IsLowestJoint last low high s tr c n) where
  -- with the unpaired double nets
  asked_three : (v w : ℕ) (D M : Double) → v ≡ latest_to (λ u. get_or last u 0) (member l) 511 → LeastAbove (but_for l v) 0 w → D ≡ double_by last low high v → M ≡ double_by last low high w
      → x ≡ pick (no_pins A B) (still (join_alone n)) (choose_three t A B (get_or last A.net 0) (get_or last B.net 0) f n D M) → ChosenThree t A B last low high s l tr c x
  asked_three v w D M ev lw e_d e_m ex N D' M' l_n l_d l_m =
      let i : n ≡ N = en N l_n in
      let j : D ≡ D' = e_d ∙ ap (double_by last low high) ev ∙ l_d in
      let k : M ≡ M' = e_m ∙ l_m w (subst (λ (u : ℕ). LeastAbove (but_for l u) 0 w) ev lw) in
      ex ∙ rw (ef, i, j, k) refl

  -- or without, where the column does not ask for them
  idle_three : (D M : Double) → (eqb n.net 0 && (eqb A.kind 1 || eqb B.kind 1)) ≡ false
      → x ≡ pick (no_pins A B) (still (join_alone n)) (choose_three t A B (get_or last A.net 0) (get_or last B.net 0) f n D M) → ChosenThree t A B last low high s l tr c x
  idle_three D M z ex N D' M' l_n l_d l_m =
      let i : n ≡ N = en N l_n in
      ex ∙ ap (pick (no_pins A B) (still (join_alone n))) (doubles_idle A B (get_or last A.net 0) (get_or last B.net 0) f n D M D' M' t (inl idle)) ∙ rw (ef, i) refl
    where
      idle : ((A.kind ≢ 1) × (B.kind ≢ 1)) ⊎ (n.net ≢ 0)
      idle = go (eqb n.net 0) refl z
        where
          go : (q : Bool) → eqb n.net 0 ≡ q → (q && (eqb A.kind 1 || eqb B.kind 1)) ≡ false → ((A.kind ≢ 1) × (B.kind ≢ 1)) ⊎ (n.net ≢ 0)
          go true e y = let (a, b) = or_false (eqb A.kind 1) (eqb B.kind 1) y in inl (eqb-false A.kind 1 a, eqb-false B.kind 1 b)
          go false e y = inr (eqb-false n.net 0 e)

  -- one or the other
  pub found_three : (b : Bool) (v w : ℕ) (D M : Double) → b ≡ (eqb n.net 0 && (eqb A.kind 1 || eqb B.kind 1))
      → (b ≡ true → v ≡ latest_to (λ u. get_or last u 0) (member l) 511) → (b ≡ true → LeastAbove (but_for l v) 0 w) → D ≡ double_by last low high v → M ≡ double_by last low high w
      → x ≡ pick (no_pins A B) (still (join_alone n)) (choose_three t A B (get_or last A.net 0) (get_or last B.net 0) f n D M) → ChosenThree t A B last low high s l tr c x
  found_three true v w D M eb ev lw e_d e_m ex = asked_three v w D M (ev refl) (lw refl) e_d e_m ex
  found_three false v w D M eb ev lw e_d e_m ex = idle_three D M (sym eb) ex
