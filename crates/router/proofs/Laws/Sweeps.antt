-- What the arrays and sets say of a column.
use Prim.Native.Nat.{ℕ, zero, suc, ◌+◌, ◌≤◌, ◌<◌}
use mathlib.Core.Path.{◌≡◌, refl, sym, ap, subst, ◌∙◌}
use mathlib.Core.Bool.{Bool, true, false, not, ◌&&◌}
use mathlib.Core.List.{List}
use mathlib.Core.Logic.{inl, inr, ⊎_elim}
use native.Mathlib.Numerals.{add-one}
use native.Mathlib.Omega.{arith}
use lib.Dec.{eqb, ltb, leb}
use borrow.Author.Tests.{eq-eqb, ne_eqb, lt-ltb, ltb-true}
use lib.ListN.{get_or, get_or-eq_default}
use Rattle.grid.specs.declared.Family.{Family}
use Rattle.grid.specs.declared.Family.TheVariants.{TwoPin, ManyPin}
use Rattle.grid.specs.Channel.{pick, family}
use Rattle.grid.proofs.Tests.{and_true, below_or, not_both}
use Rattle.sets.specs.Member.{member}
use Rattle.sweep.specs.declared.Action.{Action}
use Rattle.sweep.specs.declared.Pin.{Pin}
use Rattle.sweep.specs.declared.Joint.{Joint}
use Rattle.sweep.specs.declared.Move.{Move}
use Rattle.sweep.specs.Tracks.{second, many}
use Rattle.sweep.specs.TwoPin.{choose_two}
use Rattle.sweep.specs.ManyPin.{choose_many}
use Rattle.sweep.specs.Drawing
use Rattle.sweep.specs.ThreePin.{still}
use Rattle.sweep.specs.Working.{no_pins, join_alone, Kinded}
use Rattle.sweep.specs.Drawing.{move_of, move, kind_by, free_of, pin_at, extended_at, wide_at, extended_net, net_to_join, joint_of, empty_at, empty_column}
use Rattle.router.specs.Working.{tracks_in, Holds, Spans, Ready, Marked, narrow, Next, ToJoin, ChosenTwo, ChosenMany, pin_by, extended_by, wide_by, joint_by}
use Rattle.router.proofs.Laws.Arrays.{length-tracks, tracks_at_lem}
use Rattle.sweep.proofs.Rules.Seconds.{leaving, alone_same, two_same, many_same}
use Rattle.sweep.proofs.Rules.Empty.{extended-alone, to_join_alone}
use Rattle.router.proofs.Laws.Lowest.{OnTrack, Gathers, lowest_net_lem, many_on, on_many}

-- a kind is a number up to 3
kind_bound : (p q : Bool) → kind_by p q ≤ 3
kind_bound false q = omega arith
kind_bound true true = omega arith
kind_bound true false = omega arith

-- a pin's kind is a number up to 3
pub pin_kind : (f l a b m c v : ℕ) (A : Pin) → A ≡ pin_by f l a b m c v → A.kind ≤ 3
unfolding pin_by
pin_kind f l a b m c v A e = subst (λ (x : Pin). x.kind ≤ 3) (sym e) (go (eqb v 0))
  where
    none : 0 ≤ 3
    none = omega arith

    go : (p : Bool) → (pick {A = Pin} p (record { net = 0; kind = 0; low = 0; high = 0; many = 0 })
        (record { net = v; kind = kind_by (not (eqb f 0) && leb f c) (ltb (c + 1) l); low = a; high = b; many = m })).kind ≤ 3
    go true = none
    go false = kind_bound (not (eqb f 0) && leb f c) (ltb (c + 1) l)

-- and 0 just where it has no net
pub pin_kinded : (f l a b m c v : ℕ) (A : Pin) → A ≡ pin_by f l a b m c v → Kinded A
unfolding pin_by
pin_kinded f l a b m c v A e = subst Kinded (sym e) (go (eqb v 0) refl)
  where
    some : (p q : Bool) → kind_by p q ≡ 0 → v ≡ 0
    some false q z = absurd (omega arith)
    some true true z = absurd (omega arith)
    some true false z = absurd (omega arith)

    go : (p : Bool) → eqb v 0 ≡ p → Kinded (pick {A = Pin} p (record { net = 0; kind = 0; low = 0; high = 0; many = 0 })
        (record { net = v; kind = kind_by (not (eqb f 0) && leb f c) (ltb (c + 1) l); low = a; high = b; many = m }))
    go true z = (λ i. refl, λ i. refl)
    go false z = (some (not (eqb f 0) && leb f c) (ltb (c + 1) l), λ i. absurd (not_both (eq-eqb v 0 i) z))

-- a net on the tracks is numbered up to 256
pub on_small : {t : ℕ} {tr d f l h n : List ℕ} → Holds t tr d f l h n → (v : ℕ) → OnTrack v (tracks_in t d) → v ≤ 256
on_small {t} {tr} {d} w v o =
    subst (λ (k : ℕ). k ≤ 256) (sym (tracks_at_lem t d o.0 (omega (arith, o.1, length-tracks t d w.fits w.sized))) ∙ o.2) (w.nets (suc o.0))

-- so a net over 256 has no strand
pub no_strands_over : {t : ℕ} {tr d f l h n : List ℕ} → Holds t tr d f l h n → (v : ℕ) → 257 ≤ v → many v (tracks_in t d) ≡ 0
no_strands_over {t} {tr} {d} w v b =
    ⊎_elim (λ (q : 0 < many v (tracks_in t d)). absurd (omega (arith, on_small w v (many_on v (tracks_in t d) q)))) (λ (q : many v (tracks_in t d) ≤ 0). omega arith)
    (below_or 0 (many v (tracks_in t d)))

-- ---- a column

-- a number that is not 0
pub nonzero : (v : ℕ) → not (eqb v 0) ≡ true → 0 < v
nonzero zero e = let z : ◌≡◌ {A = ℕ} 0 1 = cc in absurd (omega arith)
nonzero (suc v) e = omega arith

module _ (top bottom first last : List ℕ) (sp : Spans top bottom first last) {t : ℕ} {d f low high number : List ℕ} (h : Holds t (tracks_in t d) d f low high number) (c : ℕ) where
  -- the tracks
  abbrev tr : List ℕ
  tr = tracks_in t d

  -- the pin by the arrays is the pin
  pin_is : (v : ℕ) → v ≤ 256 → pin_by (get_or first v 0) (get_or last v 0) (get_or low v 0) (get_or high v 0) (get_or number v 0) c v ≡ pin_at top bottom c tr v
  unfolding pin_by pin_at
  pin_is zero b = refl
  pin_is (suc v) b =
      let p : 0 < suc v = omega arith in
      rw (sp.before c (suc v) p b, sp.after (suc c) (suc v) b, h.lows.at (suc v) p b, h.highs.at (suc v) p b, h.numbers.at (suc v) p b, add-one c)

  -- so is the net of rule 2, but for the second lowest strand where it does not leave on that one
  pub joint_is : (v : ℕ) → v ≤ 256 → joint_by (get_or last v 0) (get_or low v 0) (second v tr) (get_or high v 0) c v ≡ leaving (joint_of top bottom c tr v)
  unfolding joint_by joint_of
  joint_is zero b = refl
  joint_is (suc v) b =
      let p : 0 < suc v = omega arith in
      rw (ne_eqb (suc v) 0 (λ e. omega arith), sp.after (suc c) (suc v) b, h.lows.at (suc v) p b, h.highs.at (suc v) p b, add-one c)

  module _ {s w : List ℕ} {fam : Family} (so : Marked last number c s w fam) where
    -- a member is a net with strands
    counted : (v : ℕ) → 0 < v → 0 < get_or number v 0 → (v ≤ 256) × (0 < many v tr)
    counted v p q =
        ⊎_elim (λ (l : v < 257). (omega arith, subst (λ (k : ℕ). 0 < k) (h.numbers.at v p (omega arith)) q))
        (λ (l : 257 ≤ v). let z : get_or number v 0 ≡ 0 = get_or-eq_default number 0 (omega (arith, h.numbers.size)) in absurd (omega arith)) (below_or v 257)

    -- the set of extended nets by its test
    extended_gathers : Gathers (extended_at top bottom c) tr (member s)
    unfolding extended_by extended_at
    extended_gathers = record { only = λ v e. back v (sym (so v).extended ∙ e); all = there }
      where
        back : (v : ℕ) → (not (eqb v 0) && (not (ltb c (get_or last v 0)) && ltb 0 (get_or number v 0))) ≡ true → (0 < v) × (extended_at top bottom c v ≡ true) × OnTrack v tr
        back v e =
            let a = and_true (not (eqb v 0)) _ e in
            let b = and_true (not (ltb c (get_or last v 0))) _ a.1 in
            let p : 0 < v = nonzero v a.0 in
            let k = counted v p (ltb-true 0 (get_or number v 0) b.1) in
            (p, rw (sp.after c v k.0, b.0, a.0) refl, many_on v tr k.1)

        there : (v : ℕ) → OnTrack v tr → 0 < v → extended_at top bottom c v ≡ true → (v < 512) × (member s v ≡ true)
        there v o p e =
            let b : v ≤ 256 = on_small h v o in
            let a = and_true (not (eqb v 0)) _ e in
            let m : 0 < get_or number v 0 = subst (λ (k : ℕ). 0 < k) (sym (h.numbers.at v p b)) (on_many v tr o) in
            (omega arith, (so v).extended ∙ rw (a.0, sym (sp.after c v b), a.1, lt-ltb 0 (get_or number v 0) m) refl)

    -- the set of wide nets by its test
    wide_gathers : narrow fam ≡ false → Gathers (wide_at top bottom c tr) tr (member w)
    unfolding wide_by wide_at
    wide_gathers m = record { only = λ v e. back v (sym ((so v).wide m) ∙ e); all = there }
      where
        back : (v : ℕ) → (not (eqb v 0) && (ltb c (get_or last v 0) && ltb 2 (get_or number v 0))) ≡ true → (0 < v) × (wide_at top bottom c tr v ≡ true) × OnTrack v tr
        back v e =
            let a = and_true (not (eqb v 0)) _ e in
            let b = and_true (ltb c (get_or last v 0)) _ a.1 in
            let p : 0 < v = nonzero v a.0 in
            let n : 2 < get_or number v 0 = ltb-true 2 (get_or number v 0) b.1 in
            let k = counted v p (omega arith) in
            (p, rw (sp.after c v k.0, b.0, sym (h.numbers.at v p k.0), b.1) refl, many_on v tr k.1)

        there : (v : ℕ) → OnTrack v tr → 0 < v → wide_at top bottom c tr v ≡ true → (v < 512) × (member w v ≡ true)
        there v o p e =
            let b : v ≤ 256 = on_small h v o in
            let a = and_true (Drawing.later top bottom c v) _ e in
            (omega arith, (so v).wide m ∙ rw (ne_eqb v 0 (λ q. omega arith), sym (sp.after c v b), a.0, h.numbers.at v p b, a.1) refl)

    -- its lowest is the extended net
    pub extended_is : (v : ℕ) → Next s 0 v → v ≡ extended_net top bottom c tr
    unfolding extended_net
    extended_is v n = lowest_net_lem (extended_at top bottom c) tr s v extended_gathers n

    -- the net of rule 2 of a many-pin channel
    to_join_is : narrow fam ≡ false → (v : ℕ) → ToJoin s w v → v ≡ net_to_join top bottom c tr
    unfolding net_to_join
    to_join_is m v (inl n) =
        let e : v ≡ extended_net top bottom c tr = extended_is v n.0 in
        e ∙ sym (rw (ne_eqb (extended_net top bottom c tr) 0 (λ q. n.1 (e ∙ q))) refl)
    to_join_is m v (inr n) =
        let e : extended_net top bottom c tr ≡ 0 = sym (extended_is 0 n.0) in
        lowest_net_lem (wide_at top bottom c tr) tr w v (wide_gathers m) n.1 ∙ sym (rw (eq-eqb (extended_net top bottom c tr) 0 e) refl)

    -- the net of rule 2 is numbered up to 256
    next_small : (u : List ℕ) (p : ℕ → Bool) (v : ℕ) → Gathers p tr (member u) → Next u 0 v → v ≤ 256
    next_small u p zero m n = omega arith
    next_small u p (suc v) m n =
        let e : suc v ≡ n.place = omega (arith, n.is, n.least.high) in
        on_small h (suc v) (m.only (suc v) (ap (member u) e ∙ n.least.found (omega arith))).2

    -- an extended net is numbered up to 256
    pub extended_small : (v : ℕ) → Next s 0 v → v ≤ 256
    extended_small v n = next_small s (extended_at top bottom c) v extended_gathers n

    -- so is the net of rule 2 of a many-pin channel
    pub to_join_small : narrow fam ≡ false → (v : ℕ) → ToJoin s w v → v ≤ 256
    to_join_small m v (inl n) = extended_small v n.0
    to_join_small m v (inr n) = next_small w (wide_at top bottom c tr) v (wide_gathers m) n.1

-- the net of a pin
pub net_is : (top bottom : List ℕ) (c : ℕ) (tr : List ℕ) (v : ℕ) → (pin_at top bottom c tr v).net ≡ v
unfolding pin_at
net_is top bottom c tr zero = refl
net_is top bottom c tr (suc v) = rw (ne_eqb (suc v) 0 (λ e. omega arith)) refl

-- a choice of two actions, as moves without a pair
pick-still : (q : Bool) (x y : Action) → still (pick q x y) ≡ pick q (still x) (still y)
pick-still true x y = refl
pick-still false x y = refl

-- a column, from what its functions found
module _ (top bottom first last : List ℕ) {t : ℕ} {d f low high number s w : List ℕ} {fam : Family} (c : ℕ) (A B : Pin)
    (h : Holds t (tracks_in t d) d f low high number) (so : Marked last number c s w fam)
    (ea : A ≡ pin_by (get_or first (get_or top c 0) 0) (get_or last (get_or top c 0) 0) (get_or low (get_or top c 0) 0) (get_or high (get_or top c 0) 0) (get_or number (get_or top c 0) 0) c (get_or top c 0))
    (eb : B ≡ pin_by (get_or first (get_or bottom c 0) 0) (get_or last (get_or bottom c 0) 0) (get_or low (get_or bottom c 0) 0) (get_or high (get_or bottom c 0) 0) (get_or number (get_or bottom c 0) 0) c (get_or bottom c 0)) where
  -- its top pin
  pub top_is_lem : {p : Family} → Ready top bottom first last t p → A ≡ pin_at top bottom c (tracks_in t d) (get_or top c 0)
  top_is_lem r = ea ∙ pin_is top bottom first last r.spans h c (get_or top c 0) (r.tops c)

  -- its bottom pin
  pub bottom_is_lem : {p : Family} → Ready top bottom first last t p → B ≡ pin_at top bottom c (tracks_in t d) (get_or bottom c 0)
  bottom_is_lem r = eb ∙ pin_is top bottom first last r.spans h c (get_or bottom c 0) (r.bottoms c)

  -- what it does without pins, and else by the rules of its family, is its move
  pub column-move : Ready top bottom first last t fam → (mates : List ℕ) (y : Move) (e : Action) (x : Move)
      → (empty_at top bottom c ≡ true → e ≡ empty_column top bottom c (tracks_in t d)) → x ≡ move_of t top bottom fam c (tracks_in t d) mates
      → y ≡ pick (no_pins A B) (still e) x → y ≡ move t top bottom c (tracks_in t d) mates
  unfolding move empty_at
  column-move r mates y e x i j k =
      let a : A.net ≡ get_or top c 0 = ap (λ (z : Pin). z.net) (top_is_lem r) ∙ net_is top bottom c (tracks_in t d) (get_or top c 0) in
      let b : B.net ≡ get_or bottom c 0 = ap (λ (z : Pin). z.net) (bottom_is_lem r) ∙ net_is top bottom c (tracks_in t d) (get_or bottom c 0) in
      let l : y ≡ pick (eqb (get_or top c 0) 0 && eqb (get_or bottom c 0) 0) (still e) x = rw (a, b) at k in
      l ∙ go (eqb (get_or top c 0) 0 && eqb (get_or bottom c 0) 0) refl
    where
      go : (q : Bool) → (eqb (get_or top c 0) 0 && eqb (get_or bottom c 0) 0) ≡ q → pick q (still e) x ≡ pick q (still (empty_column top bottom c (tracks_in t d))) (move_of t top bottom (family top bottom) c (tracks_in t d) mates)
      go true z = ap still (i z)
      go false z = rw r.is j

  -- of a two-pin channel
  pub column_is_lem : (x : Action) (y : Move) (mates : List ℕ) → fam ≡ TwoPin → Ready top bottom first last t fam → ChosenTwo t A B last low high s (tracks_in t d) c x
      → y ≡ still x → y ≡ move t top bottom c (tracks_in t d) mates
  unfolding move_of
  column_is_lem x y mates m r ex ey =
      let tr : List ℕ = tracks_in t d in
      let J : ℕ → Joint = joint_of top bottom c tr in
      let N : Joint = J (extended_net top bottom c tr) in
      let p = top_is_lem r in
      let q = bottom_is_lem r in
      let e : x ≡ pick (no_pins A B) (join_alone (leaving N)) (choose_two t A B (free_of tr) (leaving N)) =
      ex _ (λ v nx.
      joint_is top bottom first last r.spans h c v (extended_small top bottom first last r.spans h c so v nx)
      ∙ ap (λ (u : ℕ). leaving (J u)) (extended_is top bottom first last r.spans h c so v nx)) in
      column-move r mates y (join_alone (leaving N)) (still (choose_two t A B (free_of tr) (leaving N))) (λ i. alone_same N ∙ extended-alone top bottom c tr)
      (rw m (cc (two_same A B (free_of tr) N t))) (ey ∙ ap still e ∙ pick-still (no_pins A B) (join_alone (leaving N)) (choose_two t A B (free_of tr) (leaving N)))

  -- and of a many-pin channel
  pub column_many_is : (b : Bool) (x : Action) (y : Move) (mates : List ℕ) → fam ≡ ManyPin → Ready top bottom first last t fam → b ≡ ltb (c + 1) (get_or last (get_or top c 0) 0)
      → ChosenMany t A B b last low high s w (tracks_in t d) c x → y ≡ still x → y ≡ move t top bottom c (tracks_in t d) mates
  unfolding move_of
  column_many_is b x y mates m r el ex ey =
      let tr : List ℕ = tracks_in t d in
      let J : ℕ → Joint = joint_of top bottom c tr in
      let N : Joint = J (net_to_join top bottom c tr) in
      let p = top_is_lem r in
      let q = bottom_is_lem r in
      let e : x ≡ pick (no_pins A B) (join_alone (leaving N)) (choose_many t A B (free_of tr) (leaving N) b) =
      ex _ (λ v nx.
      joint_is top bottom first last r.spans h c v (to_join_small top bottom first last r.spans h c so (ap narrow m) v nx)
      ∙ ap (λ (u : ℕ). leaving (J u)) (to_join_is top bottom first last r.spans h c so (ap narrow m) v nx)) in
      let l : b ≡ Drawing.later top bottom (suc c) (get_or top c 0) = el ∙ ap (λ (k : ℕ). ltb k (get_or last (get_or top c 0) 0)) (add-one c) ∙ sym (r.spans.after (suc c) (get_or top c 0) (r.tops c)) in
      column-move r mates y (join_alone (leaving N)) (still (choose_many t A B (free_of tr) (leaving N) b)) (λ i. alone_same N ∙ to_join_alone top bottom c tr i)
      (rw m (cc (many_same A B (free_of tr) N t b))) (ey ∙ ap still e ∙ pick-still (no_pins A B) (join_alone (leaving N)) (choose_many t A B (free_of tr) (leaving N) b))
