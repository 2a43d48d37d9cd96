-- The arrays of the router, as its functions change them.
use Prim.Native.Nat.{ℕ, zero, suc, ◌+◌, ◌%◌, ◌≤◌, ◌<◌, max, min}
use mathlib.Core.Path.{◌≡◌, refl, sym, ap, subst, ◌∙◌}
use mathlib.Core.Bool.{Bool, true, false, ◌||◌}
use mathlib.Core.List.{List, []}
use mathlib.Core.Logic.{◌⊎◌, inl, inr, ⊎_elim}
use native.Mathlib.Nat.{le_refl}
use native.Mathlib.Numerals.{add-one}
use native.Mathlib.Omega.{arith}
use lib.Dec.{eqb, ltb}
use borrow.Author.Tests.{ne_eqb, eqb-true, eqb-false}
use lib.ListN.{length, take, drop, get_or, set, replicate, length-take, length-drop, length-set}
use lib.Seq.{get_or-set_same, get_or-set_other, get_or-take, get_or-drop, ext_get_or, drop-set-add, take-set-lt, set-get_or}
use Rattle.grid.specs.Channel.{pick}
use Rattle.grid.specs.Working.{ByNet}
use Rattle.sweep.specs.Tracks.{strands_from, strands, first, last, lowest, highest, many, lesser, clear, give}
use Rattle.sets.specs.Member.{member, Put}
use Rattle.sweep.specs.Working.{FreeAt}
use Rattle.router.specs.Working.{tracks_in, cleared, ClearedFrom, NoneBetween, Frees, Among, Ended, Holds, blank}
use Rattle.grid.proofs.Counting.{zeros}
use Rattle.grid.proofs.Tests.{before_at_after, below_or, or_false, ltb-false, le-ltb, not_both}
use Rattle.sweep.proofs.Tracks.After.{length-clear, clear_get}
use Rattle.sweep.proofs.Tracks.Strands.{between_from, two_strands, many-times}
use Rattle.sweep.proofs.Tracks.Changed.{cleared_track, cleared_own, cleared_other, clear_idle, some-low, given_other, given_number, given_low, given_high, first-last, last_at_most, number_at_most}

-- ---- numbers of tracks and nets

-- a number up to 511 is its own remainder
pub own_remainder : (x : ℕ) → x ≤ 511 → x % 512 ≡ x
own_remainder x h = omega arith

-- by the test for no net number: v is one
pub net_number : (v : ℕ) → (eqb v 0 || ltb 256 v) ≡ false → (0 < v) × (v ≤ 256)
net_number v e =
    let k = or_false (eqb v 0) (ltb 256 v) e in
    (omega (arith, eqb-false v 0 k.0), ltb-false 256 v k.1)

-- or it is 0, if it is not over 256
pub no_net : (v : ℕ) → (eqb v 0 || ltb 256 v) ≡ true → v ≤ 256 → v ≡ 0
no_net v e h = go (eqb v 0) refl
  where
    go : (q : Bool) → eqb v 0 ≡ q → v ≡ 0
    go true p = eqb-true v 0 p
    go false p = absurd (not_both (sym (ap (λ (q : Bool). q || ltb 256 v) p) ∙ e) (le-ltb 256 v h))

-- ---- the tracks of an array

-- there are t tracks
pub length-tracks : (t : ℕ) (d : List ℕ) → t ≤ 511 → length d ≡ 512 → length (tracks_in t d) ≡ t
length-tracks t d h e = simp (length-take, length-drop) (omega arith)

-- track j + 1 of the array
pub tracks_at_lem : (t : ℕ) (d : List ℕ) (j : ℕ) → j < t → get_or (tracks_in t d) j 0 ≡ get_or d (suc j) 0
tracks_at_lem t d j h =
    let one : 1 + j ≡ suc j = omega arith in
    get_or-take t (drop 1 d) j 0 h ∙ get_or-drop 1 d j 0 ∙ ap (λ (k : ℕ). get_or d k 0) one

-- ---- the end of a net's strands

-- nothing cleared yet
pub cleared_none : (v a : ℕ) (d : List ℕ) → ClearedFrom v a a d d
cleared_none v a d = record { sized = refl; inside = λ i h k. absurd (omega arith); outside = λ i h. refl }

-- one track more is cleared
cleared_more : (v a y : ℕ) (d s : List ℕ) (x : ℕ) → ClearedFrom v a y d s → a ≤ y → y < length d → x ≡ cleared v (get_or s y 0) → ClearedFrom v a (y + 1) d (set s y x)
cleared_more v a y d s x w ay h e =
    record { sized = length-set s y x ∙ w.sized; inside = into; outside = out }
  where
    here : get_or (set s y x) y 0 ≡ cleared v (get_or d y 0)
    here = get_or-set_same s y x 0 (omega (arith, w.sized)) ∙ e ∙ ap (cleared v) (w.outside y (inr (le_refl y)))

    into : (i : ℕ) → a ≤ i → i < y + 1 → get_or (set s y x) i 0 ≡ cleared v (get_or d i 0)
    into i ha hi =
        ⊎_elim (λ b. get_or-set_other s y i x 0 (λ q. omega arith) ∙ w.inside i ha b)
        (⊎_elim (λ q. subst (λ (k : ℕ). get_or (set s y x) k 0 ≡ cleared v (get_or d k 0)) (sym q) here) (λ b. absurd (omega arith)))
        (before_at_after i y)

    out : (i : ℕ) → (i < a) ⊎ (y + 1 ≤ i) → get_or (set s y x) i 0 ≡ get_or d i 0
    out i (inl b) = get_or-set_other s y i x 0 (λ q. omega arith) ∙ w.outside i (inl b)
    out i (inr b) = get_or-set_other s y i x 0 (λ q. omega arith) ∙ w.outside i (inr (omega arith))

-- the strand on track y ends besides
pub cleared_next : (v a y : ℕ) (d s r : List ℕ) → ClearedFrom v a y d s → a ≤ y → y < length d → r ≡ set s y (cleared v (get_or s y 0)) → ClearedFrom v a (y + 1) d r
cleared_next v a y d s r w ay h e = rw e (cleared_more v a y d s _ w ay h refl)

-- there are as many tracks then
pub cleared-length : (v y : ℕ) (d r : List ℕ) → r ≡ set d y (cleared v (get_or d y 0)) → length d ≡ 512 → length r ≡ 512
cleared-length v y d r e l = ap length e ∙ length-set d y (cleared v (get_or d y 0)) ∙ l

-- tracks without a strand of the net are as good as cleared
cleared_past : (v a y b : ℕ) (d s : List ℕ) → ClearedFrom v a y d s → y ≤ b → ((i : ℕ) → y ≤ i → i < b → get_or d i 0 ≡ v → ⊥) → ClearedFrom v a b d s
cleared_past v a y b d s w l n = record { sized = w.sized; inside = into; outside = out }
  where
    into : (i : ℕ) → a ≤ i → i < b → get_or s i 0 ≡ cleared v (get_or d i 0)
    into i ha hb =
        ⊎_elim (λ k. w.inside i ha k) (λ k. w.outside i (inr k) ∙ sym (ap (λ (x : Bool). pick x 0 (get_or d i 0)) (ne_eqb (get_or d i 0) v (n i k hb))))
        (below_or i y)

    out : (i : ℕ) → (i < a) ⊎ (b ≤ i) → get_or s i 0 ≡ get_or d i 0
    out i (inl k) = w.outside i (inl k)
    out i (inr k) = w.outside i (inr (omega arith))

-- a strand that has ended does not end again
cleared_again : (v x : ℕ) → 0 < v → cleared v (cleared v x) ≡ cleared v x
cleared_again v x l = rw (cleared_track v x l) refl

-- where no strand lies between, the end of the two outer ones is enough
pub cleared_ends : (v a b : ℕ) (d r s : List ℕ) → 0 < v → a ≤ b → b < length d → NoneBetween v a b d
    → r ≡ set d a (cleared v (get_or d a 0)) → s ≡ set r b (cleared v (get_or r b 0)) → ClearedFrom v a (b + 1) d s
cleared_ends v a b d r s hv ab hb n er es =
    let w : ClearedFrom v a (a + 1) d r = cleared_next v a a d d r (cleared_none v a d) (le_refl a) (omega arith) er in
    ⊎_elim (λ k. cleared_next v a b d r s (cleared_past v a (a + 1) b d r w (omega arith) (λ i l m. n i (omega arith) m)) ab hb es)
    (⊎_elim (λ e. one w e) (λ k. absurd (omega arith)))
    (before_at_after a b)
  where
    one : ClearedFrom v a (a + 1) d r → a ≡ b → ClearedFrom v a (b + 1) d s
    one w e =
        let x : get_or r b 0 ≡ cleared v (get_or d b 0) = w.inside b ab (omega arith) in
        let y : cleared v (get_or r b 0) ≡ get_or r b 0 = ap (cleared v) x ∙ cleared_again v (get_or d b 0) hv ∙ sym x in
        let z : s ≡ r = es ∙ ap (set r b) y ∙ set-get_or r b 0 in
        rw (z, ← e) w

-- the tracks between a net's lowest and highest strand are enough
cleared_all : (v t : ℕ) (d s : List ℕ) → t ≤ 511 → length d ≡ 512 → ClearedFrom v (lowest v (tracks_in t d)) (highest v (tracks_in t d) + 1) d s → tracks_in t s ≡ clear v (tracks_in t d)
unfolding lowest highest strands
cleared_all v t d s h e w =
    ext_get_or 0 (tracks_in t s) (clear v (tracks_in t d)) (ls ∙ sym lc) (λ j b. each j (subst (λ (k : ℕ). j < k) ls b))
  where
    ls : length (tracks_in t s) ≡ t
    ls = length-tracks t s h (w.sized ∙ e)

    lc : length (clear v (tracks_in t d)) ≡ t
    lc = length-clear v (tracks_in t d) ∙ length-tracks t d h e

    other : (j : ℕ) → cleared v (get_or d (suc j) 0) ≡ get_or d (suc j) 0 → get_or s (suc j) 0 ≡ cleared v (get_or d (suc j) 0)
    other j q =
        ⊎_elim (λ b. w.outside (suc j) (inl b) ∙ sym q)
        (λ o. ⊎_elim (λ b. w.inside (suc j) o b) (λ b. w.outside (suc j) (inr b) ∙ sym q) (below_or (suc j) (last (strands_from 1 v (tracks_in t d)) + 1)))
        (below_or (suc j) (first (strands_from 1 v (tracks_in t d))))

    case : (j : ℕ) → j < t → (p : Bool) → eqb (get_or d (suc j) 0) v ≡ p → get_or s (suc j) 0 ≡ cleared v (get_or d (suc j) 0)
    case j b true q =
        let r = between_from 1 v (tracks_in t d) j (omega (arith, length-tracks t d h e)) (tracks_at_lem t d j b ∙ eqb-true (get_or d (suc j) 0) v q) in
        w.inside (suc j) (omega arith) (omega arith)
    case j b false q = other j (rw q)

    each : (j : ℕ) → j < t → get_or (tracks_in t s) j 0 ≡ get_or (clear v (tracks_in t d)) j 0
    each j b =
        tracks_at_lem t s j b ∙ case j b (eqb (get_or d (suc j) 0) v) refl ∙ ap (cleared v) (sym (tracks_at_lem t d j b)) ∙ sym (clear_get v (tracks_in t d) j)

-- sweeping leaves numbers up to 256
cleared_nets : (v a y : ℕ) (d s : List ℕ) → ClearedFrom v a y d s → ((j : ℕ) → get_or d j 0 ≤ 256) → (j : ℕ) → get_or s j 0 ≤ 256
cleared_nets v a y d s w h j =
    ⊎_elim (λ b. rw (w.outside j (inl b)) (h j))
    (λ o. ⊎_elim (λ b. rw (w.inside j o b) small) (λ b. rw (w.outside j (inr b)) (h j)) (below_or j y))
    (below_or j a)
  where
    small : cleared v (get_or d j 0) ≤ 256
    small = elim (eqb (get_or d j 0) v) as (λ p. pick p 0 (get_or d j 0) ≤ 256) [ true ↦ omega arith | false ↦ h j ]

-- so does a store
set_nets : (d : List ℕ) (k v : ℕ) → k < length d → ((j : ℕ) → get_or d j 0 ≤ 256) → v ≤ 256 → (j : ℕ) → get_or (set d k v) j 0 ≤ 256
set_nets d k v e h b j =
    ⊎_elim (λ l. rw (get_or-set_other d k j v 0 (λ q. omega arith)) (h j))
    (⊎_elim (λ q. subst (λ (i : ℕ). get_or (set d k v) i 0 ≤ 256) (sym q) here) (λ l. rw (get_or-set_other d k j v 0 (λ q. omega arith)) (h j)))
    (before_at_after j k)
  where
    here : get_or (set d k v) k 0 ≤ 256
    here = rw (get_or-set_same d k v 0 e) b

-- ---- the set of the free tracks

-- track y is set to x
pub frees_put : (t y x : ℕ) (d f g : List ℕ) → Frees t d f → 0 < y → y ≤ t → t ≤ 511 → length d ≡ 512 → Put f (y % 512) (eqb x 0) g → Frees t (set d y x) g
frees_put t y x d f g h p l b e u = record { none = other 0 (λ q. omega arith) ∙ h.none; each = each; past = λ i k. other i (λ q. omega arith) ∙ h.past i k }
  where
    here : y % 512 ≡ y
    here = omega arith

    other : (i : ℕ) → (i ≡ y → ⊥) → member g i ≡ member f i
    other i n = u.other i (λ q. n (q ∙ here))

    same : member g y ≡ eqb (get_or (set d y x) y 0) 0
    same = ap (member g) (sym here) ∙ u.same ∙ ap (λ (k : ℕ). eqb k 0) (sym (get_or-set_same d y x 0 (omega arith)))

    each : (i : ℕ) → 0 < i → i ≤ t → member g i ≡ eqb (get_or (set d y x) i 0) 0
    each i p' l' = go (eqb i y) refl
      where
        go : (q : Bool) → eqb i y ≡ q → member g i ≡ eqb (get_or (set d y x) i 0) 0
        go true q = rw (eqb-true i y q) same
        go false q = other i (eqb-false i y q) ∙ h.each i p' l' ∙ ap (λ (k : ℕ). eqb k 0) (sym (get_or-set_other d y i x 0 (eqb-false i y q)))

-- a track that does not hold net v keeps what it holds
pub kept_track : (v y : ℕ) (d : List ℕ) → (get_or d y 0 ≡ v → ⊥) → d ≡ set d y (cleared v (get_or d y 0))
kept_track v y d n = rw (ne_eqb (get_or d y 0) v n) (sym (set-get_or d y 0))

-- no track
pub free_none : (s : List ℕ) → ((k : ℕ) → member s k ≡ false) → Frees 0 blank s
free_none s h = record { none = h 0; each = λ y p l. absurd (omega arith); past = λ y l. h y }

-- one track more, and it is free
pub free_more : (t : ℕ) (s r : List ℕ) → t + 1 ≤ 511 → Frees t blank s → Put s ((t + 1) % 512) true r → Frees (t + 1) blank r
unfolding blank
free_more t s r b h u =
    record { none = other 0 (λ q. omega arith) ∙ h.none; each = each; past = λ y l. other y (λ q. omega arith) ∙ h.past y (omega arith) }
  where
    here : (t + 1) % 512 ≡ t + 1
    here = omega arith

    other : (y : ℕ) → (y ≡ t + 1 → ⊥) → member r y ≡ member s y
    other y n = u.other y (λ q. n (q ∙ here))

    each : (y : ℕ) → 0 < y → y ≤ t + 1 → member r y ≡ eqb (get_or (replicate {A = ℕ} 512 0) y 0) 0
    each y p l = go (eqb y (t + 1)) refl
      where
        go : (q : Bool) → eqb y (t + 1) ≡ q → member r y ≡ eqb (get_or (replicate {A = ℕ} 512 0) y 0) 0
        go true q = ap (member r) (eqb-true y (t + 1) q ∙ sym here) ∙ u.same ∙ ap (λ (k : ℕ). eqb k 0) (sym (zeros 512 y))
        go false q = other y (eqb-false y (t + 1) q) ∙ h.each y p (omega (arith, eqb-false y (t + 1) q))

-- ---- the index

-- the entry of net v is set, where no other net's strands change
index_set : (g : List ℕ → ℕ) (xs tr tr' : List ℕ) (v x : ℕ) → ByNet (λ u. g (strands u tr)) xs → v ≤ 256
    → ((u : ℕ) → 0 < u → (u ≡ v → ⊥) → strands u tr' ≡ strands u tr) → x ≡ g (strands v tr') → ByNet (λ u. g (strands u tr')) (set xs v x)
index_set g xs tr tr' v x w h keeps e = record { size = length-set xs v x ∙ w.size; at = each }
  where
    here : get_or (set xs v x) v 0 ≡ g (strands v tr')
    here = get_or-set_same xs v x 0 (omega (arith, w.size)) ∙ e

    there : (u : ℕ) → 0 < u → u ≤ 256 → (u ≡ v → ⊥) → get_or (set xs v x) u 0 ≡ g (strands u tr')
    there u a b n = get_or-set_other xs v u x 0 n ∙ w.at u a b ∙ ap g (sym (keeps u a n))

    each : (u : ℕ) → 0 < u → u ≤ 256 → get_or (set xs v x) u 0 ≡ g (strands u tr')
    each u a b =
        ⊎_elim (λ l. there u a b (λ q. omega arith))
        (⊎_elim (λ q. subst (λ (k : ℕ). get_or (set xs v x) k 0 ≡ g (strands k tr')) (sym q) here) (λ l. there u a b (λ q. omega arith)))
        (before_at_after u v)

-- the arrays once a net's strands are ended
dropped : (t v : ℕ) (d f s g low high number : List ℕ) → 0 < v → v ≤ 256 → Holds t (tracks_in t d) d f low high number
    → ClearedFrom v (get_or low v 0) (get_or high v 0 + 1) d s → Frees t s g → Holds t (clear v (tracks_in t d)) s g (set low v 0) (set high v 0) (set number v 0)
unfolding lowest highest many strands first last
dropped t v d f s g low high number hv hb h w fr =
    let tr : List ℕ = tracks_in t d in
    let keeps : (u : ℕ) → 0 < u → (u ≡ v → ⊥) → strands u (clear v tr) ≡ strands u tr = λ u a n. cleared_other 1 u v tr a n in
    let none : strands v (clear v tr) ≡ [] = cleared_own 1 v tr hv in
    record {
      fits = h.fits;
      sized = w.sized ∙ h.sized;
      nets = cleared_nets v (get_or low v 0) (get_or high v 0 + 1) d s w h.nets;
      is = cleared_all v t d s h.fits h.sized (rw (h.lows.at v hv hb, h.highs.at v hv hb) at w);
      frees = fr;
      lows = index_set first low tr (clear v tr) v 0 h.lows hb keeps (sym (ap first none));
      highs = index_set last high tr (clear v tr) v 0 h.highs hb keeps (sym (ap last none));
      numbers = index_set length number tr (clear v tr) v 0 h.numbers hb keeps (sym (ap length none));
    }

-- a net with strands: they lie on the tracks
low-high : (t v : ℕ) (d f low high number : List ℕ) → 0 < v → v ≤ 256 → Holds t (tracks_in t d) d f low high number → (get_or number v 0 ≡ 0 → ⊥)
    → (0 < get_or low v 0) × (get_or low v 0 ≤ get_or high v 0) × (get_or high v 0 ≤ t)
unfolding lowest highest many strands
low-high t v d f low high number hv hb h n =
    let tr : List ℕ = tracks_in t d in
    rw (h.lows.at v hv hb, h.highs.at v hv hb)
    (some-low v tr (λ e. n (h.numbers.at v hv hb ∙ e)), first-last 1 v tr, omega (arith, last_at_most 0 v tr, length-tracks t d h.fits h.sized, h.fits))

-- at most two strands: none lies between the lowest and the highest
none_between : (t v : ℕ) (d f low high number : List ℕ) → 0 < v → v ≤ 256 → Holds t (tracks_in t d) d f low high number → get_or high v 0 ≤ t
    → get_or number v 0 ≤ 2 → NoneBetween v (get_or low v 0) (get_or high v 0) d
none_between t v d f low high number hv hb h ht n zero l m e = absurd (omega arith)
none_between t v d f low high number hv hb h ht n (suc j) l m e =
    let tr : List ℕ = tracks_in t d in
    let k = two_strands v tr (omega (arith, many-times v tr, h.numbers.at v hv hb)) j (omega (arith, length-tracks t d h.fits h.sized)) (tracks_at_lem t d j (omega arith) ∙ e) in
    ⊎_elim (λ x. absurd (omega (arith, h.lows.at v hv hb))) (λ x. absurd (omega (arith, h.highs.at v hv hb))) k

-- the end of a net's strands, as it is asked for, ends them
pub strands_dropped : (t v : ℕ) (d f s g low high number : List ℕ) → 0 < v → v ≤ 256 → Holds t (tracks_in t d) d f low high number → (get_or number v 0 ≡ 0 → ⊥)
    → (Among t (get_or low v 0 % 512) (get_or high v 0 % 512) d f → 0 < v → (get_or number v 0 ≤ 2 → NoneBetween v (get_or low v 0 % 512) (get_or high v 0 % 512) d)
    → Ended t v (get_or low v 0 % 512) (get_or high v 0 % 512) d s g)
    → Holds t (clear v (tracks_in t d)) s g (set low v 0) (set high v 0) (set number v 0)
strands_dropped t v d f s g low high number hv hb h n ends =
    let b = low-high t v d f low high number hv hb h n in
    let el : get_or low v 0 % 512 ≡ get_or low v 0 = own_remainder (get_or low v 0) (omega (arith, b.1, b.2, h.fits)) in
    let eh : get_or high v 0 % 512 ≡ get_or high v 0 = own_remainder (get_or high v 0) (omega (arith, b.2, h.fits)) in
    let among : Among t (get_or low v 0) (get_or high v 0) d f =
    record { low = b.0; order = b.1; high = b.2; fits = h.fits; sized = h.sized; frees = h.frees } in
    let e = (rw (el, eh) at ends) among hv (none_between t v d f low high number hv hb h b.2) in
    dropped t v d f s g low high number hv hb h e.cleared e.frees

-- a net has at most 511 strands
number_most : (t v : ℕ) (d f low high number : List ℕ) → 0 < v → v ≤ 256 → Holds t (tracks_in t d) d f low high number → get_or number v 0 ≤ 511
unfolding many strands
number_most t v d f low high number hv hb h =
    let tr : List ℕ = tracks_in t d in
    rw (h.numbers.at v hv hb) (omega (arith, number_at_most 1 v tr, length-tracks t d h.fits h.sized, h.fits))

-- a net without strands has none to end
pub nothing_dropped : (t v : ℕ) (d f low high number : List ℕ) → 0 < v → v ≤ 256 → Holds t (tracks_in t d) d f low high number → get_or number v 0 ≡ 0
    → Holds t (clear v (tracks_in t d)) d f low high number
nothing_dropped t v d f low high number hv hb h e =
    let tr : List ℕ = tracks_in t d in
    rw (clear_idle v tr (inr (sym (many-times v tr) ∙ sym (h.numbers.at v hv hb) ∙ e))) h

-- a free track is one of the tracks
free_below : (k t : ℕ) (d : List ℕ) → t ≤ 511 → length d ≡ 512 → FreeAt k (tracks_in t d) → k ≤ t
free_below zero t d h e o = omega arith
free_below (suc y) t d h e o = omega (arith, length-tracks t d h e, o.0)

-- the arrays once a net is given a track
track_given : (t k v : ℕ) (d f g low high number : List ℕ) (a b c : ℕ) → (k ≡ 0 → ⊥) → (v ≡ 0 → ⊥) → v ≤ 256 → FreeAt k (tracks_in t d) → Holds t (tracks_in t d) d f low high number
    → Put f (k % 512) false g → a ≡ lesser (get_or low v 0) k → b ≡ max (get_or high v 0) k → c ≡ get_or number v 0 + 1
    → Holds t (give k v (tracks_in t d)) (set d k v) g (set low v a) (set high v b) (set number v c)
unfolding lowest highest many strands give
track_given t zero v d f g low high number a b c hk hn hb o h pg ea eb ec = absurd (hk refl)
track_given t (suc y) v d f g low high number a b c hk hn hb o h pg ea eb ec =
    let tr : List ℕ = tracks_in t d in
    let hv : 0 < v = omega arith in
    let yt : y < t = omega (arith, length-tracks t d h.fits h.sized, o.0) in
    let keeps : (u : ℕ) → 0 < u → (u ≡ v → ⊥) → strands u (set tr y v) ≡ strands u tr = λ u l n. given_other 1 u v tr y l n o.1 in
    let sy : suc (0 + y) ≡ suc y = omega arith in
    let oy : 1 + y ≡ suc y = omega arith in
    let fa : a ≡ first (strands_from 1 v (set tr y v)) = ea ∙ ap (λ (z : ℕ). lesser z (suc y)) (h.lows.at v hv hb) ∙ ap (lesser (first (strands_from 1 v tr))) (sym sy) ∙ sym (given_low 0 v tr y hv o.0 o.1) in
    let fb : b ≡ last (strands_from 1 v (set tr y v)) = eb ∙ ap (λ (z : ℕ). max z (suc y)) (h.highs.at v hv hb) ∙ ap (max (last (strands_from 1 v tr))) (sym oy) ∙ sym (given_high 1 v tr y hv o.0 o.1) in
    let fc : c ≡ length (strands_from 1 v (set tr y v)) = ec ∙ add-one (get_or number v 0) ∙ ap suc (h.numbers.at v hv hb) ∙ sym (given_number 1 v tr y hv o.0 o.1) in
    record {
      fits = h.fits;
      sized = length-set d (suc y) v ∙ h.sized;
      nets = set_nets d (suc y) v (omega (arith, h.sized, h.fits)) h.nets hb;
      is = ap (λ (z : ℕ). take t (drop 1 (set d z v))) (sym oy) ∙ ap (take t) (drop-set-add 1 d y v) ∙ take-set-lt t (drop 1 d) y v yt;
      frees = frees_put t (suc y) v d f g h.frees (omega arith) yt h.fits h.sized (rw (ne_eqb v 0 hn) pg);
      lows = index_set first low tr (set tr y v) v a h.lows hb keeps fa;
      highs = index_set last high tr (set tr y v) v b h.highs hb keeps fb;
      numbers = index_set length number tr (set tr y v) v c h.numbers hb keeps fc;
    }

-- so the stores leave them
pub strand_added : (t k v : ℕ) (d f g low high number : List ℕ) (a b c : ℕ) → (k ≡ 0 → ⊥) → (v ≡ 0 → ⊥) → v ≤ 256 → FreeAt k (tracks_in t d)
    → Holds t (tracks_in t d) d f low high number → Put f (k % 512 % 512) false g → a ≡ lesser (get_or low v 0) k → b ≡ max (get_or high v 0) k
    → c ≡ get_or number v 0 % 512 + 1 → Holds t (give k v (tracks_in t d)) (set d (k % 512) v) g (set low v a) (set high v b) (set number v c)
strand_added t k v d f g low high number a b c hk hn hb o h pg ea eb ec =
    let ek : k % 512 ≡ k = own_remainder k (omega (arith, free_below k t d h.fits h.sized o, h.fits)) in
    let en : get_or number v 0 % 512 ≡ get_or number v 0 = own_remainder (get_or number v 0) (number_most t v d f low high number (omega arith) hb h) in
    rw ek (track_given t k v d f g low high number a b c hk hn hb o h (rw ek at pg) ea eb (ec ∙ ap (λ (z : ℕ). z + 1) en))

-- no track, or no net: nothing changes
pub give_none : (k v : ℕ) (tr : List ℕ) → (k ≡ 0) ⊎ (v ≡ 0) → FreeAt k tr → give k v tr ≡ tr
unfolding give
give_none zero v tr h o = refl
give_none (suc y) v tr (inl e) o = absurd (omega arith)
give_none (suc y) v tr (inr e) o = ap (set tr y) (e ∙ sym o.1) ∙ set-get_or tr y 0

-- the lesser of none and y
pub lesser_none_left : (x y : ℕ) → x ≡ 0 → lesser x y ≡ y
unfolding lesser
lesser_none_left zero y e = refl
lesser_none_left (suc x) y e = absurd (omega arith)

-- the lesser of x and none
pub lesser_none_right : (x y : ℕ) → y ≡ 0 → lesser x y ≡ x
unfolding lesser
lesser_none_right zero y e = e
lesser_none_right (suc x) zero e = refl
lesser_none_right (suc x) (suc y) e = absurd (omega arith)

-- the lesser of two
pub lesser_both : (x y : ℕ) → (x ≡ 0 → ⊥) → (y ≡ 0 → ⊥) → lesser x y ≡ min x y
unfolding lesser
lesser_both zero y h k = absurd (h refl)
lesser_both (suc x) zero h k = absurd (k refl)
lesser_both (suc x) (suc y) h k = refl

-- ---- one step after another

-- arrays that hold tr hold their own tracks
pub own : {t : ℕ} {tr a f l h n : List ℕ} → Holds t tr a f l h n → Holds t (tracks_in t a) a f l h n
own {t} {tr} {a} {f} {l} {h} {n} w = subst (λ (z : List ℕ). Holds t z a f l h n) (sym w.is) w

-- a step from the arrays' tracks is one from tr
pub after_step : (F : List ℕ → List ℕ) {t : ℕ} {tr a f l h n a' f' l' h' n' : List ℕ} → Holds t tr a f l h n → Holds t (F (tracks_in t a)) a' f' l' h' n' → Holds t (F tr) a' f' l' h' n'
after_step F {t} {tr} {a} {f} {l} {h} {n} {a'} {f'} {l'} {h'} {n'} w u = subst (λ (z : List ℕ). Holds t (F z) a' f' l' h' n') w.is u

-- a track free on tr is free in the array
pub free_held : (k : ℕ) {t : ℕ} {tr a f l h n : List ℕ} → Holds t tr a f l h n → FreeAt k tr → FreeAt k (tracks_in t a)
free_held k w o = subst (FreeAt k) (sym w.is) o
