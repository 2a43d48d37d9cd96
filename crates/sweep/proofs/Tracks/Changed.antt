-- A net's strands after a free track goes to it, or all of them end; bounds of strands, and the second one found by a search.
use Prim.Native.Nat.{ℕ, zero, suc, ◌+◌, ◌≤◌, ◌<◌, max, min}
use mathlib.Core.Path.{◌≡◌, refl, sym, ap, ◌∙◌}
use mathlib.Core.Bool.{Bool, true, false}
use mathlib.Core.List.{List, [], ◌∷◌}
use mathlib.Core.Logic.{◌⊎◌, inl, inr, ⊎_elim}
use native.Mathlib.Omega.{arith}
use lib.Dec.{eqb}
use borrow.Author.Tests.{eq-eqb, ne_eqb, eqb-true}
use lib.ListN.{length, drop, get_or, set, length-drop}
use lib.Seq.{get_or-drop}
use Rattle.grid.specs.Channel.{pick, bit, times}
use Rattle.grid.proofs.Tests.{Same, same, same_by, below_or}
use Rattle.sweep.specs.Tracks.{strands_from, first, last, lesser, clear}
use Rattle.sweep.proofs.Tracks.Strands.{between_from}

-- ---- all strands of a net end

-- the ended net is gone from a track
pub cleared_track : (v x : ℕ) → 0 < v → eqb (pick (eqb x v) 0 x) v ≡ false
cleared_track v x h = go (eqb x v) refl
  where
    go : (p : Bool) → eqb x v ≡ p → eqb (pick p 0 x) v ≡ false
    go true e = ne_eqb 0 v (omega arith)
    go false e = e

-- another net stays
others_track : (u v x : ℕ) → 0 < u → (u ≡ v → ⊥) → eqb (pick (eqb x v) 0 x) u ≡ eqb x u
others_track u v x h n = go (eqb x v) refl
  where
    go : (p : Bool) → eqb x v ≡ p → eqb (pick p 0 x) u ≡ eqb x u
    go true e = ne_eqb 0 u (omega arith) ∙ sym (ne_eqb x u (λ d. n (sym d ∙ eqb-true x v e)))
    go false e = refl

-- an ended net has no strands
pub cleared_own : (y v : ℕ) (l : List ℕ) → 0 < v → strands_from y v (clear v l) ≡ []
unfolding strands_from clear
cleared_own y v [] h = refl
cleared_own y v (x ∷ xs) h = rw (cleared_track v x h) (cleared_own (suc y) v xs h)

-- other nets keep theirs
pub cleared_other : (y u v : ℕ) (l : List ℕ) → 0 < u → (u ≡ v → ⊥) → strands_from y u (clear v l) ≡ strands_from y u l
unfolding strands_from clear
cleared_other y u v [] h n = refl
cleared_other y u v (x ∷ xs) h n = rw (others_track u v x h n) (ap (λ (s : List ℕ). pick (eqb x u) (y ∷ s) s) (cleared_other (suc y) u v xs h n))

-- to end net 0, or a net that has no strands, changes nothing
pub clear_idle : (w : ℕ) (l : List ℕ) → (w ≡ 0) ⊎ (times w l ≡ 0) → clear w l ≡ l
unfolding clear times
clear_idle w [] o = refl
clear_idle w (x ∷ xs) o = go (eqb x w) (same_by x w) refl (clear_idle w xs (⊎_elim inl (λ z. inr (omega arith)) o))
  where
    go : (q : Bool) → Same x w q → eqb x w ≡ q → clear w xs ≡ xs → pick q 0 x ∷ clear w xs ≡ x ∷ xs
    go true (same e) i ih = ⊎_elim (λ z. ap (λ (u : ℕ). u ∷ clear w xs) (sym (e ∙ z)) ∙ ap (λ (l : List ℕ). x ∷ l) ih)
        (λ z. absurd (omega (arith, z, ap bit i))) o
    go false d i ih = rw ih

-- ---- a free track goes to a net

-- another net keeps its strands
pub given_other : (y u v : ℕ) (l : List ℕ) (j : ℕ) → 0 < u → (u ≡ v → ⊥) → get_or l j 0 ≡ 0 → strands_from y u (set l j v) ≡ strands_from y u l
unfolding strands_from
given_other y u v [] j h n e = refl
given_other y u v (x ∷ xs) zero h n e = rw (ne_eqb v u (λ d. n (sym d)), ne_eqb x u (λ d. omega arith))
given_other y u v (x ∷ xs) (suc j) h n e = ap (λ (s : List ℕ). pick (eqb x u) (y ∷ s) s) (given_other (suc y) u v xs j h n e)

-- one strand more
pub given_number : (y v : ℕ) (l : List ℕ) (j : ℕ) → 0 < v → j < length l → get_or l j 0 ≡ 0 → length (strands_from y v (set l j v)) ≡ suc (length (strands_from y v l))
unfolding strands_from
given_number y v [] j h b e = absurd (omega arith)
given_number y v (x ∷ xs) zero h b e = rw (eq-eqb v v refl, ne_eqb x v (λ d. omega arith))
given_number y v (x ∷ xs) (suc j) h b e =
    let s' : List ℕ = strands_from (suc y) v (set xs j v) in
    let s : List ℕ = strands_from (suc y) v xs in
    let ih : length s' ≡ suc (length s) = given_number (suc y) v xs j h (omega arith) e in
    elim (eqb x v) as (λ p. length (pick p (y ∷ s') s') ≡ suc (length (pick p (y ∷ s) s))) [ true ↦ ap suc ih | false ↦ ih ]

-- a track below all strands is lower than the lowest
low_above : (y k v : ℕ) (l : List ℕ) → k ≤ y → lesser (first (strands_from (suc y) v l)) (suc k) ≡ suc k
unfolding strands_from first lesser
low_above y k v [] h = refl
low_above y k v (x ∷ xs) h =
    let s : List ℕ = strands_from (suc (suc y)) v xs in
    let ih : lesser (first s) (suc k) ≡ suc k = low_above (suc y) k v xs (omega arith) in
    let here : min (suc y) (suc k) ≡ suc k = omega arith in
    elim (eqb x v) as (λ p. lesser (first (pick p (suc y ∷ s) s)) (suc k) ≡ suc k) [ true ↦ here | false ↦ ih ]

-- the lowest strand then
pub given_low : (y v : ℕ) (l : List ℕ) (j : ℕ) → 0 < v → j < length l → get_or l j 0 ≡ 0
    → first (strands_from (suc y) v (set l j v)) ≡ lesser (first (strands_from (suc y) v l)) (suc (y + j))
unfolding strands_from first lesser
given_low y v [] j h b e = absurd (omega arith)
given_low y v (x ∷ xs) zero h b e =
    let same : suc (y + 0) ≡ suc y = omega arith in
    rw (eq-eqb v v refl, ne_eqb x v (λ d. omega arith), same) (sym (low_above (suc y) y v xs (omega arith)))
given_low y v (x ∷ xs) (suc j) h b e =
    let s' : List ℕ = strands_from (suc (suc y)) v (set xs j v) in
    let s : List ℕ = strands_from (suc (suc y)) v xs in
    let k : ℕ = suc (y + suc j) in
    let same : suc (suc y + j) ≡ k = omega arith in
    let ih : first s' ≡ lesser (first s) k = given_low (suc y) v xs j h (omega arith) e ∙ ap (lesser (first s)) same in
    let here : suc y ≡ min (suc y) k = omega arith in
    elim (eqb x v) as (λ p. first (pick p (suc y ∷ s') s') ≡ lesser (first (pick p (suc y ∷ s) s)) k) [ true ↦ here | false ↦ ih ]

-- the highest of a track and of strands above it
pub last_cons : (k y v : ℕ) (l : List ℕ) → k ≤ y → last (k ∷ strands_from y v l) ≡ max k (last (strands_from y v l))
unfolding strands_from last
last_cons k y v [] h = omega arith
last_cons k y v (x ∷ xs) h =
    let s : List ℕ = strands_from (suc y) v xs in
    let a : last (y ∷ s) ≡ max y (last s) = last_cons y (suc y) v xs (omega arith) in
    let b : last (k ∷ s) ≡ max k (last s) = last_cons k (suc y) v xs (omega arith) in
    let here : last (y ∷ s) ≡ max k (last (y ∷ s)) = omega arith in
    elim (eqb x v) as (λ p. last (k ∷ pick p (y ∷ s) s) ≡ max k (last (pick p (y ∷ s) s))) [ true ↦ here | false ↦ b ]

-- the highest strand then
pub given_high : (y v : ℕ) (l : List ℕ) (j : ℕ) → 0 < v → j < length l → get_or l j 0 ≡ 0
    → last (strands_from y v (set l j v)) ≡ max (last (strands_from y v l)) (y + j)
unfolding strands_from
given_high y v [] j h b e = absurd (omega arith)
given_high y v (x ∷ xs) zero h b e =
    let a : last (y ∷ strands_from (suc y) v xs) ≡ max y (last (strands_from (suc y) v xs)) = last_cons y (suc y) v xs (omega arith) in
    rw (eq-eqb v v refl, ne_eqb x v (λ d. omega arith)) (omega arith)
given_high y v (x ∷ xs) (suc j) h b e =
    let s' : List ℕ = strands_from (suc y) v (set xs j v) in
    let s : List ℕ = strands_from (suc y) v xs in
    let ih : last s' ≡ max (last s) (suc y + j) = given_high (suc y) v xs j h (omega arith) e in
    let a : last (y ∷ s') ≡ max y (last s') = last_cons y (suc y) v (set xs j v) (omega arith) in
    let c : last (y ∷ s) ≡ max y (last s) = last_cons y (suc y) v xs (omega arith) in
    let here : last (y ∷ s') ≡ max (last (y ∷ s)) (y + suc j) = omega arith in
    let there : last s' ≡ max (last s) (y + suc j) = omega arith in
    elim (eqb x v) as (λ p. last (pick p (y ∷ s') s') ≡ max (last (pick p (y ∷ s) s)) (y + suc j)) [ true ↦ here | false ↦ there ]

-- ---- bounds

-- the highest strand is at most the number of tracks
pub last_at_most : (y v : ℕ) (l : List ℕ) → last (strands_from (suc y) v l) ≤ y + length l
unfolding strands_from
last_at_most y v [] = unfold last in omega arith
last_at_most y v (x ∷ xs) =
    let s : List ℕ = strands_from (suc (suc y)) v xs in
    let ih : last s ≤ suc y + length xs = last_at_most (suc y) v xs in
    let c : last (suc y ∷ s) ≡ max (suc y) (last s) = last_cons (suc y) (suc (suc y)) v xs (omega arith) in
    let here : last (suc y ∷ s) ≤ y + suc (length xs) = omega arith in
    let there : last s ≤ y + suc (length xs) = omega arith in
    elim (eqb x v) as (λ p. last (pick p (suc y ∷ s) s) ≤ y + suc (length xs)) [ true ↦ here | false ↦ there ]

-- no more strands than tracks
pub number_at_most : (y v : ℕ) (l : List ℕ) → length (strands_from y v l) ≤ length l
unfolding strands_from
number_at_most y v [] = omega arith
number_at_most y v (x ∷ xs) =
    let s : List ℕ = strands_from (suc y) v xs in
    let ih : length s ≤ length xs = number_at_most (suc y) v xs in
    let here : suc (length s) ≤ suc (length xs) = omega arith in
    let there : length s ≤ suc (length xs) = omega arith in
    elim (eqb x v) as (λ p. length (pick p (y ∷ s) s) ≤ suc (length xs)) [ true ↦ here | false ↦ there ]

-- the lowest is at most the highest
pub first-last : (y v : ℕ) (l : List ℕ) → first (strands_from y v l) ≤ last (strands_from y v l)
unfolding strands_from first
first-last y v [] = unfold last in omega arith
first-last y v (x ∷ xs) =
    let s : List ℕ = strands_from (suc y) v xs in
    let ih : first s ≤ last s = first-last (suc y) v xs in
    let c : last (y ∷ s) ≡ max y (last s) = last_cons y (suc y) v xs (omega arith) in
    let here : y ≤ last (y ∷ s) = omega arith in
    elim (eqb x v) as (λ p. first (pick p (y ∷ s) s) ≤ last (pick p (y ∷ s) s)) [ true ↦ here | false ↦ ih ]

-- ---- the second strand

-- no lowest strand: no strands
first_zero : (y v : ℕ) (l : List ℕ) → first (strands_from (suc y) v l) ≡ 0 → strands_from (suc y) v l ≡ []
unfolding strands_from first
first_zero y v [] e = refl
first_zero y v (x ∷ xs) e = go (eqb x v) (first_zero (suc y) v xs) e
  where
    s : List ℕ
    s = strands_from (suc (suc y)) v xs

    go : (p : Bool) → (first s ≡ 0 → s ≡ []) → first (pick p (suc y ∷ s) s) ≡ 0 → pick p (suc y ∷ s) s ≡ []
    go true ih q = absurd (omega arith)
    go false ih q = ih q

-- a net with strands has a lowest one
pub some-low : (v : ℕ) (l : List ℕ) → (length (strands_from 1 v l) ≡ 0 → ⊥) → 0 < first (strands_from 1 v l)
some-low v l n = ⊎_elim (λ h. h) (λ h. absurd (n (ap length (first_zero 0 v l (omega arith))))) (below_or 0 (first (strands_from 1 v l)))

-- the lowest lies above the start
first_above : (y v : ℕ) (l : List ℕ) → (first (strands_from (suc y) v l) ≡ 0) ⊎ (y < first (strands_from (suc y) v l))
unfolding strands_from first
first_above y v [] = inl refl
first_above y v (x ∷ xs) =
    let s : List ℕ = strands_from (suc (suc y)) v xs in
    let here : (suc y ≡ 0) ⊎ (y < suc y) = inr (omega arith) in
    let there : (first s ≡ 0) ⊎ (y < first s) = ⊎_elim (λ e. inl e) (λ h. inr (omega arith)) (first_above (suc y) v xs) in
    elim (eqb x v) as (λ p. (first (pick p (suc y ∷ s) s) ≡ 0) ⊎ (y < first (pick p (suc y ∷ s) s))) [ true ↦ here | false ↦ there ]

-- the lowest is the first that is found
first_at : (y v : ℕ) (l : List ℕ) (j : ℕ) → j < length l → get_or l j 0 ≡ v → ((i : ℕ) → i < j → get_or l i 0 ≡ v → ⊥) → first (strands_from y v l) ≡ y + j
unfolding strands_from first
first_at y v [] j b e h = absurd (omega arith)
first_at y v (x ∷ xs) zero b e h = rw (eq-eqb x v e) (omega arith)
first_at y v (x ∷ xs) (suc j) b e h =
    let same : suc y + j ≡ y + suc j = omega arith in
    rw (ne_eqb x v (h 0 (omega arith))) (first_at (suc y) v xs j (omega arith) e (λ i c. h (suc i) (omega arith)) ∙ same)

-- none found: no strands
pub no_strands : (y v : ℕ) (l : List ℕ) → ((i : ℕ) → i < length l → get_or l i 0 ≡ v → ⊥) → strands_from y v l ≡ []
unfolding strands_from
no_strands y v [] h = refl
no_strands y v (x ∷ xs) h = rw (ne_eqb x v (h 0 (omega arith))) (no_strands (suc y) v xs (λ i c. h (suc i) (omega arith)))

-- the strands after the lowest
tail_at : (y v : ℕ) (l : List ℕ) (a : ℕ) → first (strands_from (suc y) v l) ≡ suc (y + a) → drop 1 (strands_from (suc y) v l) ≡ strands_from (suc (suc (y + a))) v (drop (suc a) l)
unfolding strands_from first
tail_at y v [] a e = absurd (omega arith)
tail_at y v (x ∷ xs) zero e = go (eqb x v) (first_above (suc y) v xs) e
  where
    s : List ℕ
    s = strands_from (suc (suc y)) v xs

    same : suc (suc y) ≡ suc (suc (y + 0))
    same = omega arith

    go : (p : Bool) → (first s ≡ 0) ⊎ (suc y < first s) → first (pick p (suc y ∷ s) s) ≡ suc (y + 0) → drop 1 (pick p (suc y ∷ s) s) ≡ strands_from (suc (suc (y + 0))) v xs
    go true f q = ap (λ (k : ℕ). strands_from k v xs) same
    go false (inl f) q = absurd (omega arith)
    go false (inr f) q = absurd (omega arith)
tail_at y v (x ∷ xs) (suc a) e = go (eqb x v) (tail_at (suc y) v xs a) e
  where
    s : List ℕ
    s = strands_from (suc (suc y)) v xs

    same : suc y + a ≡ y + suc a
    same = omega arith

    go : (p : Bool) → (first s ≡ suc (suc y + a) → drop 1 s ≡ strands_from (suc (suc (suc y + a))) v (drop (suc a) xs)) → first (pick p (suc y ∷ s) s) ≡ suc (y + suc a)
        → drop 1 (pick p (suc y ∷ s) s) ≡ strands_from (suc (suc (y + suc a))) v (drop (suc a) xs)
    go true ih q = absurd (omega arith)
    go false ih q = ih (q ∙ ap suc (sym same)) ∙ ap (λ (k : ℕ). strands_from (suc (suc k)) v (drop (suc a) xs)) same

-- track y, a strand of v above the lowest, a, with none between
pub second_found : (v : ℕ) (l : List ℕ) (a j : ℕ) → a ≡ first (strands_from 1 v l) → a + j < length l → get_or l (a + j) 0 ≡ v → ((i : ℕ) → i < j → get_or l (a + i) 0 ≡ v → ⊥)
    → first (drop 1 (strands_from 1 v l)) ≡ suc (a + j)
unfolding last
second_found v l zero j e b g h =
    let n : strands_from 1 v l ≡ [] = first_zero 0 v l (sym e) in
    let w = between_from 1 v l (0 + j) b g in
    let z : last (strands_from 1 v l) ≡ 0 = ap last n in
    absurd (omega arith)
second_found v l (suc a) j e b g h =
    let same : suc (0 + a) ≡ suc a = omega arith in
    let t : drop 1 (strands_from 1 v l) ≡ strands_from (suc (suc (0 + a))) v (drop (suc a) l) = tail_at 0 v l a (sym e ∙ sym same) in
    let f : first (strands_from (suc (suc (0 + a))) v (drop (suc a) l)) ≡ suc (suc (0 + a)) + j =
    first_at (suc (suc (0 + a))) v (drop (suc a) l) j (omega (arith, length-drop (suc a) l)) (get_or-drop (suc a) l j 0 ∙ g) (λ i c q. h i c (sym (get_or-drop (suc a) l i 0) ∙ q)) in
    let same' : suc (suc (0 + a)) + j ≡ suc (suc a + j) = omega arith in
    ap first t ∙ f ∙ same'

-- no strand above the lowest: no second
pub second_none : (v : ℕ) (l : List ℕ) (a : ℕ) → a ≡ first (strands_from 1 v l) → ((i : ℕ) → a + i < length l → get_or l (a + i) 0 ≡ v → ⊥) → first (drop 1 (strands_from 1 v l)) ≡ 0
unfolding first
second_none v l zero e h = rw (first_zero 0 v l (sym e))
second_none v l (suc a) e h =
    let same : suc (0 + a) ≡ suc a = omega arith in
    let n : strands_from (suc (suc (0 + a))) v (drop (suc a) l) ≡ [] = no_strands (suc (suc (0 + a))) v (drop (suc a) l) (λ i c q. h i (omega (arith, length-drop (suc a) l)) (sym (get_or-drop (suc a) l i 0) ∙ q)) in
    rw (tail_at 0 v l a (sym e ∙ sym same), n)
