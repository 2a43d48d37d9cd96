-- What the sets of free tracks, of extended nets and of wide ones are to the tracks.
use Prim.Native.Nat.{ℕ, zero, suc, ◌+◌, ◌-◌, ◌%◌, ◌≤◌, ◌<◌, suc-le-suc, zero-le}
use mathlib.Core.Path.{◌≡◌, refl, sym, ap, subst, ◌∙◌}
use mathlib.Core.Bool.{Bool, true, false, not, ◌&&◌}
use mathlib.Core.List.{List, [], ◌∷◌}
use mathlib.Core.Logic.{◌⊎◌, inl, inr, ⊎_elim}
use native.Mathlib.Nat.{add-zero, mod-eq_of_lt}
use native.Mathlib.Decide.{dec_lt}
use native.Mathlib.Omega.{arith}
use borrow.Author.Tests.{ne_eqb, eqb-true, eqb-false}
use lib.Dec.{T, eqb, ltb}
use lib.ListN.{length, get_or, drop, get_or-eq_default}
use lib.Seq.{get_or-drop}
use Rattle.grid.specs.Channel.{pick}
use Rattle.grid.specs.declared.Family.{Family}
use Rattle.sets.specs.Member.{member, Put, LowestFrom}
use Rattle.sweep.specs.declared.Free.{Free}
use Rattle.sweep.specs.Tracks.{strands_from, strands, first, lowest, second}
use Rattle.sweep.specs.Drawing.{free_of}
use Rattle.router.specs.Working.{tracks_in, Frees, narrow, MarkedAt, extended_by, wide_by}
use Rattle.grid.proofs.Tests.{below_or, not_both}
use Rattle.router.proofs.Laws.Arrays.{length-tracks, tracks_at_lem}

-- ---- the lowest members are the lowest free tracks

-- the first free track is found
next_at : (l : List ℕ) (y i : ℕ) → eqb (get_or l i 1) 0 ≡ true → ((j : ℕ) → j < i → eqb (get_or l j 1) 0 ≡ false)
    → strands_from y 0 l ≡ (y + i) ∷ strands_from (suc (y + i)) 0 (drop (suc i) l)
unfolding strands_from
next_at [] y i e h = absurd (subst T (sym e) tt)
next_at (x ∷ xs) y zero e h =
    ap (λ (b : Bool). pick b (y ∷ strands_from (suc y) 0 xs) (strands_from (suc y) 0 xs)) e
    ∙ ap (λ (z : ℕ). z ∷ strands_from (suc z) 0 xs) (sym (add-zero y))
next_at (x ∷ xs) y (suc i) e h =
    ap (λ (b : Bool). pick b (y ∷ strands_from (suc y) 0 xs) (strands_from (suc y) 0 xs)) (h 0 (suc-le-suc zero-le))
    ∙ next_at xs (suc y) i e (λ j l. h (suc j) (suc-le-suc l))
    ∙ ap (λ (z : ℕ). z ∷ strands_from (suc z) 0 (drop (suc i) xs)) (omega arith)

-- no free track
next_none : (l : List ℕ) (y : ℕ) → ((j : ℕ) → eqb (get_or l j 1) 0 ≡ false) → strands_from y 0 l ≡ []
unfolding strands_from
next_none [] y h = refl
next_none (x ∷ xs) y h = ap (λ (b : Bool). pick b (y ∷ strands_from (suc y) 0 xs) (strands_from (suc y) 0 xs)) (h 0) ∙ next_none xs (suc y) (λ j. h (suc j))

-- what stands at an index does not depend on what stands past the end
inside : (l : List ℕ) (i : ℕ) → i < length l → get_or l i 1 ≡ get_or l i 0
inside [] i h = absurd (omega arith)
inside (x ∷ xs) zero h = refl
inside (x ∷ xs) (suc i) h = inside xs i (omega arith)

module _ (t : ℕ) (a s : List ℕ) (l : t ≤ 511) (z : length a ≡ 512) (f : Frees t a s) where
  -- track i + 1 is a member if it is free
  each : (i : ℕ) → member s (suc i) ≡ eqb (get_or (tracks_in t a) i 1) 0
  each i = ⊎_elim within_t past_t (below_or i t)
    where
      within_t : i < t → member s (suc i) ≡ eqb (get_or (tracks_in t a) i 1) 0
      within_t h =
          f.each (suc i) (omega arith) h ∙ ap (λ (x : ℕ). eqb x 0) (sym (inside (tracks_in t a) i (omega (arith, length-tracks t a l z)) ∙ tracks_at_lem t a i h))

      past_t : t ≤ i → member s (suc i) ≡ eqb (get_or (tracks_in t a) i 1) 0
      past_t h = f.past (suc i) (omega arith) ∙ ap (λ (x : ℕ). eqb x 0) (sym (get_or-eq_default (tracks_in t a) 1 (omega (arith, length-tracks t a l z))))

  -- from track k up
  each_drop : (k i : ℕ) → eqb (get_or (drop k (tracks_in t a)) i 1) 0 ≡ member s (suc (k + i))
  each_drop k i = ap (λ (x : ℕ). eqb x 0) (get_or-drop k (tracks_in t a) i 1) ∙ sym (each (k + i))

  -- the lowest member above k, q: the free tracks above track k
  above_some : (k q : ℕ) → LowestFrom s (k + 1) q → q < 512
      → strands_from (suc k) 0 (drop k (tracks_in t a)) ≡ q ∷ strands_from (suc q) 0 (drop (suc (q - suc k)) (drop k (tracks_in t a)))
  above_some k q o h =
      next_at (drop k (tracks_in t a)) (suc k) (q - suc k)
      (each_drop k (q - suc k) ∙ ap (member s) (omega (arith, o.low)) ∙ o.found h)
      (λ j p. each_drop k j ∙ o.below (suc (k + j)) (omega arith) (omega (arith, o.low)))
      ∙ ap (λ (y : ℕ). y ∷ strands_from (suc y) 0 (drop (suc (q - suc k)) (drop k (tracks_in t a)))) (omega (arith, o.low))

  -- none above track k
  above_none : (k : ℕ) → LowestFrom s (k + 1) 512 → strands_from (suc k) 0 (drop k (tracks_in t a)) ≡ []
  above_none k o = next_none (drop k (tracks_in t a)) (suc k) (λ j. go j (dec_lt (suc (k + j)) 512))
    where
      go : (j : ℕ) → Dec (suc (k + j) < 512) → eqb (get_or (drop k (tracks_in t a)) j 1) 0 ≡ false
      go j (yes h) = each_drop k j ∙ o.below (suc (k + j)) (omega arith) h
      go j (no n) = each_drop k j ∙ f.past (suc (k + j)) (omega arith)

  -- the lowest free track above track k
  above_first : (k q : ℕ) → LowestFrom s (k + 1) q → q % 512 ≡ first (strands_from (suc k) 0 (drop k (tracks_in t a)))
  unfolding first
  above_first k q o = go (dec_lt q 512)
    where
      go : Dec (q < 512) → q % 512 ≡ first (strands_from (suc k) 0 (drop k (tracks_in t a)))
      go (yes h) = mod-eq_of_lt h ∙ ap first (sym (above_some k q o h))
      go (no n) =
          let e : q ≡ 512 = omega (arith, o.high) in
          ap (λ (x : ℕ). x % 512) e ∙ ap first (sym (above_none k (rw e at o)))

  -- 0 is no track
  from_one : (r : ℕ) → LowestFrom s 0 r → LowestFrom s 1 r
  from_one r o = record { low = go r o; high = o.high; found = o.found; below = λ k a b. o.below k (omega arith) b }
    where
      go : (r : ℕ) → LowestFrom s 0 r → 1 ≤ r
      go zero o = absurd (not_both (o.found (omega arith)) f.none)
      go (suc r) o = omega arith

  -- the lowest member and the lowest above it, 0 where there is none
  pub free_two : (r q : ℕ) → LowestFrom s 0 r → LowestFrom s (r % 512 % 512 + 1) q → ◌≡◌ {A = Free} (record { first = r % 512; second = q % 512 }) (free_of (tracks_in t a))
  unfolding free_of lowest second strands first
  free_two r q o u = λ i. record { first = above_first 0 r (from_one r o) i; second = go (dec_lt r 512) i }
    where
      go : Dec (r < 512) → q % 512 ≡ first (drop 1 (strands_from 1 0 (tracks_in t a)))
      go (yes h) =
          let m : r % 512 % 512 ≡ r = omega arith in
          let v : LowestFrom s (r + 1) q = rw m at u in
          let e : suc (r - 1) ≡ r = omega (arith, (from_one r o).low) in
          above_first r q v ∙ ap (λ (n : ℕ). first (strands_from (suc r) 0 (drop n (tracks_in t a)))) (sym e)
          ∙ ap (λ (x : List ℕ). first (drop 1 x)) (sym (above_some 0 r (from_one r o) h))
      go (no n) =
          let e : r ≡ 512 = omega (arith, o.high) in
          let v : LowestFrom s 1 q = rw e at u in
          let w : strands_from 1 0 (tracks_in t a) ≡ [] = above_none 0 (from_one 512 (rw e at o)) in
          above_first 0 q v ∙ ap first w ∙ ap (λ (x : List ℕ). first (drop 1 x)) (sym w)

-- ---- the sets of extended and of wide nets

-- what is put, by an equal test
pub put_by : {s r : List ℕ} {k : ℕ} {p q : Bool} → p ≡ q → Put s k p r → Put s k q r
put_by {s} {r} {k} e x = subst (λ (b : Bool). Put s k b r) e x

module _ (last number : List ℕ) (c v : ℕ) (s w r u : List ℕ) (fam : Family) where
  module _ (n : v ≡ 0 → ⊥) (b : v ≤ 256) (x : Put s (v % 512) (not (ltb c (get_or last v 0)) && ltb 0 (get_or number v 0)) r)
      (y : narrow fam ≡ false → Put w (v % 512) (ltb c (get_or last v 0) && ltb 2 (get_or number v 0)) u) where
    -- the number of net v
    same : v % 512 ≡ v
    same = omega arith

    -- net v itself
    put_own : MarkedAt last number c r u fam v
    unfolding extended_by wide_by
    put_own =
        record {
          extended = ap (member r) (sym same) ∙ x.same ∙ rw (ne_eqb v 0 n) refl;
          wide = λ e. ap (member u) (sym same) ∙ (y e).same ∙ rw (ne_eqb v 0 n) refl;
        }

    -- net v is marked, and the others stay as they are
    pub put_marked : (j : ℕ) → (j ≡ v) ⊎ MarkedAt last number c s w fam j → MarkedAt last number c r u fam j
    put_marked j (inl e) = rw e put_own
    put_marked j (inr h) = go (eqb j v) refl
      where
        go : (k : Bool) → eqb j v ≡ k → MarkedAt last number c r u fam j
        go true e = rw (eqb-true j v e) put_own
        go false e =
            record {
              extended = x.other j (λ d. eqb-false j v e (d ∙ same)) ∙ h.extended;
              wide = λ f. (y f).other j (λ d. eqb-false j v e (d ∙ same)) ∙ h.wide f;
            }

-- of no net there is nothing to put
pub none_put : (last number : List ℕ) (c v : ℕ) (s w : List ℕ) (fam : Family) → v ≡ 0 → MarkedAt last number c s w fam 0
    → (j : ℕ) → (j ≡ v) ⊎ MarkedAt last number c s w fam j → MarkedAt last number c s w fam j
none_put last number c v s w fam e z j (inl d) = rw (d, e) z
none_put last number c v s w fam e z j (inr r) = r

-- three nets, one after another
pub three_marked : {P Q R S : ℕ → Type 0} (x y z : ℕ) → ((j : ℕ) → (j ≡ x) ⊎ P j → Q j) → ((j : ℕ) → (j ≡ y) ⊎ Q j → R j) → ((j : ℕ) → (j ≡ z) ⊎ R j → S j)
    → (j : ℕ) → (j ≡ x) ⊎ ((j ≡ y) ⊎ ((j ≡ z) ⊎ P j)) → S j
three_marked x y z f g h j (inl e) = h j (inr (g j (inr (f j (inl e)))))
three_marked x y z f g h j (inr (inl e)) = h j (inr (g j (inl e)))
three_marked x y z f g h j (inr (inr (inl e))) = h j (inl e)
three_marked x y z f g h j (inr (inr (inr p))) = h j (inr (g j (inr (f j (inr p)))))
