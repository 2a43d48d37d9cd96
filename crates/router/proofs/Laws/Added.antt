-- The columns added after column n, as the router adds them: from one net that remains to the next.
use Prim.Native.Nat.{ℕ, zero, suc, ◌+◌, ◌-◌, ◌*◌, ◌≤◌, ◌<◌}
use mathlib.Core.Path.{◌≡◌, refl, sym, ap, subst, ◌∙◌}
use mathlib.Core.Bool.{Bool, true, false, not, ◌&&◌}
use mathlib.Core.List.{List, [], ◌++◌, append_assoc, append-nil}
use native.Mathlib.Nat.{zero-mul, suc-mul, add-mul, mul-le-mul_right}
use native.Mathlib.Numerals.{add-one}
use native.Mathlib.Omega.{arith}
use lib.Dec.{eqb}
use borrow.Author.Tests.{ne_eqb}
use lib.ListN.{length, take, drop, length-append, take-append-drop}
use lib.Seq.{take_at, drop_at, drop-drop, length-take-le, drop-append-add}
use Rattle.grid.specs.Channel.{pick, bit, count}
use Rattle.grid.proofs.Tests.{and_true, not_both}
use Rattle.grid.proofs.Sums.{sum_same}
use Rattle.sets.specs.Member.{member}
use Rattle.sweep.specs.declared.Action.{Action}
use Rattle.sweep.specs.Tracks.{lowest, highest, clear, verticals}
use Rattle.sweep.specs.Rules.{join_only}
use Rattle.sweep.specs.Drawing.{gap, drawn, rest, joining, remains, added, width_by, width, layout_by, layout}
use Rattle.router.specs.Working.{tracks_in, Holds, Next, NetsOnly, Remaining, DrawnTo, with_column, with_joining}
use Rattle.sweep.proofs.Drawing.Added as solved
use Rattle.sweep.proofs.Tracks.Strands.{many-times}
use Rattle.sweep.proofs.Columns.Entries.{verticals-length}
use Rattle.router.proofs.Laws.Arrays.{length-tracks}
use Rattle.router.proofs.Laws.Lowest.{OnTrack, many_on}
use Rattle.router.proofs.Laws.Sweeps.{nonzero}
use Rattle.router.proofs.Laws.Onward.{Onward, reached, onward_first, onward_next, count_more, count_zero, count_next}

-- ---- one net

-- the join of net v, by its lowest and its highest strand
pub joining_is : (tr : List ℕ) (v a b : ℕ) (x : Action) → x ≡ join_only v a b → a ≡ lowest v tr → b ≡ highest v tr → x ≡ joining tr v
unfolding joining
joining_is tr v a b x e l h = cc

-- the column that joins net v, written into its part of the layout
pub joining_written : (t : ℕ) (d : List ℕ) (v w : ℕ) (l l' : List ℕ) (x : Action) {a' f' low' high' number' : List ℕ} → x ≡ joining (tracks_in t d) v
    → Holds t (clear v (tracks_in t d)) a' f' low' high' number' → l' ≡ with_column t (w * (2 * t + 1)) x (tracks_in t a') l → l' ≡ with_joining t (tracks_in t d) v w l
unfolding with_joining
joining_written t d v w l l' x e u el = el ∙ cc u.is

-- ---- all nets

-- a longer count is no smaller
count_most : (p : ℕ → Bool) (k m : ℕ) → count p k ≤ count p (m + k)
count_most p k zero = subst (λ (z : ℕ). count p k ≤ count p z) (let e : k ≡ 0 + k = omega arith in e) (omega arith)
count_most p k (suc m) =
    let e : suc (m + k) ≡ suc m + k = omega arith in
    subst (λ (z : ℕ). count p k ≤ count p z) e (omega (arith, count_more p (m + k), count_most p k m))

-- the count up to v is at most the whole
count_upto : (p : ℕ → Bool) (v : ℕ) → v ≤ 256 → count p v ≤ count p 256
count_upto p v h =
    let k : 256 - v + v ≡ 256 = omega arith in
    subst (λ (z : ℕ). count p v ≤ count p z) k (count_most p v (256 - v))

-- the columns of the nets 1 to k are added: w columns are drawn, and the arrays hold the tracks left
pub record Upto (t n : ℕ) (g l₀ : List ℕ) (k w : ℕ) (l a f low high number : List ℕ) : Type 0 where
  pub columns : w ≡ n + count (remains g) k
  pub holds : Holds t (rest g k) a f low high number
  pub shows : l ≡ take (n * (2 * t + 1)) l₀ ++ (added t g k ++ drop (w * (2 * t + 1)) l₀)
  pub sized : length (added t g k) ≡ count (remains g) k * (2 * t + 1)

module _ {t n : ℕ} {g l₀ : List ℕ} where
  -- no net yet
  upto_none : {a f low high number : List ℕ} → Holds t g a f low high number → Upto t n g l₀ 0 n l₀ a f low high number
  unfolding added rest
  upto_none h =
      record {
        columns = omega (arith, count_zero (remains g));
        holds = h;
        shows = sym (take-append-drop (n * (2 * t + 1)) l₀);
        sized = sym (cc (count_zero (remains g), zero-mul (2 * t + 1)));
      }

  module _ {k w : ℕ} {l a f low high number : List ℕ} (u : Upto t n g l₀ k w l a f low high number) where
    -- a net that has no strands left gets no column
    upto_skip : remains g (suc k) ≡ false → Upto t n g l₀ (suc k) w l a f low high number
    unfolding added rest
    upto_skip e =
        let z : bit (remains g (suc k)) ≡ 0 = ap bit e in
        let c : count (remains g) (suc k) ≡ count (remains g) k = omega (arith, count_more (remains g) k) in
        let r : rest g (suc k) ≡ rest g k = solved.rest_same g k e in
        let d : added t g (suc k) ≡ added t g k = ap (λ (b : Bool). added t g k ++ pick b (verticals t (joining (rest g k) (suc k)) ++ rest g (suc k)) []) e ∙ append-nil (added t g k) in
        record {
          columns = u.columns ∙ ap (λ (y : ℕ). n + y) (sym c);
          holds = subst (λ (y : List ℕ). Holds t y a f low high number) (sym r) u.holds;
          shows = u.shows ∙ ap (λ (y : List ℕ). take (n * (2 * t + 1)) l₀ ++ (y ++ drop (w * (2 * t + 1)) l₀)) (sym d);
          sized = ap length d ∙ u.sized ∙ ap (λ (y : ℕ). y * (2 * t + 1)) (sym c);
        }

    -- one that has strands gets the next column
    upto_join : {l' a' f' low' high' number' : List ℕ} → remains g (suc k) ≡ true → n * (2 * t + 1) ≤ length l₀ → Holds t (clear (suc k) (tracks_in t a)) a' f' low' high' number'
        → l' ≡ with_joining t (tracks_in t a) (suc k) w l → Upto t n g l₀ (suc k) (w + 1) l' a' f' low' high' number'
    unfolding added rest with_joining
    upto_join {l'} {a'} {f'} {low'} {high'} {number'} e hn h j =
        let z : bit (remains g (suc k)) ≡ 1 = ap bit e in
        let c : count (remains g) (suc k) ≡ suc (count (remains g) k) = omega (arith, count_more (remains g) k) in
        let d : added t g (suc k) ≡ D ++ C = ap (λ (b : Bool). added t g k ++ pick b (verticals t (joining (rest g k) (suc k)) ++ rest g (suc k)) []) e in
        let holds' : Holds t (rest g (suc k)) a' f' low' high' number' = subst (λ (y : List ℕ). Holds t (clear (suc k) y) a' f' low' high' number') u.holds.is h in
        let len_p : length P ≡ n * (2 * t + 1) = length-take-le (n * (2 * t + 1)) l₀ hn in
        let len_pd : length (P ++ D) ≡ w * (2 * t + 1) = length-append P D ∙ cc (u.columns, u.sized, add-mul n (count (remains g) k) (2 * t + 1)) in
        let el : l ≡ (P ++ D) ++ R = u.shows ∙ sym (append_assoc P D R) in
        let tk : take (w * (2 * t + 1)) l ≡ P ++ D = ap (take (w * (2 * t + 1))) el ∙ take_at (P ++ D) R (w * (2 * t + 1)) len_pd in
        let dk : drop (w * (2 * t + 1)) l ≡ R = ap (drop (w * (2 * t + 1))) el ∙ drop_at (P ++ D) R (w * (2 * t + 1)) len_pd in
        let dr : drop (w * (2 * t + 1) + (2 * t + 1)) l ≡ Q =
        sym (drop-drop (2 * t + 1) (w * (2 * t + 1)) l) ∙ ap (drop (2 * t + 1)) dk ∙ drop-drop (2 * t + 1) (w * (2 * t + 1)) l₀ ∙ cc (suc-mul w (2 * t + 1), add-one w) in
        let col : verticals t (joining (tracks_in t a) (suc k)) ++ clear (suc k) (tracks_in t a) ≡ C = ap (λ (y : List ℕ). verticals t (joining y (suc k)) ++ clear (suc k) y) u.holds.is in
        let now : l' ≡ (P ++ D) ++ (C ++ Q) = cc in
        let len_c : length C ≡ 2 * t + 1 =
        length-append (verticals t (joining (rest g k) (suc k))) (rest g (suc k))
        ∙ omega (arith, verticals-length t (joining (rest g k) (suc k)), ap length holds'.is, length-tracks t a' holds'.fits holds'.sized) in
        record {
          columns = omega (arith, u.columns);
          holds = holds';
          shows = now ∙ append_assoc P D (C ++ Q) ∙ ap (λ (y : List ℕ). P ++ y) (sym (append_assoc D C Q) ∙ ap (λ (y : List ℕ). y ++ Q) (sym d));
          sized = ap length d ∙ length-append D C ∙ cc (len_c, u.sized, c, suc-mul (count (remains g) k) (2 * t + 1));
        }
      where
        P : List ℕ
        P = take (n * (2 * t + 1)) l₀

        D : List ℕ
        D = added t g k

        R : List ℕ
        R = drop (w * (2 * t + 1)) l₀

        Q : List ℕ
        Q = drop ((w + 1) * (2 * t + 1)) l₀

        C : List ℕ
        C = verticals t (joining (rest g k) (suc k)) ++ rest g (suc k)

module _ (g s : List ℕ) (rem : Remaining g s) where
  -- a member remains, and any other net does not
  pub member-remains : (v : ℕ) → member s v ≡ true → remains g v ≡ true
  member-remains v m = (and_true (not (eqb v 0)) (remains g v) (sym (rem v) ∙ m)).1

  other_done : (j : ℕ) → member s (suc j) ≡ false → remains g (suc j) ≡ false
  other_done j e = ap (λ (y : Bool). not y && remains g (suc j)) (sym (ne_eqb (suc j) 0 (λ q. omega arith))) ∙ sym (rem (suc j)) ∙ e

  -- the members are nets
  pub members_nets : ((v : ℕ) → OnTrack v g → v ≤ 256) → NetsOnly s
  members_nets small v m =
      let p = and_true (not (eqb v 0)) (remains g v) (sym (rem v) ∙ m) in
      (nonzero v p.0, small v (many_on v g (omega (arith, solved.remains-some g v p.1, many-times v g))))

  -- there are as many as nets that remain
  members_counted : count (member s) 256 ≡ count (remains g) 256
  unfolding count
  members_counted = sum_same (λ v. bit (member s v)) (λ v. bit (remains g v)) 256 (λ v a b. ap bit (rem v ∙ ap (λ (y : Bool). not y && remains g v) (ne_eqb v 0 (λ q. omega arith))))

-- net v, the next one, is joined
upto_joined : (t n : ℕ) (g l₀ : List ℕ) (v w : ℕ) {l a f low high number l' a' f' low' high' number' : List ℕ} → (v ≡ 0 → ⊥) → Upto t n g l₀ (reached v) w l a f low high number → remains g v ≡ true
    → n * (2 * t + 1) ≤ length l₀ → Holds t (clear v (tracks_in t a)) a' f' low' high' number' → l' ≡ with_joining t (tracks_in t a) v w l → Upto t n g l₀ v (w + 1) l' a' f' low' high' number'
upto_joined t n g l₀ zero w z u e hn h j = absurd (z refl)
upto_joined t n g l₀ (suc k) w z u e hn h j = upto_join u e hn h j

module _ (t n : ℕ) (g l₀ s : List ℕ) (rem : Remaining g s) (small : (v : ℕ) → OnTrack v g → v ≤ 256) where
  -- the first net that remains
  pub onward_none : (r : ℕ) {a f low high number : List ℕ} → Holds t g a f low high number → Next s 0 r
      → Onward s (λ k. Upto t n g l₀ k n l₀ a f low high number) 0 r
  onward_none r {a} {f} {low} {high} {number} h nx =
      onward_first s (members_nets g s rem small) (λ k. Upto t n g l₀ k n l₀ a f low high number) (λ j e u. upto_skip u (other_done g s rem j e)) r (upto_none h) nx

  -- and the one after net v, once its column is added
  pub onward_joined : (v w r : ℕ) {l a f low high number l' a' f' low' high' number' : List ℕ}
      → (v ≡ 0 → ⊥) → v ≤ 256 → Upto t n g l₀ (reached v) w l a f low high number → remains g v ≡ true → n * (2 * t + 1) ≤ length l₀
      → Holds t (clear v (tracks_in t a)) a' f' low' high' number' → l' ≡ with_joining t (tracks_in t a) v w l → Next s (v + 1) r
      → Onward s (λ k. Upto t n g l₀ k (w + 1) l' a' f' low' high' number') v r
  onward_joined v w r {l} {a} {f} {low} {high} {number} {l'} {a'} {f'} {low'} {high'} {number'} z b u e hn h j nx =
      onward_next s (members_nets g s rem small) (λ k. Upto t n g l₀ k (w + 1) l' a' f' low' high' number') (λ i d y. upto_skip y (other_done g s rem i d)) v r b
      (upto_joined t n g l₀ v w z u e hn h j) nx

-- there is room for its column
pub next_column_fits : (t n : ℕ) (g : List ℕ) (v w m : ℕ) → (v ≡ 0 → ⊥) → v ≤ 256 → remains g v ≡ true → w ≡ n + count (remains g) (reached v) → (n + count (remains g) 256) * (2 * t + 1) ≤ m
    → (w < n + count (remains g) 256) × (w * (2 * t + 1) + (2 * t + 1) ≤ m)
next_column_fits t n g v w m z b e ew h =
    let s : suc w ≤ n + count (remains g) 256 = omega (arith, count_next (remains g) v z e, count_upto (remains g) v b) in
    (s, omega (arith, mul-le-mul_right (2 * t + 1) s, suc-mul w (2 * t + 1)))

-- n columns fit where all do
pub first_fit : (p : ℕ → Bool) (n each l : ℕ) → (n + count p 256) * each ≤ l → n * each ≤ l
first_fit p n each l h =
    let s : n ≤ n + count p 256 = omega arith in
    omega (arith, mul-le-mul_right each s)

-- ---- the whole of a channel

module _ (t : ℕ) (top bottom : List ℕ) where
  -- the width by the tracks left
  width_is : length top + count (remains (gap t top bottom (length top))) 256 ≡ width t top bottom
  unfolding width_by
  width_is = refl

  module _ {a f l h n : List ℕ} (w : Holds t (gap t top bottom (length top)) a f l h n) where
    -- the same by the arrays
    same_width : length top + count (remains (tracks_in t a)) 256 ≡ width t top bottom
    same_width = ap (λ (z : List ℕ). length top + count (remains z) 256) w.is ∙ width_is

    -- all columns fit
    pub fits_all : (m j k : ℕ) → k ≡ j → width t top bottom ≤ m → width t top bottom * (2 * t + 1) ≤ j
        → (length top + count (remains (tracks_in t a)) 256 ≤ m) × ((length top + count (remains (tracks_in t a)) 256) * (2 * t + 1) ≤ k)
    fits_all m j k e p q = rw same_width (p, subst (λ (z : ℕ). width t top bottom * (2 * t + 1) ≤ z) (sym e) q)

    -- the columns swept and the columns added are the layout
    drawn_and_added : (l₀ l₁ l₂ : List ℕ) (r : ℕ) → l₁ ≡ drawn t top bottom (length top) ++ drop (length top * (2 * t + 1)) l₀ → length (drawn t top bottom (length top)) ≡ length top * (2 * t + 1)
        → r ≡ length top + count (remains (tracks_in t a)) 256
        → l₂ ≡ take (length top * (2 * t + 1)) l₁ ++ (added t (tracks_in t a) 256 ++ drop (r * (2 * t + 1)) l₁) → l₂ ≡ layout t top bottom ++ drop (r * (2 * t + 1)) l₀
    unfolding layout_by
    drawn_and_added l₀ l₁ l₂ r e1 el er e2 =
        let D : List ℕ = drawn t top bottom (length top) in
        let k : ℕ = count (remains (tracks_in t a)) 256 in
        let R : List ℕ = drop (length top * (2 * t + 1)) l₀ in
        let M : List ℕ = added t (gap t top bottom (length top)) 256 in
        let tk : take (length top * (2 * t + 1)) l₁ ≡ D = ap (take (length top * (2 * t + 1))) e1 ∙ take_at D R (length top * (2 * t + 1)) el in
        let rk : r * (2 * t + 1) ≡ length D + k * (2 * t + 1) = cc (add-mul (length top) k (2 * t + 1)) in
        let dk : drop (r * (2 * t + 1)) l₁ ≡ drop (r * (2 * t + 1)) l₀ =
        cc (drop-append-add D R (k * (2 * t + 1)), drop-drop (k * (2 * t + 1)) (length top * (2 * t + 1)) l₀) in
        let ad : added t (tracks_in t a) 256 ≡ M = cc w.is in
        let now : l₂ ≡ D ++ (M ++ drop (r * (2 * t + 1)) l₀) = cc in
        now ∙ sym (append_assoc D M (drop (r * (2 * t + 1)) l₀))

    -- a drawing, with its width
    pub all_drawn : (b : Bool) (l₀ l₁ l₂ : List ℕ) (r : ℕ) → b ≡ true → DrawnTo b top bottom t (length top) l₀ l₁ → r ≡ length top + count (remains (tracks_in t a)) 256
        → l₂ ≡ take (length top * (2 * t + 1)) l₁ ++ (added t (tracks_in t a) 256 ++ drop (r * (2 * t + 1)) l₁)
        → (r ≡ width t top bottom) × (l₂ ≡ pick b (layout t top bottom ++ drop (r * (2 * t + 1)) l₀) l₀)
    all_drawn true l₀ l₁ l₂ r z D er e = (er ∙ same_width, drawn_and_added l₀ l₁ l₂ r D.shows D.sized er e)
    all_drawn false l₀ l₁ l₂ r z D er e = absurd (not_both z refl)

    -- a dry run, with the width by the set of the nets that remain
    pub all_dry : (b : Bool) (l₀ l₁ s : List ℕ) (n k : ℕ) → b ≡ false → DrawnTo b top bottom t (length top) l₀ l₁ → Remaining (tracks_in t a) s → n ≡ length top → k ≡ count (member s) 256
        → (n + k ≡ width t top bottom) × (l₁ ≡ pick b (layout t top bottom ++ drop ((n + k) * (2 * t + 1)) l₀) l₀)
    all_dry true l₀ l₁ s n k z D rem en ek = absurd (not_both refl z)
    all_dry false l₀ l₁ s n k z D rem en ek = (cc (members_counted (tracks_in t a) s rem, same_width), D.shows)

  -- the columns 1 to n fit
  pub sweep_fits : (k : ℕ) → width t top bottom * (2 * t + 1) ≤ k → length top * (2 * t + 1) ≤ k
  sweep_fits k h = first_fit (remains (gap t top bottom (length top))) (length top) (2 * t + 1) k (rw width_is h)
