-- The columns added after column n: the tracks left net by net, that each added column fits, and how many there are.
use Prim.Native.Nat.{ℕ, zero, suc, ◌+◌, ◌*◌, ◌≤◌, ◌<◌}
use mathlib.Core.Path.{◌≡◌, refl, sym, ap, ◌∙◌, subst, subst₂}
use mathlib.Core.Logic.{◌⊎◌, inr, ◌≢◌, ⊎_elim}
use mathlib.Core.Bool.{Bool, true, false}
use mathlib.Core.List.{List, [], ◌++◌, append_assoc, append-nil}
use native.Mathlib.Omega.{arith}
use native.Mathlib.Nat.{add-zero}
use lib.ListN.{length, get_or}
use Rattle.grid.specs.Channel.{pick, bit, times, sum, count}
use Rattle.grid.proofs.Tests.{ltb-true, ltb-false}
use Rattle.grid.proofs.Counting.{sum_le, sum_scale, sum-times, length-times}
use Rattle.grid.proofs.Drawings.Columns.{Column, Drawn, Lives, more}
use Rattle.sweep.specs.Tracks.{after, verticals}
use Rattle.sweep.specs.Drawing.{remains, rest, joining, added}
use Rattle.sweep.proofs.Tracks.Strands.{many-times}
use Rattle.sweep.proofs.Tracks.After.{length-clear, clear_back, clear_keep, times_more}
use Rattle.sweep.proofs.Tracks.Changed.{clear_idle}
use Rattle.sweep.proofs.Columns.Entries.{verticals-length}
use Rattle.sweep.proofs.Columns.Sound.{on, column}
use Rattle.sweep.proofs.Actions.Joins.{joining_sound, after-joining}

module _ (g : List ℕ) where
  -- THE TRACKS LEFT
  rest-length : (v : ℕ) → length (rest g v) ≡ length g
  unfolding rest
  rest-length zero = refl
  rest-length (suc v) = length-clear (suc v) (rest g v) ∙ rest-length v

  -- a net left is over v, and stands where it stood
  pub rest_back : (v j N : ℕ) → N ≢ 0 → get_or (rest g v) j 0 ≡ N → (get_or g j 0 ≡ N) × (v < N)
  unfolding rest
  rest_back zero j N n e = (e, omega arith)
  rest_back (suc v) j N n e =
      let (f, d) = clear_back (suc v) (rest g v) j N n e in
      let (h, p) = rest_back v j N n f in
      (h, omega arith)

  -- a net over v is left
  rest_keep : (v j N : ℕ) → get_or g j 0 ≡ N → v < N → get_or (rest g v) j 0 ≡ N
  unfolding rest
  rest_keep zero j N e p = e
  rest_keep (suc v) j N e p = clear_keep (suc v) (rest g v) j N (omega arith) (rest_keep v j N e (omega arith))

  -- with all its strands
  pub rest-times : (v N : ℕ) → v < N → times N (rest g v) ≡ times N g
  rest-times v N p =
      omega (
        arith,
        times_more N (rest g v) g (omega arith) (λ j e. (rest_back v j N (omega arith) e).0),
        times_more N g (rest g v) (omega arith) (λ j e. rest_keep v j N e p),
      )

  -- a net that remains has strands, and one that does not has none
  pub remains-some : (v : ℕ) → remains g v ≡ true → 0 < times v g
  unfolding remains
  remains-some v e = omega (arith, ltb-true, many-times v g)

  remains_none : (v : ℕ) → remains g v ≡ false → times v g ≡ 0
  unfolding remains
  remains_none v e = omega (arith, ltb-false, many-times v g)

  -- where net v + 1 has none, the tracks left stay as they are
  pub rest_same : (v : ℕ) → remains g (suc v) ≡ false → rest g (suc v) ≡ rest g v
  unfolding rest
  rest_same v e = clear_idle (suc v) (rest g v) (inr (rest-times v (suc v) (omega arith) ∙ remains_none (suc v) e))

  -- no net has a single strand
  abbrev pub Done : Type 0
  Done = (v : ℕ) → v ≢ 0 → (times v g ≡ 0) ⊎ (2 ≤ times v g)

  -- so one that remains has two or more
  remains_two : Done → (v : ℕ) → v ≢ 0 → remains g v ≡ true → 1 < times v g
  remains_two done v n e = ⊎_elim (λ z. absurd (omega (arith, remains-some v e))) (λ z. z) (done v n)

  -- THE COLUMNS ADDED FIT, after k columns with the gap g and no pins from there on
  module _ (top bottom : List ℕ) (t : ℕ) (size : length g ≡ t) (k : ℕ) (D : List ℕ) (drawn : Drawn top bottom t k D g)
      (no_top : (x : ℕ) → k ≤ x → get_or top x 0 ≡ 0) (no-bottom : (x : ℕ) → k ≤ x → get_or bottom x 0 ≡ 0)
      (done : Done) where
    -- the column that joins net v + 1
    joining-column : (x v : ℕ) → k ≤ x → 1 < times (suc v) g
        → Column t (get_or top x 0) (get_or bottom x 0) (on (rest g v)) (λ y. get_or (verticals t (joining (rest g v) (suc v))) y 0) (on (rest g (suc v)))
    unfolding rest
    joining-column x v p q =
        subst (λ (l : List ℕ). Column t (get_or top x 0) (get_or bottom x 0) (on (rest g v)) (λ y. get_or (verticals t (joining (rest g v) (suc v))) y 0) (on l))
        (after-joining (rest g v) (suc v))
        (subst₂ (λ (P Q : ℕ). Column t P Q (on (rest g v)) (λ y. get_or (verticals t (joining (rest g v) (suc v))) y 0)
        (on (after (joining (rest g v) (suc v)) (rest g v)))) (sym (no_top x p)) (sym (no-bottom x p))
        (column t 0 0 (rest g v) (joining (rest g v) (suc v)) (joining_sound t (rest g v) (rest-length v ∙ size) (suc v) (omega arith)
        (omega (arith, rest-times v (suc v) (omega arith))))))

    -- no net has a pin there
    no_lives : (x : ℕ) (L : ℕ → ℕ) → k ≤ x → Lives top bottom t x L
    no_lives x L p N m l here = absurd (⊎_elim (λ e. m (sym e ∙ no_top x p)) (λ e. m (sym e ∙ no-bottom x p)) here)

    -- with the columns of the nets up to v, the tracks left are those in the gap
    pub added-drawn : (v : ℕ) → Drawn top bottom t (k + count (remains g) v) (D ++ added t g v) (rest g v)
    unfolding added rest count sum
    added-drawn zero = rw (add-zero, append-nil) drawn
    added-drawn (suc v) = go (remains g (suc v)) refl (added-drawn v)
      where
        go : (q : Bool) → remains g (suc v) ≡ q → Drawn top bottom t (k + count (remains g) v) (D ++ added t g v) (rest g v)
            → Drawn top bottom t (k + (sum (λ u. bit (remains g u)) v + bit q))
            (D ++ (added t g v ++ pick q (verticals t (joining (rest g v) (suc v)) ++ rest g (suc v)) [])) (rest g (suc v))
        go true e d =
            subst₂ (λ (w : ℕ) (l : List ℕ). Drawn top bottom t w l (rest g (suc v))) (omega arith)
            (append_assoc D (added t g v) (verticals t (joining (rest g v) (suc v)) ++ rest g (suc v)))
            (more top bottom t (verticals t (joining (rest g v) (suc v))) (rest g (suc v)) d (verticals-length t _) (rest-length (suc v) ∙ size)
            (joining-column (k + count (remains g) v) v (omega arith) (remains_two done (suc v) (omega arith) e))
            (no_lives (k + count (remains g) v) (on (rest g v)) (omega arith)))
        go false e d =
            subst₂ (λ (w : ℕ) (l : List ℕ). Drawn top bottom t w l (rest g (suc v))) (omega arith)
            (ap (λ (l : List ℕ). D ++ l) (sym (append-nil (added t g v))))
            (subst (λ (l : List ℕ). Drawn top bottom t (k + count (remains g) v) (D ++ added t g v) l)
            (sym (rest_same v e)) d)

  -- HOW MANY: each joins two tracks or more
  pub added_few : Done → (k : ℕ) → 2 * count (remains g) k ≤ length g
  unfolding count sum
  added_few done k = omega (arith, twice k, sum-times g k)
    where
      two : (v : ℕ) → v ≢ 0 → (q : Bool) → remains g v ≡ q → 2 * bit q ≤ times v g
      two v n true e = remains_two done v n e
      two v n false e = omega arith

      twice : (k : ℕ) → 2 * count (remains g) k ≤ sum (λ v. times v g) k
      twice zero = omega arith
      twice (suc k) = omega (arith, twice k, two (suc k) (omega arith) (remains g (suc k)) refl)

  -- AND NO FEWER, where no net has more than two strands: each column added joins two of the tracks that are not free
  pub added-least : ((v : ℕ) → v ≢ 0 → times v g ≤ 2) → ((v : ℕ) → 256 < v → times v g ≡ 0) → length g ≤ times 0 g + 2 * count (remains g) 256
  unfolding count
  added-least few small =
      omega (
        arith,
        length-times g 256 small,
        sum_le (λ v. times v g) (λ v. 2 * bit (remains g v)) 256 (λ v. two (suc v) (omega arith) (remains g (suc v)) refl),
        sum_scale 2 (λ v. bit (remains g v)) 256,
      )
    where
      two : (v : ℕ) → v ≢ 0 → (q : Bool) → remains g v ≡ q → times v g ≤ 2 * bit q
      two v n true e = few v n
      two v n false e = omega (arith, remains_none v e)
