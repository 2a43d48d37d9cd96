-- Tracks two by two, and what two nets that start, or end crossed, do to two neighbouring tracks. Assumes nothing.
use Prim.Native.Nat.{ℕ, zero, suc, ◌+◌, ◌*◌, ◌≤◌, ◌<◌}
use mathlib.Core.Path.{◌≡◌, refl, sym, ap, ap₂, ◌∙◌}
use mathlib.Core.Logic.{inl, inr, ◌≢◌}
use mathlib.Core.Bool.{Bool}
use mathlib.Core.List.{List, [], ◌∷◌, ◌++◌, append_assoc, map-append}
use native.Mathlib.Omega.{arith}
use lib.Dec.{eqb}
use lib.ListN.{length, get_or, set, drop, length-append}
use lib.Seq.{set_at, get_or_at}
use Rattle.grid.specs.Channel.{pick, times}
use Rattle.grid.proofs.Tests.{eqb_diff, bit_none, eq-eqb, ne_eqb}
use Rattle.sweep.specs.declared.Pin.{Pin}
use Rattle.sweep.specs.Tracks.{strands_from, strands, first, lowest, second, highest, give, clear, after}
use Rattle.sweep.specs.Rules.{straight, both_take_free, top_ends}
use Rattle.sweep.specs.Drawing.{free_of}
use Rattle.sweep.proofs.Tracks.Strands.{between}
use Rattle.sweep.proofs.Tracks.Changed.{clear_idle}

-- TWO BY TWO

-- f i, g i, f (i + 1), g (i + 1), ..: j times
unfoldable pub in_turn : (f g : ℕ → ℕ) (j i : ℕ) → List ℕ
in_turn f g zero i = []
in_turn f g (suc j) i = f i ∷ g i ∷ in_turn f g j (suc i)

module _ (f g : ℕ → ℕ) where
  pub in_turn_length : (j i : ℕ) → length (in_turn f g j i) ≡ 2 * j
  unfolding in_turn
  in_turn_length zero i = refl
  in_turn_length (suc j) i = omega (arith, in_turn_length j (suc i))

  -- the last two
  in_turn_last : (j i k : ℕ) → i + j ≡ k → in_turn f g (suc j) i ≡ in_turn f g j i ++ (f k ∷ g k ∷ [])
  unfolding in_turn
  in_turn_last zero i k e = let d : i ≡ k = omega arith in ap (λ (z : ℕ). f z ∷ g z ∷ []) d
  in_turn_last (suc j) i k e = ap (λ (l : List ℕ). f i ∷ g i ∷ l) (in_turn_last j (suc i) k (omega arith))

  -- two more, and what stands behind them
  pub in_turn_more : (j : ℕ) (l : List ℕ) → in_turn f g j 0 ++ (f j ∷ g j ∷ l) ≡ in_turn f g (suc j) 0 ++ l
  in_turn_more j l =
      sym (append_assoc (in_turn f g j 0) (f j ∷ g j ∷ []) l) ∙ ap (λ (z : List ℕ). z ++ l) (sym (in_turn_last j 0 j (omega arith)))

  -- a number that is none of them
  pub in_turn_none : (v j i : ℕ) → ((k : ℕ) → i ≤ k → k < i + j → (f k ≢ v) × (g k ≢ v)) → times v (in_turn f g j i) ≡ 0
  unfolding in_turn times
  in_turn_none v zero i h = refl
  in_turn_none v (suc j) i h =
      let (a, b) = h i (omega arith) (omega arith) in
      omega (arith, eqb_diff (f i) v a, eqb_diff (g i) v b, in_turn_none v j (suc i) (λ k p q. h k (omega arith) (omega arith)))

-- TRACKS

-- the strands of a net that is not on the first tracks
strands_skip : (y v : ℕ) (p l : List ℕ) → times v p ≡ 0 → strands_from y v (p ++ l) ≡ strands_from (y + length p) v l
unfolding strands_from times
strands_skip y v [] l e = let d : y ≡ y + 0 = omega arith in ap (λ (z : ℕ). strands_from z v l) d
strands_skip y v (x ∷ p) l e =
    let d : suc y + length p ≡ y + suc (length p) = omega arith in
    ap (λ (b : Bool). pick b (y ∷ strands_from (suc y) v (p ++ l)) (strands_from (suc y) v (p ++ l))) (bit_none (eqb x v) (omega arith))
    ∙ strands_skip (suc y) v p l (omega arith)
    ∙ ap (λ (z : ℕ). strands_from z v l) d

-- where all runs straight nothing changes
pub after-straight : (tr : List ℕ) → after straight tr ≡ tr
unfolding after give
after-straight tr = clear_idle 0 (clear 0 tr) (inl refl) ∙ clear_idle 0 tr (inl refl)

-- TWO NEIGHBOURING TRACKS, m + 1 and m + 2, behind the tracks p
module _ (p l : List ℕ) (m : ℕ) (size : length p ≡ m) where
  -- the second of them
  next : (x y : ℕ) → p ++ x ∷ y ∷ l ≡ (p ++ x ∷ []) ++ y ∷ l
  next x y = sym (append_assoc p (x ∷ []) (y ∷ l))

  next_size : (x : ℕ) → length (p ++ x ∷ []) ≡ suc m
  next_size x = omega (arith, length-append p (x ∷ []))

  -- TWO NETS THAT START, where they are the lowest free ones: the bottom pin's net takes the lower, the top pin's the higher
  module _ (z : times 0 p ≡ 0) where
    free_lower : lowest 0 (p ++ 0 ∷ 0 ∷ l) ≡ suc m
    unfolding lowest strands first strands_from
    free_lower = ap first (strands_skip 1 0 p (0 ∷ 0 ∷ l) z) ∙ omega arith

    free_higher : second 0 (p ++ 0 ∷ 0 ∷ l) ≡ suc (suc m)
    unfolding second strands first strands_from
    free_higher = ap (λ (s : List ℕ). first (drop 1 s)) (strands_skip 1 0 p (0 ∷ 0 ∷ l) z) ∙ omega arith

    pub after_start : (a b : ℕ) → after (both_take_free (free_of (p ++ 0 ∷ 0 ∷ l)) a b) (p ++ 0 ∷ 0 ∷ l) ≡ p ++ b ∷ a ∷ l
    unfolding after give free_of
    after_start a b =
        rw (free_lower, free_higher, clear_idle 0 (p ++ 0 ∷ 0 ∷ l) (inl refl), clear_idle 0 (p ++ 0 ∷ 0 ∷ l) (inl refl), set_at p 0 (0 ∷ l) b m size)
        (ap (λ (t : List ℕ). set t (suc m) a) (next b 0) ∙ set_at (p ++ b ∷ []) 0 l a (suc m) (next_size b) ∙ sym (next b a))

  -- TWO NETS THAT END CROSSED: the top pin's net a holds the lower one, and is nowhere else; the bottom pin's net b the higher
  module _ (a b : ℕ) (k : b ≢ 0) (d : a ≢ b) (z : times a p ≡ 0) where
    lower_is : lowest a (p ++ a ∷ b ∷ l) ≡ suc m
    unfolding lowest strands first strands_from
    lower_is =
        ap first (strands_skip 1 a p (a ∷ b ∷ l) z)
        ∙ ap (λ (q : Bool). first (pick q ((1 + length p) ∷ strands_from (suc (1 + length p)) a (b ∷ l)) (strands_from (suc (1 + length p)) a (b ∷ l))))
        (eq-eqb a a refl)
        ∙ omega arith

    -- they are crossed
    pub crossed : lowest a (p ++ a ∷ b ∷ l) ≤ highest b (p ++ a ∷ b ∷ l)
    crossed =
        omega (
          arith,
          lower_is,
          between b (p ++ a ∷ b ∷ l) (suc m) (omega (arith, length-append p (a ∷ b ∷ l)))
              (ap (λ (t : List ℕ). get_or t (suc m) 0) (next a b) ∙ get_or_at (p ++ a ∷ []) b l 0 (suc m) (next_size a)),
        )

    -- a ends
    cleared : times a l ≡ 0 → clear a (p ++ a ∷ b ∷ l) ≡ p ++ 0 ∷ b ∷ l
    unfolding clear
    cleared u =
        map-append (λ x. pick (eqb x a) 0 x) p (a ∷ b ∷ l)
        ∙ ap₂ ◌++◌ (clear_idle a p (inr z))
        (ap₂ (λ (q s : Bool). pick q 0 a ∷ pick s 0 b ∷ clear a l) (eq-eqb a a refl) (ne_eqb b a (λ e. d (sym e)))
        ∙ ap (λ (x : List ℕ). 0 ∷ b ∷ x) (clear_idle a l (inr u)))

    -- and b takes its track beside its own
    pub after_cross : times a l ≡ 0 → (A B : Pin) → A.net ≡ a → B.net ≡ b → A.low ≡ lowest a (p ++ a ∷ b ∷ l)
        → after (top_ends A B) (p ++ a ∷ b ∷ l) ≡ p ++ b ∷ b ∷ l
    unfolding after give
    after_cross u A B e f g =
        rw (e, f, g, lower_is, ne_eqb b 0 k, cleared u, clear_idle 0 (p ++ 0 ∷ b ∷ l) (inl refl), set_at p 0 (b ∷ l) b m size)
