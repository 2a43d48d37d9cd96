-- The lowest net on the tracks that passes a test: it passes and stands on a track, and is at most each other one that does.
use Prim.Native.Nat.{ℕ, zero, suc, ◌+◌, ◌≤◌, ◌<◌, min}
use mathlib.Core.Path.{◌≡◌, refl, sym, ap, ap₂, ◌∙◌}
use mathlib.Core.Logic.{◌⊎◌, inl, inr, ◌≢◌, ⊎_elim}
use mathlib.Core.Bool.{Bool, true, false}
use mathlib.Core.List.{List, [], ◌∷◌}
use native.Mathlib.Omega.{arith}
use lib.Dec.{eqb, ltb}
use lib.ListN.{length, get_or}
use Rattle.grid.specs.Channel.{pick, bit, times}
use Rattle.grid.proofs.Tests.{Same, same, same_by, Below, below, above, below_by, eq_bit, eqb_same}
use Rattle.sweep.specs.Tracks.{lesser, lowest_net}

-- the lesser of two nets is none where both are none, and else one of them
lesser_zero : (x y : ℕ) → lesser x y ≡ 0 → (x ≡ 0) × (y ≡ 0)
unfolding lesser
lesser_zero zero y e = (refl, e)
lesser_zero (suc x) zero e = absurd (omega arith)
lesser_zero (suc x) (suc y) e = absurd (omega arith)

lesser_is : (x y : ℕ) → (lesser x y ≡ x) ⊎ (lesser x y ≡ y)
unfolding lesser
lesser_is zero y = inr refl
lesser_is (suc x) zero = inl refl
lesser_is (suc x) (suc y) = go (ltb x y) (below_by x y)
  where
    go : (q : Bool) → Below x y q → (min (suc x) (suc y) ≡ suc x) ⊎ (min (suc x) (suc y) ≡ suc y)
    go true (below h) = inl (omega arith)
    go false (above h) = inr (omega arith)

-- where none is found, no net that stands on a track passes
pub no_net : (p : ℕ → Bool) (l : List ℕ) → lowest_net p l ≡ 0 → (v : ℕ) → v ≢ 0 → p v ≡ true → times v l ≡ 0
unfolding lowest_net times
no_net p [] e v n t = refl
no_net p (x ∷ xs) e v n t =
    let z = lesser_zero (pick (p x) x 0) (lowest_net p xs) e in
    let ih = no_net p xs z.1 v n t in
    go (eqb x v) (same_by x v) z.0 ih
  where
    go : (q : Bool) → Same x v q → pick (p x) x 0 ≡ 0 → times v xs ≡ 0 → bit q + times v xs ≡ 0
    go true (same s) f ih = absurd (n (rw (s, t) at f))
    go false d f ih = omega arith

-- a net that is found passes, and stands on a track
pub a_net : (p : ℕ → Bool) (l : List ℕ) (v : ℕ) → v ≢ 0 → lowest_net p l ≡ v → (p v ≡ true) × (0 < times v l)
unfolding lowest_net times
a_net p [] v n e = absurd (n (sym e))
a_net p (x ∷ xs) v n e =
    ⊎_elim
    (λ h. here (p x) refl (sym h ∙ e))
    (λ h. let ih = a_net p xs v n (sym h ∙ e) in let n = ih.1 in (ih.0, omega arith))
    (lesser_is (pick (p x) x 0) (lowest_net p xs))
  where
    here : (q : Bool) → p x ≡ q → pick q x 0 ≡ v → (p v ≡ true) × (0 < bit (eqb x v) + times v xs)
    here true g f = (ap p (sym f) ∙ g, ⊎_elim (λ d. omega arith) (λ d. absurd (d.0 f)) (eq_bit x v))
    here false g f = absurd (n (sym f))

-- the lesser of two is at most each that is a net
lesser-left : (x y : ℕ) → 0 < x → (0 < lesser x y) × (lesser x y ≤ x)
unfolding lesser
lesser-left zero y h = absurd (omega arith)
lesser-left (suc x) zero h = omega arith
lesser-left (suc x) (suc y) h = omega arith

lesser-right : (x y : ℕ) → 0 < y → (0 < lesser x y) × (lesser x y ≤ y)
unfolding lesser
lesser-right zero y h = omega arith
lesser-right (suc x) zero h = absurd (omega arith)
lesser-right (suc x) (suc y) h = omega arith

-- the lowest is at most each net on a track that passes
pub net_least : (p : ℕ → Bool) (l : List ℕ) (j : ℕ) → j < length l → p (get_or l j 0) ≡ true → 0 < get_or l j 0 → (0 < lowest_net p l) × (lowest_net p l ≤ get_or l j 0)
unfolding lowest_net
net_least p [] j h e n = absurd (omega arith)
net_least p (x ∷ xs) zero h e n = rw e (lesser-left x (lowest_net p xs) n)
net_least p (x ∷ xs) (suc j) h e n =
    let ih = net_least p xs j (omega arith) e n in
    let w = lesser-right (pick (p x) x 0) (lowest_net p xs) ih.0 in
    (w.0, omega arith)

-- two tests that the same nets on the tracks pass find the same net
pub net_by_test : (p q : ℕ → Bool) (l : List ℕ) → ((v : ℕ) → 0 < times v l → p v ≡ q v) → lowest_net p l ≡ lowest_net q l
unfolding lowest_net times
net_by_test p q [] h = refl
net_by_test p q (x ∷ xs) h =
    ap₂ (λ (b : Bool) (m : ℕ). lesser (pick b x 0) m) (h x (omega (arith, eqb_same x))) (net_by_test p q xs (λ v r. h v (omega arith)))
