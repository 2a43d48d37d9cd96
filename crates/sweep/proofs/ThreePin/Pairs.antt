-- The net that ends last, and the mates: what they are after a pair ends or is formed. Assumes nothing.
use Prim.Native.Nat.{ℕ, zero, suc, ◌≤◌, ◌<◌}
use mathlib.Core.Path.{◌≡◌, refl, sym, ap, ◌∙◌, subst}
use mathlib.Core.Logic.{◌⊎◌, inl, inr, ◌≢◌, ⊎_elim}
use mathlib.Core.Bool.{Bool, true, false, ◌&&◌, ◌||◌}
use mathlib.Core.List.{List, [], ◌∷◌}
use native.Mathlib.Omega.{arith}
use native.Mathlib.Decide.{ℕ_discrete}
use lib.Dec.{T, eqb, ltb}
use lib.ListN.{length, set, length-set}
use lib.Seq.{get_or-set_same, get_or-set_other}
use Rattle.grid.specs.Channel.{pick}
use Rattle.grid.proofs.Tests.{Same, same, diff, same_by, Below, below, above, below_by}
use Rattle.sweep.specs.Pairs.{mate, unpair, pair_up, latest_to}

-- THE NET THAT ENDS LAST, of the nets 1 to k that pass a test
module _ (e : ℕ → ℕ) (p : ℕ → Bool) where
  -- where none is found, none passes
  pub no_latest : (k : ℕ) → latest_to e p k ≡ 0 → (v : ℕ) → v ≢ 0 → v ≤ k → p v ≡ false
  unfolding latest_to
  no_latest zero i v n h = absurd (omega arith)
  no_latest (suc k) i v n h = go (p (suc k)) refl (eqb w 0) (same_by w 0) (ltb (e w) (e (suc k))) i (λ j l. no_latest k j v n l)
    where
      w : ℕ
      w = latest_to e p k

      at : Dec (v ≡ suc k) → p (suc k) ≡ false → (v ≤ k → p v ≡ false) → p v ≡ false
      at (yes d) f ih = ap p d ∙ f
      at (no d) f ih = ih (omega arith)

      go : (q : Bool) → p (suc k) ≡ q → (z : Bool) → Same w 0 z → (l : Bool) → pick (q && (z || l)) (suc k) w ≡ 0 → (w ≡ 0 → v ≤ k → p v ≡ false)
          → p v ≡ false
      go true f true s l j ih = absurd (omega arith)
      go true f false s true j ih = absurd (omega arith)
      go true f false (diff d) false j ih = absurd (d j)
      go false f z s l j ih = at (ℕ_discrete v (suc k)) f (ih j)

  -- a net that is found passes
  pub a_latest : (k v : ℕ) → v ≢ 0 → latest_to e p k ≡ v → (p v ≡ true) × (v ≤ k)
  unfolding latest_to
  a_latest zero v n i = absurd (n (sym i))
  a_latest (suc k) v n i = go (p (suc k)) refl (eqb w 0 || ltb (e w) (e (suc k))) i (λ j. a_latest k v n j)
    where
      w : ℕ
      w = latest_to e p k

      more : (p v ≡ true) × (v ≤ k) → (p v ≡ true) × (v ≤ suc k)
      more (f, h) = (f, omega arith)

      go : (q : Bool) → p (suc k) ≡ q → (l : Bool) → pick (q && l) (suc k) w ≡ v → (w ≡ v → (p v ≡ true) × (v ≤ k)) → (p v ≡ true) × (v ≤ suc k)
      go true f true j ih = (ap p (sym j) ∙ f, omega arith)
      go true f false j ih = more (ih j)
      go false f l j ih = more (ih j)

  -- none that passes ends later
  pub latest_most : (k v : ℕ) → v ≢ 0 → v ≤ k → p v ≡ true → e v ≤ e (latest_to e p k)
  unfolding latest_to
  latest_most zero v n h t = absurd (omega arith)
  latest_most (suc k) v n h t =
      go (p (suc k)) refl (eqb w 0) (same_by w 0) (ltb (e w) (e (suc k))) (below_by (e w) (e (suc k))) (ℕ_discrete v (suc k)) (λ l. latest_most k v n l t)
      (λ z l. no_latest k z v n l)
    where
      w : ℕ
      w = latest_to e p k

      go : (q : Bool) → p (suc k) ≡ q → (z : Bool) → Same w 0 z → (l : Bool) → Below (e w) (e (suc k)) l → Dec (v ≡ suc k)
          → (v ≤ k → e v ≤ e w) → (w ≡ 0 → v ≤ k → p v ≡ false) → e v ≤ e (pick (q && (z || l)) (suc k) w)
      go true f true s l b (yes d) ih none = let x = ap e d in omega arith
      go true f true (same s) l b (no d) ih none = absurd (subst T (sym t ∙ none s (omega arith)) tt)
      go true f false s true b (yes d) ih none = let x = ap e d in omega arith
      go true f false s true (below b) (no d) ih none = omega (arith, ih (omega arith))
      go true f false s false (above b) (yes d) ih none = let x = ap e d in omega arith
      go true f false s false b (no d) ih none = ih (omega arith)
      go false f z s l b (yes d) ih none = absurd (subst T (sym t ∙ ap p d ∙ f) tt)
      go false f z s l b (no d) ih none = ih (omega arith)

-- MATES

-- each net is its mate's mate
abbrev pub Mutual : List ℕ → Type 0
Mutual m = (u w : ℕ) → u ≢ 0 → w ≢ 0 → mate u m ≡ w → mate w m ≡ u

-- a place that is set to 0 holds 0, past the end too
cleared : (v : ℕ) (m : List ℕ) → mate v (set m v 0) ≡ 0
cleared v [] = refl
cleared zero (x ∷ xs) = refl
cleared (suc v) (x ∷ xs) = cleared v xs

-- the mate of another net than those that are set
other : (v y u : ℕ) (m : List ℕ) → y ≢ v → mate v (set m y u) ≡ mate v m
other v y u m n = get_or-set_other m y v u 0 (λ i. n (sym i))

-- THE PAIR OF NET f ENDS
module _ (f : ℕ) (m : List ℕ) where
  -- each net keeps its mate, or is one of the pair and has none
  unpair_at : (u : ℕ) → ((mate u (unpair f m) ≡ mate u m) × (f ≢ u) × (mate f m ≢ u)) ⊎ ((mate u (unpair f m) ≡ 0) × ((f ≡ u) ⊎ (mate f m ≡ u)))
  unfolding unpair
  unpair_at u = go (ℕ_discrete f u) (ℕ_discrete (mate f m) u)
    where
      go : Dec (f ≡ u) → Dec (mate f m ≡ u)
          → ((mate u (set (set m (mate f m) 0) f 0) ≡ mate u m) × (f ≢ u) × (mate f m ≢ u))
          ⊎ ((mate u (set (set m (mate f m) 0) f 0) ≡ 0) × ((f ≡ u) ⊎ (mate f m ≡ u)))
      go (yes e) d = inr (subst (λ (z : ℕ). mate u (set (set m (mate f m) 0) z 0) ≡ 0) (sym e) (cleared u (set m (mate f m) 0)), inl e)
      go (no d) (yes e) = inr (other u f 0 (set m (mate f m) 0) d ∙ subst (λ (z : ℕ). mate u (set m z 0) ≡ 0) (sym e) (cleared u m), inr e)
      go (no d) (no e) = inl (other u f 0 (set m (mate f m) 0) d ∙ other u (mate f m) 0 m e, d, e)

  -- there are as many places as before
  pub unpair-length : length (unpair f m) ≡ length m
  unfolding unpair
  unpair-length = length-set (set m (mate f m) 0) f 0 ∙ length-set m (mate f m) 0

  module _ (zero-none : mate 0 m ≡ 0) where
    -- net 0 has no mate still
    pub unpair_zero : mate 0 (unpair f m) ≡ 0
    unpair_zero = ⊎_elim (λ d. d.0 ∙ zero-none) (λ d. d.0) (unpair_at 0)

    -- net 0 is no net's mate
    some_f : (u : ℕ) → u ≢ 0 → mate f m ≡ u → f ≢ 0
    some_f u n e z = n (sym e ∙ ap (λ (i : ℕ). mate i m) z ∙ zero-none)

    module _ (s : Mutual m) where
      -- a pair that stays was one before, and is another
      pub unpair-some : (u w : ℕ) → u ≢ 0 → w ≢ 0 → mate u (unpair f m) ≡ w → (mate u m ≡ w) × (f ≢ u) × (f ≢ w)
      unpair-some u w n k e =
          ⊎_elim
          (λ d. (sym d.0 ∙ e, d.1, λ i. d.2 (ap (λ (z : ℕ). mate z m) i ∙ s u w n k (sym d.0 ∙ e))))
          (λ d. absurd (k (sym e ∙ d.0)))
          (unpair_at u)

      -- a net without a mate had none before, or is one of the pair
      pub unpair_none : (u : ℕ) → u ≢ 0 → mate u (unpair f m) ≡ 0 → (mate u m ≡ 0) ⊎ ((f ≢ 0) × ((f ≡ u) ⊎ (f ≡ mate u m)))
      unpair_none u n e =
          ⊎_elim
          (λ d. inl (sym d.0 ∙ e))
          (λ d. inr (⊎_elim (λ i. ((λ z. n (sym i ∙ z)), inl i)) (λ i. (some_f u n i, inr (sym (s f u (some_f u n i) n i)))) d.1))
          (unpair_at u)

      -- each net is still its mate's mate
      pub unpair_mutual : Mutual (unpair f m)
      unpair_mutual u w n k e =
          let (g, a, b) = unpair-some u w n k e in
          ⊎_elim
          (λ d. d.0 ∙ s u w n k g)
          (λ d. absurd (⊎_elim b (λ i. a (sym (s f w (some_f w k i) k i) ∙ s u w n k g)) d.1))
          (unpair_at w)

-- THE NETS D AND S BECOME A PAIR
module _ (D S : ℕ) (m : List ℕ) where
  -- there are as many places as before
  pub pair_up-length : length (pair_up D S m) ≡ length m
  unfolding pair_up
  pair_up-length = length-set (set m S D) D S ∙ length-set m S D

  -- every other net keeps its mate
  pub pair_up_other : (u : ℕ) → D ≢ u → S ≢ u → mate u (pair_up D S m) ≡ mate u m
  unfolding pair_up
  pair_up_other u d s = other u D S (set m S D) d ∙ other u S D m s

  -- the mate of D is S
  pub pair_up_double : D < length m → mate D (pair_up D S m) ≡ S
  unfolding pair_up
  pair_up_double p = get_or-set_same (set m S D) D S 0 (omega (arith, length-set m S D))

  -- and that of S is D
  pub pair_up_single : S < length m → D ≢ S → mate S (pair_up D S m) ≡ D
  unfolding pair_up
  pair_up_single p d = other S D S (set m S D) d ∙ get_or-set_same m S D 0 p

  -- net 0 has no mate still, where D and S are nets, or both none
  pub pair_up_zero : (D ≡ 0 → S ≡ 0) → (D ≢ 0 → S ≢ 0) → mate 0 m ≡ 0 → mate 0 (pair_up D S m) ≡ 0
  unfolding pair_up
  pair_up_zero a b z = go (ℕ_discrete D 0)
    where
      go : Dec (D ≡ 0) → mate 0 (set (set m S D) D S) ≡ 0
      go (yes e) = rw (e, a e) (cleared 0 (set m 0 0))
      go (no d) = other 0 D S (set m S D) d ∙ other 0 S D m (b d) ∙ z
