-- The pairs and the set of the unpaired double nets after a column: they change for the column's nets and their mates alone.
use Prim.Native.Nat.{ℕ, ◌≤◌, ◌<◌}
use mathlib.Core.Path.{◌≡◌, refl, sym, ap, ap₂, ◌∙◌}
use mathlib.Core.Bool.{Bool, true, false, not, ◌&&◌}
use mathlib.Core.Logic.{◌⊎◌, inl, inr, ⊎_elim, ◌≢◌}
use mathlib.Core.List.{List}
use native.Mathlib.Omega.{arith}
use native.Mathlib.Decide.{ℕ_discrete, dec_lt}
use lib.Dec.{eqb, ltb}
use lib.ListN.{length, get_or, set, get_or-eq_default, length-set}
use lib.Seq.{get_or-set_same, get_or-set_other}
use Rattle.grid.specs.Channel.{pick}
use Rattle.sets.specs.Member.{member}
use Rattle.sweep.specs.Pairs.{unpair, pair_up}
use Rattle.pairs.specs.Working.{lone_by, LoneAt, MarksLone, MarksLoneThree, ending_by, renewed, Numbers, MarksAllLone}

-- a store keeps numbers up to b
small_set : (b : ℕ) (l : List ℕ) (i x j : ℕ) → x ≤ b → ((k : ℕ) → get_or l k 0 ≤ b) → get_or (set l i x) j 0 ≤ b
small_set b l i x j p h = go (ℕ_discrete j i) (dec_lt i (length l))
  where
    go : Dec (j ≡ i) → Dec (i < length l) → get_or (set l i x) j 0 ≤ b
    go (no n) q = omega (arith, get_or-set_other l i j x 0 n, h j)
    go (yes e) (yes q) = rw e (omega (arith, get_or-set_same l i x 0 q))
    go (yes e) (no q) = rw e (omega (arith, get_or-eq_default (set l i x) 0 {n = i} (omega (arith, length-set l i x))))

-- so does the end of a pair
small_unpair : (b : ℕ) (m : List ℕ) (v j : ℕ) → ((k : ℕ) → get_or m k 0 ≤ b) → get_or (unpair v m) j 0 ≤ b
unfolding unpair
small_unpair b m v j h = small_set b (set m (get_or m v 0) 0) v 0 j (omega arith) (λ k. small_set b m (get_or m v 0) 0 k (omega arith) h)

-- and a column
pub small_renewed : (b : ℕ) (last m : List ℕ) (c p q d s j : ℕ) → d ≤ b → s ≤ b → ((k : ℕ) → get_or m k 0 ≤ b) → get_or (renewed last c p q d s m) j 0 ≤ b
unfolding renewed pair_up
small_renewed b last m c p q d s j x y h =
    small_set b (set m₂ s d) d s j y (λ k. small_set b m₂ s d k x (λ i. small_unpair b (unpair (ending_by last c p) m) (ending_by last c q) i (λ o. small_unpair b m (ending_by last c p) o h)))
  where
    m₂ : List ℕ
    m₂ = unpair (ending_by last c q) (unpair (ending_by last c p) m)

-- net v, or 0
ending_is : (last : List ℕ) (c v : ℕ) → (ending_by last c v ≡ 0) ⊎ (ending_by last c v ≡ v)
unfolding ending_by
ending_is last c v = go (ltb c (get_or last v 0))
  where
    go : (b : Bool) → (pick b 0 v ≡ 0) ⊎ (pick b 0 v ≡ v)
    go true = inl refl
    go false = inr refl

-- a net other than v and its mate keeps its mate
unpair_keeps : (m : List ℕ) (v j : ℕ) → j ≢ v → j ≢ get_or m v 0 → get_or (unpair v m) j 0 ≡ get_or m j 0
unfolding unpair
unpair_keeps m v j a b = get_or-set_other (set m (get_or m v 0) 0) v j 0 0 a ∙ get_or-set_other m (get_or m v 0) j 0 0 b

-- no net is an unpaired double net
zero_told : (number m s : List ℕ) → member s 0 ≡ false → LoneAt number m s 0
unfolding lone_by
zero_told number m s z = z

told_zero : (number m s : List ℕ) → LoneAt number m s 0 → member s 0 ≡ false
unfolding lone_by
told_zero number m s z = z

-- the same mate, told the same
told_same : (number m m' s : List ℕ) (j : ℕ) → get_or m' j 0 ≡ get_or m j 0 → LoneAt number m s j → LoneAt number m' s j
unfolding lone_by
told_same number m m' s j e t = t ∙ ap (λ (x : ℕ). not (eqb j 0) && (eqb (get_or number j 0) 2 && eqb x 0)) (sym e)

-- three nets are marked, one after another
pub three_told : (number m s s₁ s₂ s₃ : List ℕ) (u v w : ℕ) → member s 0 ≡ false → (member s 0 ≡ false → MarksLone number m u s s₁) → (member s₁ 0 ≡ false → MarksLone number m v s₁ s₂)
    → (member s₂ 0 ≡ false → MarksLone number m w s₂ s₃) → MarksLoneThree number m u v w s s₃
three_told number m s s₁ s₂ s₃ u v w z f g h = tells
  where
    z₁ : member s₁ 0 ≡ false
    z₁ = told_zero number m s₁ (f z 0 (inr (zero_told number m s z)))

    z₂ : member s₂ 0 ≡ false
    z₂ = told_zero number m s₂ (g z₁ 0 (inr (zero_told number m s₁ z₁)))

    tells : MarksLoneThree number m u v w s s₃
    tells j (inl e) = h z₂ j (inr (g z₁ j (inr (f z j (inl e)))))
    tells j (inr (inl e)) = h z₂ j (inr (g z₁ j (inl e)))
    tells j (inr (inr (inl e))) = h z₂ j (inl e)
    tells j (inr (inr (inr t))) = h z₂ j (inr (g z₁ j (inr (f z j (inr t)))))

module _ (last number m m₁ m' : List ℕ) (c a p q d s e f g h : ℕ) (ee : e ≡ ending_by last c p) (ef : f ≡ ending_by last c q) (em : m₁ ≡ unpair e m)
    (is : m' ≡ renewed last c p q d s m) (eg : g ≡ get_or m e 0) (eh : h ≡ get_or m₁ f 0) where
  -- a net that the column does not touch keeps its mate
  untouched : (j : ℕ) → j ≢ 0 → j ≢ p → j ≢ q → j ≢ g → j ≢ h → j ≢ d → j ≢ s → get_or m' j 0 ≡ get_or m j 0
  unfolding renewed pair_up
  untouched j z x y u v w k =
      ap (λ (l : List ℕ). get_or l j 0) (is ∙ ap₂ (λ (b n : ℕ). set (set (unpair n (unpair b m)) s d) d s) (sym ee) (sym ef) ∙ ap (λ (l : List ℕ). set (set (unpair f l) s d) d s) (sym em))
      ∙ get_or-set_other (set (unpair f m₁) s d) d j s 0 w ∙ get_or-set_other (unpair f m₁) s j d 0 k
      ∙ unpair_keeps m₁ f j (apart f (rw (← ef) at (ending_is last c q)) y) (λ i. v (i ∙ sym eh))
      ∙ ap (λ (l : List ℕ). get_or l j 0) em
      ∙ unpair_keeps m e j (apart e (rw (← ee) at (ending_is last c p)) x) (λ i. u (i ∙ sym eg))
    where
      apart : (w : ℕ) {v : ℕ} → (w ≡ 0) ⊎ (w ≡ v) → j ≢ v → j ≢ w
      apart w o n i = ⊎_elim (λ b. z (i ∙ b)) (λ b. n (i ∙ b)) o

  -- seven nets are marked, and so all are
  all_told : (s₀ s₁ s₂ s₃ : List ℕ) → (member s₀ 0 ≡ false → MarksLoneThree number m' a p q s₀ s₁) → (member s₁ 0 ≡ false → MarksLoneThree number m' g h d s₁ s₂)
      → (member s₂ 0 ≡ false → MarksLone number m' s s₂ s₃) → MarksAllLone number m m' a p q s₀ s₃
  all_told s₀ s₁ s₂ s₃ one two three z others j = go (ℕ_discrete j a) (ℕ_discrete j p) (ℕ_discrete j q) (ℕ_discrete j g) (ℕ_discrete j h) (ℕ_discrete j d) (ℕ_discrete j s) (ℕ_discrete j 0)
    where
      z₁ : member s₁ 0 ≡ false
      z₁ = told_zero number m' s₁ (one z 0 (inr (inr (inr (zero_told number m' s₀ z)))))

      z₂ : member s₂ 0 ≡ false
      z₂ = told_zero number m' s₂ (two z₁ 0 (inr (inr (inr (zero_told number m' s₁ z₁)))))

      last_of : LoneAt number m' s₂ j → LoneAt number m' s₃ j
      last_of t = three z₂ j (inr t)

      next : LoneAt number m' s₁ j → LoneAt number m' s₃ j
      next t = last_of (two z₁ j (inr (inr (inr t))))

      first : LoneAt number m' s₀ j → LoneAt number m' s₃ j
      first t = next (one z j (inr (inr (inr t))))

      go : Dec (j ≡ a) → Dec (j ≡ p) → Dec (j ≡ q) → Dec (j ≡ g) → Dec (j ≡ h) → Dec (j ≡ d) → Dec (j ≡ s) → Dec (j ≡ 0) → LoneAt number m' s₃ j
      go (yes i) x y u v w k o = next (one z j (inl i))
      go (no b) (yes i) y u v w k o = next (one z j (inr (inl i)))
      go (no b) (no x) (yes i) u v w k o = next (one z j (inr (inr (inl i))))
      go (no b) (no x) (no y) (yes i) v w k o = last_of (two z₁ j (inl i))
      go (no b) (no x) (no y) (no u) (yes i) w k o = last_of (two z₁ j (inr (inl i)))
      go (no b) (no x) (no y) (no u) (no v) (yes i) k o = last_of (two z₁ j (inr (inr (inl i))))
      go (no b) (no x) (no y) (no u) (no v) (no w) (yes i) o = three z₂ j (inl i)
      go (no b) (no x) (no y) (no u) (no v) (no w) (no k) (yes i) = first (rw i (zero_told number m' s₀ z))
      go (no b) (no x) (no y) (no u) (no v) (no w) (no k) (no o) = first (told_same number m m' s₀ j (untouched j o x y u v w k) (others j b x y))

  -- where their numbers are such that a set may hold
  pub tells_all : (s₀ s₁ s₂ s₃ : List ℕ) → (a ≤ 511 → p ≤ 511 → q ≤ 511 → member s₀ 0 ≡ false → MarksLoneThree number m' a p q s₀ s₁)
      → (g ≤ 511 → h ≤ 511 → d ≤ 511 → member s₁ 0 ≡ false → MarksLoneThree number m' g h d s₁ s₂) → (s ≤ 511 → member s₂ 0 ≡ false → MarksLone number m' s s₂ s₃)
      → Numbers a p q d s m → MarksAllLone number m m' a p q s₀ s₃
  tells_all s₀ s₁ s₂ s₃ one two three n =
      all_told s₀ s₁ s₂ s₃ (one n.ended n.above n.below)
      (two (omega (arith, n.mates e)) (omega (arith, ap (λ (l : List ℕ). get_or l f 0) em, small_unpair 511 m e f n.mates)) n.double) (three n.single)

-- the mates, from what the code does one after another
pub renewed_by : (last m m₁ m₂ m₃ : List ℕ) (c p q d s e f : ℕ) → e ≡ ending_by last c p → f ≡ ending_by last c q → m₁ ≡ unpair e m → m₂ ≡ unpair f m₁ → m₃ ≡ pair_up d s m₂
    → m₃ ≡ renewed last c p q d s m
unfolding renewed
renewed_by last m m₁ m₂ m₃ c p q d s e f i j k l o = cc
