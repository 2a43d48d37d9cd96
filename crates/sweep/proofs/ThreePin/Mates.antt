-- The mates after a column of a three-pin channel, and that a good action with a pair as it should be keeps the invariant.
use Prim.Native.Nat.{ℕ, suc, ◌+◌, ◌≤◌, ◌<◌}
use mathlib.Core.Path.{◌≡◌, refl, sym, ap, ◌∙◌, subst}
use mathlib.Core.Logic.{◌⊎◌, inl, inr, ◌≢◌, ⊎_elim}
use mathlib.Core.Bool.{Bool, true, false}
use mathlib.Core.List.{List}
use native.Mathlib.Omega.{arith}
use native.Mathlib.Decide.{ℕ_discrete}
use lib.ListN.{length, get_or}
use Rattle.grid.specs.declared.Family.TheVariants.{ThreePin}
use Rattle.grid.specs.Channel.{pick, times, sum, left, right, density, family}
use Rattle.grid.specs.Nets.{last_column}
use Rattle.grid.proofs.Rows.{RowsFit, HasPin}
use Rattle.sweep.specs.declared.Move.{Move}
use Rattle.sweep.specs.Tracks.{after}
use Rattle.sweep.specs.Pairs.{mate, unpair, pair_up}
use Rattle.sweep.specs.Drawing.{later, ending_at, mates_after}
use Rattle.sweep.proofs.Gaps.Held.{Held}
use Rattle.sweep.proofs.Gaps.Pins.{later_by, of_true, of_false}
use Rattle.sweep.proofs.Gaps.Keeps.{keeps}
use Rattle.sweep.proofs.Actions.Good.{Good}
use Rattle.sweep.proofs.ThreePin.Pairs.{Mutual, unpair-length, unpair_zero, unpair-some, unpair_none, unpair_mutual}
use Rattle.sweep.proofs.ThreePin.Pairs.{pair_up-length, pair_up_zero, pair_up_other, pair_up_double, pair_up_single}
use Rattle.sweep.proofs.ThreePin.Weights.{weight}
use Rattle.sweep.proofs.ThreePin.Kept.{Kept, Forms, same_left, same_right, small, no_more_away, cap, free_pin}

-- THE MATES through column c + 1
module _ {t : ℕ} (top bottom : List ℕ) (fit : RowsFit top bottom) (three : family top bottom ≡ ThreePin) (c : ℕ) (tr m : List ℕ)
    (k : Kept t top bottom c tr m) where
  -- the net w that ends here, where it is v
  ends_is : (w v : ℕ) → ending_at top bottom c w ≡ v → v ≢ 0 → (w ≡ v) × (right top bottom (suc c) v ≡ 0)
  unfolding ending_at
  ends_is w v e n = go (later top bottom (suc c) w) refl e
    where
      go : (q : Bool) → later top bottom (suc c) w ≡ q → pick q 0 w ≡ v → (w ≡ v) × (right top bottom (suc c) v ≡ 0)
      go true f i = absurd (n (sym i))
      go false f i = (i, rw i at (let z : right top bottom (suc c) w ≡ 0 = omega (arith, of_false (later_by top bottom (suc c) w (λ z. n (sym i ∙ z))) f) in z))

  -- and where it is not
  ends_not : (w v : ℕ) → ending_at top bottom c w ≢ v → v ≢ 0 → w ≡ v → 0 < right top bottom (suc c) v
  unfolding ending_at
  ends_not w v d n i = go (later top bottom (suc c) w) refl d
    where
      go : (q : Bool) → later top bottom (suc c) w ≡ q → pick q 0 w ≢ v → 0 < right top bottom (suc c) v
      go true f o = rw i at (of_true (later_by top bottom (suc c) w (λ z. n (sym i ∙ z))) f)
      go false f o = absurd (o i)

  -- the nets of the top and the bottom pin, where they end here
  abbrev end_a : ℕ
  end_a = ending_at top bottom c (get_or top c 0)

  abbrev end_b : ℕ
  end_b = ending_at top bottom c (get_or bottom c 0)

  -- the mates once the pair of the top net is ended, if it ends, and then that of the bottom net
  abbrev m₁ : List ℕ
  m₁ = unpair end_a m

  abbrev m₂ : List ℕ
  m₂ = unpair end_b m₁

  -- they are mates still
  mutual₁ : Mutual m₁
  mutual₁ = unpair_mutual end_a m k.none k.mates

  zero₁ : mate 0 m₁ ≡ 0
  zero₁ = unpair_zero end_a m k.none

  mutual₂ : Mutual m₂
  mutual₂ = unpair_mutual end_b m₁ zero₁ mutual₁

  size₂ : length m₂ ≡ 257
  size₂ = unpair-length end_b m₁ ∙ unpair-length end_a m ∙ k.size

  -- a pair that lasts: neither net has a pin here
  lasting : (u w : ℕ) → u ≢ 0 → w ≢ 0 → mate u m₂ ≡ w
      → (mate u m ≡ w) × (get_or top c 0 ≢ u) × (get_or bottom c 0 ≢ u) × (get_or top c 0 ≢ w) × (get_or bottom c 0 ≢ w)
  lasting u w n l e =
      let (f, a, b) = unpair-some end_b m₁ zero₁ mutual₁ u w n l e in
      let (g, i, j) = unpair-some end_a m k.none k.mates u w n l f in
      let h : mate w m ≡ u = k.mates u w n l g in
      let pu = no_pin_lem u n (λ z. l (sym g ∙ z)) in
      let pw = no_pin_lem w l (λ z. n (sym h ∙ z)) in
      (g, pu (get_or top c 0) i inl, pu (get_or bottom c 0) a inr, pw (get_or top c 0) j inl, pw (get_or bottom c 0) b inr)
    where
      no_pin_lem : (v : ℕ) → v ≢ 0 → mate v m ≢ 0 → (p : ℕ) → ending_at top bottom c p ≢ v → (p ≡ v → HasPin top bottom v c) → p ≢ v
      no_pin_lem v n s p d here i = s (free_pin top bottom fit three c tr m k v n (here i) (ends_not p v d n i))

  -- net u, or its mate, has its last pin here
  abbrev pub Parts : ℕ → Type 0
  Parts u = (g : ℕ) × (g ≢ 0) × HasPin top bottom g c × (right top bottom (suc c) g ≡ 0) × ((g ≡ u) ⊎ (g ≡ mate u m))

  -- a net without a mate then had none before, or its pair ends
  parted : (u : ℕ) → u ≢ 0 → mate u m₂ ≡ 0 → (mate u m ≡ 0) ⊎ Parts u
  parted u n e = ⊎_elim by_top by_bottom (unpair_none end_b m₁ zero₁ mutual₁ u n e)
    where
      by_top : mate u m₁ ≡ 0 → (mate u m ≡ 0) ⊎ Parts u
      by_top z =
          ⊎_elim inl (λ d. let (i, j) = ends_is (get_or top c 0) end_a refl d.0 in inr (end_a, d.0, inl i, j, d.1))
          (unpair_none end_a m k.none k.mates u n z)

      by_bottom : (end_b ≢ 0) × ((end_b ≡ u) ⊎ (end_b ≡ mate u m₁)) → (mate u m ≡ 0) ⊎ Parts u
      by_bottom d =
          let (i, j) = ends_is (get_or bottom c 0) end_b refl d.0 in
          inr
          (end_b, d.0, inr i, j, ⊎_elim inl (λ s. inr (sym (unpair-some end_a m k.none k.mates u end_b n d.0 (sym s)).0)) d.1)

  module _ (x : Move) (b : Forms top bottom c tr m x) where
    -- the tracks and the mates after the column
    abbrev pub tr' : List ℕ
    tr' = after x.action tr

    abbrev pub m' : List ℕ
    m' = mates_after top bottom c x m

    -- the new pair's nets are each other's mates
    pub new_double : x.double ≢ 0 → mate x.double m' ≡ x.single
    unfolding mates_after
    new_double d =
        pair_up_double x.double x.single m₂ (omega (arith, size₂, small top bottom fit x.double (suc c) (omega (arith, (b.pair d).pins_d))))

    pub new_single : x.double ≢ 0 → mate x.single m' ≡ x.double
    unfolding mates_after
    new_single d =
        pair_up_single x.double x.single m₂
        (omega (arith, size₂, small top bottom fit x.single (suc c) (omega (arith, (b.pair d).pins_s))))
        (b.pair d).differ

    -- every other net has the mate that it had
    old_mate : (u : ℕ) → u ≢ 0 → (x.double ≢ 0 → (x.double ≢ u) × (x.single ≢ u)) → mate u m' ≡ mate u m₂
    unfolding mates_after
    old_mate u n o = go (ℕ_discrete x.double 0)
      where
        go : Dec (x.double ≡ 0) → mate u (pair_up x.double x.single m₂) ≡ mate u m₂
        go (yes z) = pair_up_other x.double x.single m₂ u (λ i. n (sym i ∙ z)) (λ i. n (sym i ∙ b.none z))
        go (no d) = pair_up_other x.double x.single m₂ u (o d).0 (o d).1

    -- net u is of the new pair, or has the mate that it had
    data Tie (u : ℕ) : Type 0 where
      is_double : x.double ≢ 0 → x.double ≡ u → mate u m' ≡ x.single → Tie u
      is_single : x.double ≢ 0 → x.single ≡ u → mate u m' ≡ x.double → Tie u
      is_old : mate u m' ≡ mate u m₂ → Tie u

    -- by cases
    tie : (u : ℕ) → u ≢ 0 → Tie u
    tie u n = go (ℕ_discrete x.double 0) (ℕ_discrete x.double u) (ℕ_discrete x.single u)
      where
        go : Dec (x.double ≡ 0) → Dec (x.double ≡ u) → Dec (x.single ≡ u) → Tie u
        go (yes z) i j = is_old (old_mate u n (λ d. absurd (d z)))
        go (no d) (yes i) j = is_double d i (ap (λ (z : ℕ). mate z m') (sym i) ∙ new_double d)
        go (no d) (no i) (yes j) = is_single d j (ap (λ (z : ℕ). mate z m') (sym j) ∙ new_single d)
        go (no d) (no i) (no j) = is_old (old_mate u n (λ d. (i, j)))

    -- a net that is unpaired afterwards was before, or its pair ends
    pub unpaired : (u : ℕ) → u ≢ 0 → mate u m' ≡ 0 → (mate u m ≡ 0) ⊎ Parts u
    unpaired u n e = go (tie u n)
      where
        go : Tie u → (mate u m ≡ 0) ⊎ Parts u
        go (is_double d i j) = absurd ((b.pair d).some (sym j ∙ e))
        go (is_single d i j) = absurd (d (sym j ∙ e))
        go (is_old j) = parted u n (sym j ∙ e)

    -- each net is its mate's mate
    mates' : Mutual m'
    mates' u w n l e = go (tie u n)
      where
        -- an old pair has no net of the new one
        untied : mate u m₂ ≡ w → x.double ≢ 0 → (x.double ≢ w) × (x.single ≢ w)
        untied f d =
            let g = (lasting w u l n (mutual₂ u w n l f)).0 in
            ((λ i. n (sym g ∙ ap (λ (z : ℕ). mate z m) (sym i) ∙ (b.pair d).free_d)), (λ i. n (sym g ∙ ap (λ (z : ℕ). mate z m) (sym i) ∙ (b.pair d).free_s)))

        go : Tie u → mate w m' ≡ u
        go (is_double d i j) = ap (λ (z : ℕ). mate z m') (sym e ∙ j) ∙ new_single d ∙ i
        go (is_single d i j) = ap (λ (z : ℕ). mate z m') (sym e ∙ j) ∙ new_double d ∙ i
        go (is_old j) = old_mate w l (untied (sym j ∙ e)) ∙ mutual₂ u w n l (sym j ∙ e)

    -- there are as many places, and net 0 has no mate
    size' : length m' ≡ 257
    unfolding mates_after
    size' = pair_up-length x.double x.single m₂ ∙ size₂

    zero' : mate 0 m' ≡ 0
    unfolding mates_after
    zero' = pair_up_zero x.double x.single m₂ b.none (λ d. (b.pair d).some) (unpair_zero end_b m₁ zero₁)

    module _ (good : Good top bottom c t tr (get_or top c 0) (get_or bottom c 0) x.action) where
      -- the tracks keep their invariant
      pub held_next : Held t top bottom (suc c) tr'
      held_next = keeps top bottom c tr k.held x.action good.0 good.1

      module _ (v : ℕ) (n : v ≢ 0) (s : mate v m' ≢ 0) where
        -- an old pair
        old : mate v m' ≡ mate v m₂
            → (mate v m ≡ mate v m') × (get_or top c 0 ≢ v) × (get_or bottom c 0 ≢ v) × (get_or top c 0 ≢ mate v m') × (get_or bottom c 0 ≢ mate v m')
        old j = lasting v (mate v m') n s (sym j)

        -- the nets of a pair are open with two pins left
        live' : (0 < right top bottom (suc c) v) × (2 ≤ left top bottom (suc c) v)
        live' = go (tie v n)
          where
            go : Tie v → (0 < right top bottom (suc c) v) × (2 ≤ left top bottom (suc c) v)
            go (is_double d i j) = (rw i at (b.pair d).on_d, rw i at (b.pair d).pins_d)
            go (is_single d i j) = (rw i at (b.pair d).on_s, rw i at (b.pair d).pins_s)
            go (is_old j) =
                let (e, p, q, f, g) = old j in
                let l = k.live v n (λ z. s (sym e ∙ z)) in
                (omega (arith, l.0, same_right top bottom c v n p q), omega (arith, l.1, same_left top bottom c v n p q))

        -- one is single
        few' : times v tr' + times (mate v m') tr' ≤ 3
        few' = go (tie v n)
          where
            go : Tie v → times v tr' + times (mate v m') tr' ≤ 3
            go (is_double d i j) =
                subst (λ (z : ℕ). times v tr' + times z tr' ≤ 3) (sym j)
                (omega (arith, cap top bottom fit three (suc c) tr' held_next v n live'.0, (b.pair d).thin))
            go (is_single d i j) =
                subst (λ (z : ℕ). times v tr' + times z tr' ≤ 3) (sym j)
                (omega (
                  arith,
                  cap top bottom fit three (suc c) tr' held_next x.double d (b.pair d).on_d,
                  subst (λ (z : ℕ). times z tr' ≤ 1) i (b.pair d).thin,
                ))
            go (is_old j) =
                let (e, p, q, f, g) = old j in
                omega (
                  arith,
                  subst (λ (z : ℕ). times v tr + times z tr ≤ 3) e (k.few v n (λ z. s (sym e ∙ z))),
                  no_more_away top bottom c tr k.held x.action good v n p q,
                  no_more_away top bottom c tr k.held x.action good (mate v m') s f g,
                )

        -- and the other ends no later
        order' : 2 ≤ times v tr' → last_column top bottom v ≤ last_column top bottom (mate v m')
        order' p = go (tie v n)
          where
            go : Tie v → last_column top bottom v ≤ last_column top bottom (mate v m')
            go (is_double d i j) =
                subst (λ (z : ℕ). last_column top bottom v ≤ last_column top bottom z) (sym j)
                (subst (λ (z : ℕ). last_column top bottom z ≤ last_column top bottom x.single) i (b.pair d).ordered)
            go (is_single d i j) = absurd (omega (arith, subst (λ (z : ℕ). times z tr' ≤ 1) i (b.pair d).thin))
            go (is_old j) =
                let (e, q, r, f, g) = old j in
                subst (λ (z : ℕ). last_column top bottom v ≤ last_column top bottom z) e
                (k.order v n (λ z. s (sym e ∙ z)) (omega (arith, no_more_away top bottom c tr k.held x.action good v n q r)))

      -- THE INVARIANT IS KEPT, if the bound holds
      pub kept_next : sum (weight top bottom (suc c) tr' m') 256 ≤ density top bottom → Kept t top bottom (suc c) tr' m'
      kept_next w = record { held = held_next; size = size'; none = zero'; mates = mates'; live = live'; few = few'; order = order'; bound = w }
