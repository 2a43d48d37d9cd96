-- Points where nets only cross.
use Prim.Native.Nat.{ℕ, zero, suc, ◌+◌, ◌-◌, ◌≤◌, ◌<◌}
use mathlib.Core.Path.{◌≡◌, refl, sym, ◌∙◌, subst}
use mathlib.Core.Logic.{◌≢◌, by_cases}
use mathlib.Core.List.{List}
use lib.ListN.{length, get_or}
use lib.Seq.{set-get_or}
use native.Mathlib.Omega.{arith}
use native.Mathlib.Decide.{ℕ_discrete}
use Rattle.pieces.specs.Labels.{net_of}
use Rattle.pieces.proofs.Alone.{Left, earlier, past, left_not}
use Rattle.checker.specs.Working.{ColumnAt, Crossing, Crossings, Labels₃, State, chosen}
use Rattle.checker.proofs.counting.Arrays.{chosen_hit, chosen_other, merge_same, joined_none, begun_none}
use Rattle.checker.proofs.counting.Positions.{room, left_is}
use Rattle.checker.proofs.counting.Step.{alone_up, alone-right, left_given, up_given, right_given, next_state}

-- the edge above a point is the one below the next
pub lower_next : (D : List ℕ) (b k vd : ℕ) → net_of D (b + k + 1) ≡ vd → net_of D (b + (k + 1)) ≡ vd
lower_next D b k vd e = let n : b + (k + 1) ≡ b + k + 1 = omega arith in rw n e

-- the left edges of a column that is not the first stand in the list
pub left_within : (D : List ℕ) (t b q : ℕ) → ColumnAt D t b q → q < length D → q + t < length D
left_within D t b q C l = go (left_is D t b q C)
  where
    go : Left (length D) t b q → q + t < length D
    go (earlier e) = omega (arith, room D t b q C)
    go (past e) = absurd (omega arith)

-- ONE CROSSING
module _
    (D : List ℕ) (t b q : ℕ) (C : ColumnAt D t b q) (j : ℕ) (row : j < t)
    (vl vd ln vu rn : ℕ) (lab begun joined : List ℕ) (s : State D t b q j vl lab begun joined)
    (e₁ : vd ≡ net_of D (b + j)) (e₂ : ln ≡ net_of D (q + j)) (e₃ : vu ≡ net_of D (b + j + 1)) (e₄ : rn ≡ net_of D (b + t + 1 + j))
    (same : vd ≡ vu) (same' : ln ≡ rn) (differ : vd ≢ ln)
  where
    -- where two nets only cross the left edge keeps its label
    plain_left : get_or lab j 0 ≡ chosen ln vd vl (get_or lab j 0)
    plain_left = sym (chosen_other ln vd vl (get_or lab j 0) (λ e. differ (sym e)))

    -- the upper edge takes that of the lower one
    plain_up : (nl : ℕ) → vu ≢ 0 → chosen vu ln nl (chosen vu vd vl (b + j + 1)) ≡ vl
    plain_up nl n =
        chosen_other vu ln nl (chosen vu vd vl (b + j + 1)) (λ e. differ (same ∙ e)) ∙ sym (chosen_hit vu vd vl (b + j + 1) n (sym same))

    -- and the right edge that of the left one
    plain_right : (ul nl o : ℕ) → rn ≢ 0 → chosen rn vu ul (chosen rn ln nl o) ≡ nl
    plain_right ul nl o n =
        chosen_other rn vu ul (chosen rn ln nl o) (λ e. differ (same ∙ sym e ∙ sym same')) ∙ sym (chosen_hit rn ln nl o n (sym same'))

    -- so nothing changes
    plain_state : State D t b q (j + 1) vl lab begun joined
    plain_state =
        let u = b + j + 1 in
        let r = b + t + 1 + j in
        let ll = get_or lab j 0 in
        let o = chosen vu vd vl u in
        let ul = chosen vu ln ll o in
        let o' = chosen rn vd vl r in
        let p = chosen rn ln ll o' in
        let rl = chosen rn vu ul p in
        let x =
        left_given D t b q C j row vl vd ln ll ll lab s.labels e₁ e₂ refl plain_left lab joined joined (merge_same ll ll t lab refl)
        (joined_none ll ll ln joined refl)
        in
        let new-up : vu ≢ 0 → u ≢ ul =
        λ n e. absurd (omega (arith, (alone_up D t b q C j row).only (b + j) (sym (x.0.down (λ z. n (sym same ∙ e₁ ∙ z))) ∙ sym (plain_up ll n) ∙ sym e)))
        in
        let y = up_given D t b q C j row vl ll vd ln vu o ul x.0 e₁ e₂ e₃ refl refl begun begun (begun_none u ul vu begun new-up) in
        let new-right : rn ≢ 0 → r ≢ rl =
        λ n e.
        left_not (length D) t b q j r (left_is D t b q C) row (omega (arith, room D t b q C)) (omega arith)
        ((alone-right D t b q C j row).only (q + j) (sym (y.0.left (λ z. n (sym same' ∙ e₂ ∙ z))) ∙ sym (plain_right ul ll o' n) ∙ sym e))
        in
        let z =
        right_given D t b q C j row vl ll ul vd ln vu rn o' p rl y.0 e₁ e₂ e₃ e₄ refl refl refl begun begun (begun_none r rl rn begun new-right)
        in
        let k : Labels₃ D t b q j vl ll =
        record {
          up = λ n. sym (plain_up ll (λ i. n (sym e₃ ∙ i))) ∙ z.0.up n;
          right = λ n. sym (plain_right ul ll o' (λ i. n (sym e₄ ∙ i))) ∙ z.0.right n;
        }
        in
        rw (set-get_or lab j 0) at
        (next_state D t b q C j row vl vl ll lab lab begun begun begun joined joined s x.1.0 k x.1.1 y.1 z.1)

-- CROSSINGS ONE AFTER ANOTHER
module _ (D : List ℕ) (t b q j : ℕ) where
  -- from a point to itself
  pub crossings_none : j < t → Crossings D t b q j j
  crossings_none l = record { from = omega arith; to = omega arith; each = λ i m n. absurd (omega arith) }

  -- up to the last one
  pub crossings_all : (k : ℕ) → Crossings D t b q j k → t ≤ k → Crossings D t b q j t
  crossings_all k x l = let e : k ≡ t = omega (arith, x.to) in rw e at x

  -- and one more
  pub crossings_more : (k : ℕ) → Crossings D t b q j k → k < t → Crossing D t b q k → Crossings D t b q j (k + 1)
  crossings_more k x l y = record {
    from = omega (arith, x.from);
    to = omega arith;
    each = λ i m n. by_cases (ℕ_discrete i k) (λ e. rw e y) (λ e. x.each i m (omega arith));
  }

  -- over them nothing changes
  pub crossings_state :
      ColumnAt D t b q → (k vl : ℕ) (lab begun joined : List ℕ) → Crossings D t b q j k
      → State D t b q j vl lab begun joined → State D t b q k vl lab begun joined
  crossings_state C k vl lab begun joined x s = let e : j + (k - j) ≡ k = omega (arith, x.from) in subst (λ (i : ℕ). State D t b q i vl lab begun joined) e (go (k - j) (omega (arith, x.from)))
    where
      go : (n : ℕ) → j + n ≤ k → State D t b q (j + n) vl lab begun joined
      go zero l = let e : j + 0 ≡ j = omega arith in rw e s
      go (suc n) l =
          let y = x.each (j + n) (omega arith) (omega arith) in
          let e : j + n + 1 ≡ j + suc n = omega arith in
          subst (λ (i : ℕ). State D t b q i vl lab begun joined) e
          (plain_state D t b q C (j + n) (omega (arith, x.to)) vl _ _ _ _ lab begun joined (go n (omega arith)) refl refl refl refl y.upright
          y.level y.apart)
