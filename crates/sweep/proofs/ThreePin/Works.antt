-- The moves of three-pin channels: what it takes for one to work, and how the weights of all nets after it are compared with those before.
use Prim.Native.Nat.{ℕ, suc, ◌+◌, ◌*◌, ◌/◌, ◌≤◌, ◌<◌, zero-le}
use mathlib.Core.Path.{◌≡◌, refl, sym, ◌∙◌}
use mathlib.Core.Logic.{◌⊎◌, inl, inr, ◌≢◌, ⊎_elim}
use mathlib.Core.List.{List}
use native.Mathlib.Omega.{arith}
use lib.ListN.{length, get_or}
use Rattle.grid.specs.declared.Family.TheVariants.{ThreePin}
use Rattle.grid.specs.Channel.{times, sum, left, density, family}
use Rattle.grid.proofs.Rows.{RowsFit, HasPin}
use Rattle.sweep.specs.declared.Action.{Action}
use Rattle.sweep.specs.declared.Move.{Move}
use Rattle.sweep.specs.declared.Pin.{Pin}
use Rattle.sweep.specs.declared.Free.{Free}
use Rattle.sweep.specs.Tracks.{after}
use Rattle.sweep.specs.ThreePin.{still}
use Rattle.sweep.specs.Drawing.{mates_after}
use Rattle.sweep.proofs.Tracks.After.{after_ended}
use Rattle.sweep.proofs.Gaps.Pins.{LowestFree, Off, Pinned}
use Rattle.sweep.proofs.Actions.Good.{Good}
use Rattle.sweep.proofs.Rules.Chosen.{by_rows}
use Rattle.sweep.proofs.ThreePin.Weights.{weight}
use Rattle.sweep.proofs.ThreePin.Kept.{Kept, Forms, still-forms}
use Rattle.sweep.proofs.ThreePin.Gains.{pin_gain, pin_lost, settle}

-- A COLUMN of a three-pin channel: the gap left of it, its pins A and B, and the two lowest free tracks f
pub record ThreeColumn (t : ℕ) (top bottom : List ℕ) (c : ℕ) (tr m : List ℕ) (A B : Pin) (f : Free) : Type 0 where
  pub fit : RowsFit top bottom
  pub three : family top bottom ≡ ThreePin
  pub enough : 3 * density top bottom / 2 ≤ t
  pub inside : c < length top
  pub kept : Kept t top bottom c tr m
  pub pin : Pinned top bottom c tr A B
  pub free : LowestFree tr f.first f.second

module _ {t : ℕ} {top bottom : List ℕ} {c : ℕ} {tr m : List ℕ} {A B : Pin} {f : Free} (k : ThreeColumn t top bottom c tr m A B f) where
  -- what a net weighs before a move, and after it
  abbrev pub old_weight : ℕ → ℕ
  old_weight v = weight top bottom c tr m v

  abbrev pub new_weight : Move → ℕ → ℕ
  new_weight x v = weight top bottom (suc c) (after x.action tr) (mates_after top bottom c x m) v

  -- after it all nets weigh the density at most
  abbrev pub Light : Move → Type 0
  Light x = sum (weight top bottom (suc c) (after x.action tr) (mates_after top bottom c x m)) 256 ≤ density top bottom

  -- a move whose action is good, and whose pair may be formed
  pub record GoodMove (x : Move) : Type 0 where
    pub good : Good top bottom c t tr (get_or top c 0) (get_or bottom c 0) x.action
    pub forms : Forms top bottom c tr m x

  -- A MOVE WORKS: the invariant holds after it
  pub record Works (x : Move) : Type 0 where
    pub good_move : GoodMove x
    pub light : Light x

  -- an action that is good for the pins, with no pair
  pub still_good : {x : Action} → Good top bottom c t tr A.net B.net x → GoodMove (still x)
  still_good {x} g = record { good = by_rows k.pin g; forms = still-forms top bottom c tr m x }

  -- THE PINS by the rows

  -- each pin stands in the column
  pub top_pin : HasPin top bottom A.net c
  top_pin = inl k.pin.above.net

  pub bottom_pin : HasPin top bottom B.net c
  bottom_pin = inr k.pin.below.net

  -- and no other
  pub pin_is : {v : ℕ} → HasPin top bottom v c → (A.net ≡ v) ⊎ (B.net ≡ v)
  pin_is (inl i) = inl (sym k.pin.above.net ∙ i)
  pin_is (inr i) = inr (sym k.pin.below.net ∙ i)

  -- pins of different nets
  pub differ : B.net ≢ A.net → get_or bottom c 0 ≢ get_or top c 0
  differ d i = d (sym k.pin.below.net ∙ i ∙ k.pin.above.net)

  -- a net without a pin
  away : {v : ℕ} → A.net ≢ v → B.net ≢ v → (get_or top c 0 ≢ v) × (get_or bottom c 0 ≢ v)
  away a b = ((λ i. ⊎_elim a b (pin_is (inl i))), (λ i. ⊎_elim a b (pin_is (inr i))))

  -- WHAT THE NETS WEIGH AFTER A MOVE

  module _ (x : Move) (w : GoodMove x) where
    -- a net that ends for good has no strand left
    pub gone : (v : ℕ) → v ≢ 0 → Off top bottom c v → (x.action.ended ≡ v) ⊎ (x.action.closed ≡ v) → times v (after x.action tr) ≡ 0
    gone v n r (inl i) = omega (arith, after_ended x.action tr v n (inl i), rw i at (w.good.1.ended_off (λ z. n (sym i ∙ z)) (rw i r)))
    gone v n r (inr i) = omega (arith, after_ended x.action tr v n (inr i), rw i at (w.good.1.closed_off (λ z. n (sym i ∙ z))).1)

    -- v is the only net with a pin here, and gains nothing
    pub alone_light : (v : ℕ) → (v ≢ 0 → new_weight x v ≤ old_weight v) → ((u : ℕ) → u ≢ 0 → v ≢ u → (A.net ≢ u) × (B.net ≢ u)) → Light x
    alone_light v h o =
        settle top bottom k.fit k.three c tr m k.kept x w.forms w.good 0 0 v 0 0 0 0 0
        (λ n. absurd (n refl)) (λ n. absurd (n refl)) (λ n. n) (λ n. absurd (n refl)) (λ n. absurd (n refl))
        (λ n. omega (arith, h n)) (λ n. absurd (n refl)) (λ u n i j y z. let q = o u n y in away q.0 q.1) (λ n. n) (λ n. n) zero-le

    -- a pin's net that ends for good loses 1
    pub end_lost : (v : ℕ) → v ≢ 0 → HasPin top bottom v c → 0 < left top bottom c v → Off top bottom c v → (x.action.ended ≡ v) ⊎ (x.action.closed ≡ v)
        → new_weight x v + 1 ≤ old_weight v
    end_lost v n h l r o = pin_lost top bottom k.fit k.three c tr m k.kept x w.forms w.good v n h l r (gone v n r o)

    module _ (d : B.net ≢ A.net) where
      -- a pin's net gains 1 at most
      pub gain_top : A.net ≢ 0 → new_weight x A.net ≤ old_weight A.net + 1
      gain_top n = pin_gain top bottom k.fit k.three c tr m k.kept x w.forms w.good (differ d) A.net n top_pin

      pub gain_bottom : B.net ≢ 0 → new_weight x B.net ≤ old_weight B.net + 1
      gain_bottom n = pin_gain top bottom k.fit k.three c tr m k.kept x w.forms w.good (differ d) B.net n bottom_pin

      -- v, the net of one pin, ends for good, and u, that of the other, gains 1
      pub end_light : (v u : ℕ) → v ≢ 0 → v ≢ u → HasPin top bottom v c → ((z : ℕ) → v ≢ z → u ≢ z → (A.net ≢ z) × (B.net ≢ z))
          → 0 < left top bottom c v → Off top bottom c v → x.action.ended ≡ v → (u ≢ 0 → new_weight x u ≤ old_weight u + 1)
          → Light x
      end_light v u n o p cover l r i g =
          settle top bottom k.fit k.three c tr m k.kept x w.forms w.good v 0 u 0 1 0 1 0
          (λ n. (n, o, n)) (λ n. absurd (n refl)) (λ n. n) (λ n. (end_lost v n p l r (inl i), l)) (λ n. absurd (n refl)) g (λ n. absurd (n refl))
          (λ z m a b i j. let q = cover z a i in away q.0 q.1) (λ i. n) (λ i. i) (omega arith)

      -- both end for good
      pub ends_light : A.net ≢ 0 → B.net ≢ 0 → new_weight x A.net + 1 ≤ old_weight A.net → new_weight x B.net + 1 ≤ old_weight B.net
          → 0 < left top bottom c A.net → 0 < left top bottom c B.net
          → Light x
      ends_light n o a b l r =
          settle top bottom k.fit k.three c tr m k.kept x w.forms w.good A.net B.net 0 0 1 1 0 0
          (λ n. ((λ i. d (sym i)), n, n)) (λ n. (n, n)) (λ n. absurd (n refl)) (λ n. (a, l)) (λ n. (b, r)) (λ n. absurd (n refl)) (λ n. absurd (n refl))
          (λ v n i j y z. away i j) (λ z. n) (λ z. o) zero-le

  -- a net that has no pin here, and loses e in a move
  pub record Loses (x : Move) (v e : ℕ) : Type 0 where
    pub some : v ≢ 0
    pub not_top : A.net ≢ v
    pub not_bottom : B.net ≢ v
    pub begun : 0 < left top bottom c v
    pub less : new_weight x v + e ≤ old_weight v

  module _ (x : Move) (w : GoodMove x) (d : B.net ≢ A.net) where
    -- the nets v and u (0: none) lose e and i, the top pin's net gains g and the bottom pin's h
    lose : (v u e i g h : ℕ) → (v ≢ 0 → (v ≢ u) × Loses x v e) → (u ≢ 0 → Loses x u i) → (e ≢ 0 → v ≢ 0) → (i ≢ 0 → u ≢ 0)
        → (A.net ≢ 0 → new_weight x A.net ≤ old_weight A.net + g) → (B.net ≢ 0 → new_weight x B.net ≤ old_weight B.net + h) → g + h ≤ e + i
        → Light x
    lose v u e i g h lv lu p q a b =
        settle top bottom k.fit k.three c tr m k.kept x w.forms w.good v u A.net B.net e i g h
        (λ n. let (o, l) = lv n in (o, (λ z. l.not_top (sym z)), (λ z. l.not_bottom (sym z))))
        (λ n. let l = lu n in ((λ z. l.not_top (sym z)), (λ z. l.not_bottom (sym z))))
        (λ n z. d (sym z)) (λ n. let (o, l) = lv n in (l.less, l.begun)) (λ n. let l = lu n in (l.less, l.begun)) a b (λ z n s r y o. away y o) p q

    -- none loses, and the pins' nets gain nothing
    pub keep_light : (A.net ≢ 0 → new_weight x A.net ≤ old_weight A.net) → (B.net ≢ 0 → new_weight x B.net ≤ old_weight B.net) → Light x
    keep_light a b =
        lose 0 0 0 0 0 0 (λ n. absurd (n refl)) (λ n. absurd (n refl)) (λ n. n) (λ n. n) (λ n. omega (arith, a n)) (λ n. omega (arith, b n)) zero-le

    -- one loses what the pins' nets gain
    pub one_light : (v e g h : ℕ) → Loses x v e → (A.net ≢ 0 → new_weight x A.net ≤ old_weight A.net + g)
        → (B.net ≢ 0 → new_weight x B.net ≤ old_weight B.net + h) → g + h ≤ e
        → Light x
    one_light v e g h l a b r = lose v 0 e 0 g h (λ n. (n, l)) (λ n. absurd (n refl)) (λ n. l.some) (λ n. n) a b (omega arith)

    -- two lose 1 each
    pub two_light : (v u : ℕ) → v ≢ u → Loses x v 1 → Loses x u 1 → Light x
    two_light v u o l s = lose v u 1 1 1 1 (λ n. (o, l)) (λ n. s) (λ n. l.some) (λ n. s.some) (gain_top x w d) (gain_bottom x w d) (omega arith)
