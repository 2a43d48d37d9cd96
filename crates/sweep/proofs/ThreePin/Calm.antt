-- A calm column of a three-pin channel: no pin ends its net and no net is extended. Its pins, its unpaired double nets, and what the nets weigh after it.
use Prim.Native.Nat.{ℕ, suc, ◌≤◌, ◌<◌}
use mathlib.Core.Path.{◌≡◌, sym, ◌∙◌}
use mathlib.Core.Logic.{◌⊎◌, inl, inr, ◌≢◌, ⊎_elim}
use mathlib.Core.List.{List}
use native.Mathlib.Omega.{arith}
use native.Mathlib.Decide.{ℕ_discrete, dec_lt}
use lib.ListN.{get_or}
use Rattle.grid.specs.Channel.{times, left, right}
use Rattle.grid.specs.Nets.{last_column}
use Rattle.grid.proofs.Rows.{HasPin, pin_right}
use Rattle.sweep.specs.declared.Action.{Action}
use Rattle.sweep.specs.declared.Move.{Move}
use Rattle.sweep.specs.declared.Pin.{Pin}
use Rattle.sweep.specs.declared.Free.{Free}
use Rattle.sweep.specs.Tracks.{after}
use Rattle.sweep.specs.Pairs.{mate}
use Rattle.sweep.specs.ThreePin.{pairing}
use Rattle.sweep.specs.Drawing.{mates_after}
use Rattle.sweep.proofs.Gaps.Pins.{On, Off, alone}
use Rattle.sweep.proofs.Gaps.Keeps.{few_more}
use Rattle.sweep.proofs.Actions.Good.{Good}
use Rattle.sweep.proofs.Rules.Chosen.{by_rows}
use Rattle.sweep.proofs.ThreePin.Kept.{pin_or, same_left, same_right, pin_counts, no_more_away, thin_pin, free_pin}
use Rattle.sweep.proofs.ThreePin.Mates.{new_double, new_single, unpaired}
use Rattle.sweep.proofs.ThreePin.Gains.{pin_keep, lone_lost, by_density}
use Rattle.sweep.proofs.ThreePin.Space.{room_cross}
use Rattle.sweep.proofs.ThreePin.Works.{ThreeColumn, old_weight, new_weight, Light, GoodMove, pin_is, differ, Loses}

module _ {t : ℕ} {top bottom : List ℕ} {c : ℕ} {tr m : List ℕ} {A B : Pin} {f : Free} (k : ThreeColumn t top bottom c tr m A B f) where
  -- A CALM COLUMN with a pin
  pub record Calm : Type 0 where
    pub apart : B.net ≢ A.net
    pub on : (v : ℕ) → v ≢ 0 → HasPin top bottom v c → On top bottom c v
    pub calm : (v : ℕ) → v ≢ 0 → right top bottom c v ≡ 0 → times v tr ≡ 0

  -- AN UNPAIRED DOUBLE NET
  pub record Lone (v : ℕ) : Type 0 where
    pub some : v ≢ 0
    pub thick : 2 ≤ times v tr
    pub free : mate v m ≡ 0

  module _ (q : Calm) where
    -- two pins leave a track free
    pub pins_room : A.net ≢ 0 → B.net ≢ 0 → 1 ≤ times 0 tr
    pins_room a b =
        room_cross top bottom k.fit k.three k.enough c k.inside tr m k.kept q.calm q.on (differ k q.apart)
        (λ i. a (sym k.pin.above.net ∙ i)) (λ i. b (sym k.pin.below.net ∙ i))

    -- a pin's net has one strand at most, and a continuing pin's net has one
    pub pin_thin : (v : ℕ) → v ≢ 0 → HasPin top bottom v c → times v tr ≤ 1
    pin_thin v n h = thin_pin top bottom k.fit k.three c tr k.kept.held v n h (q.on v n h)

    pub one_strand : (v : ℕ) → v ≢ 0 → HasPin top bottom v c → 0 < left top bottom c v → times v tr ≡ 1
    one_strand v n h l = omega (arith, pin_thin v n h, k.kept.held.opens v n l (pin_right top bottom v c n h))

    module _ (v : ℕ) (l : Lone v) where
      -- an unpaired double net is open
      pub lone_open : 0 < right top bottom c v
      lone_open = go (ℕ_discrete (right top bottom c v) 0)
        where
          go : Dec (right top bottom c v ≡ 0) → 0 < right top bottom c v
          go (yes e) = absurd (omega (arith, q.calm v l.some e, l.thick))
          go (no e) = omega arith

      -- it has no pin here
      lone_off : (get_or top c 0 ≢ v) × (get_or bottom c 0 ≢ v)
      lone_off = ⊎_elim (λ h. absurd (omega (arith, pin_thin v l.some h, l.thick))) (λ o. o) (pin_or top bottom c v)

      pub not_top_lem : A.net ≢ v
      not_top_lem i = lone_off.0 (k.pin.above.net ∙ i)

      pub not_bottom_lem : B.net ≢ v
      not_bottom_lem i = lone_off.1 (k.pin.below.net ∙ i)

      -- it goes on, with two pins left
      pub lone_on : On top bottom c v
      lone_on = omega (arith, same_right top bottom c v l.some lone_off.0 lone_off.1, lone_open)

      lone_pins : 2 ≤ left top bottom (suc c) v
      lone_pins = omega (arith, same_left top bottom c v l.some lone_off.0 lone_off.1, k.kept.held.few v l.some, l.thick)

      -- and it loses 1 where it is single afterwards, or paired
      pub lone_loses : (x : Move) → GoodMove k x → (times v (after x.action tr) ≤ 1) ⊎ (mate v (mates_after top bottom c x m) ≢ 0) → Loses k x v 1
      lone_loses x w o = record {
        some = l.some;
        not_top = not_top_lem;
        not_bottom = not_bottom_lem;
        begun = omega (arith, k.kept.held.few v l.some, l.thick);
        less = lone_lost top bottom k.fit k.three c tr m k.kept x w.forms w.good v l.some lone_off.0 lone_off.1 lone_open l.thick
            l.free o;
      }

    -- A NET THAT MAY BE PAIRED has no mate, later pins and, after the column, two pins left
    pub record Pairable (v : ℕ) : Type 0 where
      pub some : v ≢ 0
      pub free : mate v m ≡ 0
      pub on : On top bottom c v
      pub pins : 2 ≤ left top bottom (suc c) v

    -- an unpaired double net, and a continuing pin's
    pub lone_pairable : (v : ℕ) → Lone v → Pairable v
    lone_pairable v l = record { some = l.some; free = l.free; on = lone_on v l; pins = lone_pins v l }

    pub pin_pairable : (v : ℕ) → v ≢ 0 → HasPin top bottom v c → 0 < left top bottom c v → Pairable v
    pin_pairable v n h l = record {
      some = n;
      free = free_pin top bottom k.fit k.three c tr m k.kept v n h (q.on v n h);
      on = q.on v n h;
      pins = omega (arith, pin_counts top bottom c v n h);
    }

    -- the pair of a double net d and a single net s that ends no earlier
    pub pair_good : {x : Action} {d s : ℕ} → Good top bottom c t tr A.net B.net x → Pairable d → Pairable s → d ≢ s → times s (after x tr) ≤ 1
        → last_column top bottom d ≤ last_column top bottom s
        → GoodMove k (pairing x d s)
    pair_good g d s e thin o = record {
      good = by_rows k.pin g;
      forms = record {
        none = λ z. absurd (d.some z);
        pair = λ n. record {
          some = s.some;
          differ = e;
          free_d = d.free;
          free_s = s.free;
          on_d = d.on;
          on_s = s.on;
          pins_d = d.pins;
          pins_s = s.pins;
          thin = thin;
          ordered = o;
        };
      };
    }

    module _ (x : Move) (w : GoodMove k x) where
      -- THE PAIR: its nets have mates afterwards
      pub double_tied : x.double ≢ 0 → mate x.double (mates_after top bottom c x m) ≢ 0
      double_tied n z = (w.forms.pair n).some (sym (new_double top bottom k.fit k.three c tr m k.kept x w.forms n) ∙ z)

      pub single_tied : x.double ≢ 0 → mate x.single (mates_after top bottom c x m) ≢ 0
      single_tied n z = n (sym (new_single top bottom k.fit k.three c tr m k.kept x w.forms n) ∙ z)

      -- a continuing pin's net that is single or paired afterwards gains nothing
      pub keeps_weight : (v : ℕ) → v ≢ 0 → HasPin top bottom v c → 0 < left top bottom c v
          → (times v (after x.action tr) ≤ 1) ⊎ (mate v (mates_after top bottom c x m) ≢ 0)
          → new_weight k x v ≤ old_weight k v
      keeps_weight v n h l o = pin_keep top bottom k.fit k.three c tr m k.kept x w.forms w.good v n h l (q.on v n h) o

      -- a starting pin's net is single
      pub starts_thin : (v : ℕ) → v ≢ 0 → HasPin top bottom v c → left top bottom c v ≡ 0 → times v (after x.action tr) ≤ 1
      starts_thin v n h z =
          omega (
            arith,
            few_more top bottom c tr k.kept.held x.action w.good.0 w.good.1 v n,
            alone top bottom k.fit c tr A B k.pin q.apart v n h,
            k.kept.held.few v n,
          )

      -- THE DENSITY IS ENOUGH where the pins' nets are single afterwards, and every other net with two strands then had a mate
      pub dense_light : (A.net ≢ 0 → times A.net (after x.action tr) ≤ 1) → (B.net ≢ 0 → times B.net (after x.action tr) ≤ 1)
          → ((v : ℕ) → v ≢ 0 → 2 ≤ times v (after x.action tr) → 2 ≤ times v tr → mate v m ≢ 0)
          → Light k x
      dense_light a b rest = by_density top bottom k.fit k.three c tr m k.kept x w.forms w.good k.inside off single
        where
          less : (v : ℕ) → v ≢ 0 → (get_or top c 0 ≢ v) × (get_or bottom c 0 ≢ v) → times v (after x.action tr) ≤ times v tr
          less v n (i, j) = no_more_away top bottom c tr k.kept.held x.action w.good v n i j

          off : (v : ℕ) → v ≢ 0 → Off top bottom c v → times v (after x.action tr) ≡ 0
          off v n r =
              ⊎_elim (λ h. absurd (omega (arith, q.on v n h)))
              (λ o. omega (arith, less v n o, q.calm v n (sym (same_right top bottom c v n o.0 o.1) ∙ r)))
              (pin_or top bottom c v)

          -- no pair ends
          mated : (v : ℕ) → v ≢ 0 → mate v m ≢ 0 → mate v (mates_after top bottom c x m) ≢ 0
          mated v n s z =
              ⊎_elim s (λ g. omega (arith, q.on g.0 g.1 g.2, g.3)) (unpaired top bottom k.fit k.three c tr m k.kept x w.forms v n z)

          pins : (v : ℕ) → v ≢ 0 → (A.net ≡ v) ⊎ (B.net ≡ v) → times v (after x.action tr) ≤ 1
          pins v n (inl i) = rw i at (a (λ z. n (sym i ∙ z)))
          pins v n (inr i) = rw i at (b (λ z. n (sym i ∙ z)))

          single : (v : ℕ) → v ≢ 0 → On top bottom c v → (times v (after x.action tr) ≤ 1) ⊎ (mate v (mates_after top bottom c x m) ≢ 0)
          single v n r = ⊎_elim (λ h. inl (pins v n (pin_is k h))) (λ o. go o (dec_lt 1 (times v (after x.action tr)))) (pin_or top bottom c v)
            where
              go : (get_or top c 0 ≢ v) × (get_or bottom c 0 ≢ v) → Dec (1 < times v (after x.action tr))
                  → (times v (after x.action tr) ≤ 1) ⊎ (mate v (mates_after top bottom c x m) ≢ 0)
              go o (yes p) = inr (mated v n (rest v n p (omega (arith, less v n o))))
              go o (no p) = inl (omega arith)
