-- The moves of three-pin channels that reduce an unpaired double net.
use Prim.Native.Nat.{ℕ, ◌≤◌}
use mathlib.Core.Path.{◌≡◌, refl, sym, ◌∙◌, subst₂}
use mathlib.Core.Logic.{◌⊎◌, inl, inr, ◌≢◌, ⊎_elim}
use mathlib.Core.List.{List}
use native.Mathlib.Omega.{arith}
use native.Mathlib.Decide.{ℕ_discrete}
use Rattle.grid.specs.Channel.{times, left}
use Rattle.grid.specs.Nets.{last_column}
use Rattle.grid.proofs.Tests.{eq-eqb}
use Rattle.sweep.specs.declared.Move.{Move}
use Rattle.sweep.specs.declared.Pin.{Pin}
use Rattle.sweep.specs.declared.Free.{Free}
use Rattle.sweep.specs.declared.Double.{Double}
use Rattle.sweep.specs.Tracks.{after}
use Rattle.sweep.specs.Rules.{starts, continues}
use Rattle.sweep.specs.ThreePin.{pairing, reduce, three_way, paired_with}
use Rattle.sweep.proofs.Tracks.Strands.{Strand}
use Rattle.sweep.proofs.Gaps.Pins.{Met}
use Rattle.sweep.proofs.Actions.Good.{Good, taken-some}
use Rattle.sweep.proofs.Actions.Reduces.{Doubled, Around, reduce_thin, reduce_good, around_top, around_bottom, three_way_lem}
use Rattle.sweep.proofs.Rules.Chosen.{by_rows}
use Rattle.sweep.proofs.ThreePin.Works.{ThreeColumn, Light, GoodMove, Works, top_pin, bottom_pin, gain_top, gain_bottom, one_light, two_light}
use Rattle.sweep.proofs.ThreePin.Still.{pins_on}
use Rattle.sweep.proofs.ThreePin.Calm.{Calm, Lone, pins_room, not_top_lem, not_bottom_lem, lone_on, lone_loses, lone_pairable, pin_pairable, pair_good}
use Rattle.sweep.proofs.ThreePin.Calm.{double_tied, keeps_weight, starts_thin, dense_light}

module _ {t : ℕ} {top bottom : List ℕ} {c : ℕ} {tr m : List ℕ} {A B : Pin} {f : Free} (k : ThreeColumn t top bottom c tr m A B f) (q : Calm k) (D : Double)
    (g : Doubled tr D) (l : Lone k D.net) where
  -- D IS REDUCED: a and b are the pins' nets
  module _ (a b x y z : ℕ) (top_is : a ≡ A.net) (bottom_is : b ≡ B.net) (o : Around tr D a b x y z) where
    -- D has no pin here
    not_a : a ≢ D.net
    not_a i = not_top_lem k q D.net l (sym top_is ∙ i)

    not_b : b ≢ D.net
    not_b i = not_bottom_lem k q D.net l (sym bottom_is ∙ i)

    -- it has one strand afterwards
    thin : times D.net (after (reduce D a b x y z) tr) ≤ 1
    thin = reduce_thin tr D g a b x y z o not_a not_b

    -- and the action is good
    good : Good top bottom c t tr A.net B.net (reduce D a b x y z)
    good = subst₂ (λ (p r : ℕ). Good top bottom c t tr p r (reduce D a b x y z)) top_is bottom_is
        (reduce_good tr D g a b x y z o not_a not_b t k.kept.held.size top bottom c (lone_on k q D.net l)
        (λ v n here. pins_on k q.apart q.on v n (⊎_elim (λ i. inl (sym top_is ∙ i)) (λ i. inr (sym bottom_is ∙ i)) here)))

    -- ONLY STARTING PINS: D is the single net of a pair with M, another unpaired double net that ends no later, if there is one
    module _ (M : Double) (other : M.net ≢ 0 → Lone k M.net × (D.net ≢ M.net) × (last_column top bottom M.net ≤ last_column top bottom D.net)) where
      -- the move
      abbrev reduced : Move
      reduced = paired_with M D (reduce D a b x y z)

      -- is good
      with_good : GoodMove k (paired_with M D (reduce D a b x y z))
      with_good = record {
        good = by_rows k.pin good;
        forms = record {
          none = λ e. rw (eq-eqb M.net 0 e) refl;
          pair = λ n. (let (s, d, e) = other n in
              rw (taken-some M.net D.net n)
              ((pair_good k q good (lone_pairable k q M.net s) (lone_pairable k q D.net l) (λ i. d (sym i)) thin e).forms.pair n));
        };
      }

      -- one pin
      one_works : (A.net ≡ 0) ⊎ (B.net ≡ 0) → Works k (paired_with M D (reduce D a b x y z))
      one_works u = record { good_move = with_good; light = ⊎_elim by_bottom by_top u }
        where
          d : B.net ≢ A.net
          d = q.apart

          by_bottom : A.net ≡ 0 → Light k reduced
          by_bottom e =
              one_light k reduced with_good d D.net 1 0 1 (lone_loses k q D.net l reduced with_good (inl thin)) (λ n. absurd (n e))
              (gain_bottom k reduced with_good d) (omega arith)

          by_top : B.net ≡ 0 → Light k reduced
          by_top e =
              one_light k reduced with_good d D.net 1 1 0 (lone_loses k q D.net l reduced with_good (inl thin)) (gain_top k reduced with_good d)
              (λ n. absurd (n e)) (omega arith)

      -- two pins: without M there is no other unpaired double net
      two_works : left top bottom c A.net ≡ 0 → left top bottom c B.net ≡ 0 → (M.net ≡ 0 → (v : ℕ) → Lone k v → D.net ≡ v)
          → Works k (paired_with M D (reduce D a b x y z))
      two_works i j only = record { good_move = with_good; light = go (ℕ_discrete M.net 0) }
        where
          go : Dec (M.net ≡ 0) → Light k reduced
          go (yes e) =
              dense_light k q reduced with_good (λ n. starts_thin k q reduced with_good A.net n (top_pin k) i)
              (λ n. starts_thin k q reduced with_good B.net n (bottom_pin k) j)
              (λ v n r s h. omega (arith, thin, rw (← only e v record { some = n; thick = s; free = h }) at r))
          go (no n) =
              two_light k reduced with_good q.apart D.net M.net (other n).1 (lone_loses k q D.net l reduced with_good (inl thin))
              (lone_loses k q M.net (other n).0 reduced with_good (inr (double_tied k q reduced with_good n)))

    -- A CONTINUING PIN's net ends no later than D: it gets a second strand, and D is the single net of a pair with it
    top_short : Met top bottom c tr A continues → last_column top bottom A.net ≤ last_column top bottom D.net
        → Works k (pairing (reduce D a b x y z) A.net D.net)
    top_short (r, i, s) e = record {
      good_move = w;
      light = one_light k v w q.apart D.net 1 0 1 (lone_loses k q D.net l v w (inl thin))
          (λ n. omega (arith, keeps_weight k q v w A.net n (top_pin k) i (inr (double_tied k q v w n)))) (gain_bottom k v w q.apart) (omega arith);
    }
      where
        v : Move
        v = pairing (reduce D a b x y z) A.net D.net

        w : GoodMove k v
        w = pair_good k q good (pin_pairable k q A.net r.some (top_pin k) i) (lone_pairable k q D.net l) (not_top_lem k q D.net l) thin e

    -- mirrored
    bottom_short : Met top bottom c tr B continues → last_column top bottom B.net ≤ last_column top bottom D.net
        → Works k (pairing (reduce D a b x y z) B.net D.net)
    bottom_short (r, i, s) e = record {
      good_move = w;
      light = one_light k v w q.apart D.net 1 1 0 (lone_loses k q D.net l v w (inl thin)) (gain_top k v w q.apart)
          (λ n. omega (arith, keeps_weight k q v w B.net n (bottom_pin k) i (inr (double_tied k q v w n)))) (omega arith);
    }
      where
        v : Move
        v = pairing (reduce D a b x y z) B.net D.net

        w : GoodMove k v
        w = pair_good k q good (pin_pairable k q B.net r.some (bottom_pin k) i) (lone_pairable k q D.net l) (not_bottom_lem k q D.net l) thin e

  -- THE PLACINGS: a free track besides D's, where there are two pins
  module _ (n : A.net ≢ 0) (o : B.net ≢ 0) where
    -- the free track
    free : Strand 0 tr f.first
    free = k.free.first_is (pins_room k q n o)

    -- one pin continues
    pub top_short_works : Met top bottom c tr A continues → last_column top bottom A.net ≤ last_column top bottom D.net
        → Works k (pairing (three_way D f.first A.net B.net) A.net D.net)
    top_short_works a e = three_way_lem tr D g f.first A.net B.net free (λ x. Works k (pairing x A.net D.net))
        (λ x y z p. top_short A.net B.net x y z refl refl p a e)

    pub bottom_short_works : Met top bottom c tr B continues → last_column top bottom B.net ≤ last_column top bottom D.net
        → Works k (pairing (three_way D f.first A.net B.net) B.net D.net)
    bottom_short_works b e = three_way_lem tr D g f.first A.net B.net free (λ x. Works k (pairing x B.net D.net))
        (λ x y z p. bottom_short A.net B.net x y z refl refl p b e)

  module _ (M : Double) (other : M.net ≢ 0 → Lone k M.net × (D.net ≢ M.net) × (last_column top bottom M.net ≤ last_column top bottom D.net)) where
    -- one pin starts
    pub top_reduces_works : B.net ≡ 0 → Works k (paired_with M D (reduce D A.net 0 D.low D.low D.high))
    top_reduces_works e = one_works A.net 0 D.low D.low D.high refl (sym e) (around_top tr D g A.net) M other (inr e)

    pub bottom_reduces_works : A.net ≡ 0 → Works k (paired_with M D (reduce D 0 B.net D.low D.high D.high))
    bottom_reduces_works e = one_works 0 B.net D.low D.high D.high (sym e) refl (around_bottom tr D g B.net) M other (inl e)

    -- two pins start
    pub both_reduce_works : Met top bottom c tr A starts → Met top bottom c tr B starts → (M.net ≡ 0 → (v : ℕ) → Lone k v → D.net ≡ v)
        → Works k (paired_with M D (three_way D f.first A.net B.net))
    both_reduce_works a b only = three_way_lem tr D g f.first A.net B.net (free a.0 b.0) (λ x. Works k (paired_with M D x))
        (λ x y z p. two_works A.net B.net x y z refl refl p M other a.1 b.1 only)
