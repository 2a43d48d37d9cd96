-- The action that reduces a double net, of the third sweep: it is joined and leaves on one track, and the pins' nets take others.
use Prim.Native.Nat.{ℕ, suc, ◌≤◌, ◌<◌}
use mathlib.Core.Path.{◌≡◌, refl, sym, ◌∙◌}
use mathlib.Core.Logic.{◌⊎◌, inl, inr, ◌≢◌}
use mathlib.Core.Bool.{Bool, true, false}
use mathlib.Core.List.{List}
use native.Mathlib.Omega.{arith}
use lib.Dec.{eqb, ltb}
use lib.ListN.{length, get_or}
use Rattle.grid.specs.Channel.{pick, times}
use Rattle.grid.proofs.Tests.{Below, below, above, below_by, bit_most}
use Rattle.grid.proofs.Drawings.Segments.{Ordered, segment_run, alone, middle_run, top_run}
use Rattle.sweep.specs.declared.Action.{Action}
use Rattle.sweep.specs.declared.Double.{Double}
use Rattle.sweep.specs.Tracks.{after}
use Rattle.sweep.specs.Rules.{taken}
use Rattle.sweep.specs.ThreePin.{reduce, three_way}
use Rattle.sweep.specs.Working.{Named, nobody, top_net, bottom_net, ended_net}
use Rattle.sweep.proofs.Tracks.Strands.{Strand, strand_times, tracks_differ}
use Rattle.sweep.proofs.Tracks.After.{Gives, one, two, three, gives, Distinct, one_leaves, two_leaves, three_leaves}
use Rattle.sweep.proofs.Tracks.After.{after_ended, gift_le, gift_other, gifts}
use Rattle.sweep.proofs.Columns.Sound.{Sound, Grant, outward, grant_free, grant_old, grant_unless, strand_net}
use Rattle.sweep.proofs.Gaps.Pins.{On}
use Rattle.sweep.proofs.Actions.Good.{Good, BothOn, taken-some, pick_track, back_within, on_bottom_lem, on_top_lem, bottom_end_lem}

-- a double net: its lowest and its highest strand, which are two, and all that it has lies between
pub record Doubled (tr : List ℕ) (D : Double) : Type 0 where
  pub some : D.net ≢ 0
  pub low_is : Strand D.net tr D.low
  pub high_is : Strand D.net tr D.high
  pub apart : D.low < D.high
  pub span : (j : ℕ) → get_or tr j 0 ≡ D.net → (D.low ≤ suc j) × (suc j ≤ D.high)

-- track y is free or a strand of v
abbrev pub FreeOr : (v : ℕ) (tr : List ℕ) (y : ℕ) → Type 0
FreeOr v tr y = Strand 0 tr y ⊎ Strand v tr y

-- three tracks, each free or the double net's: x not above its lowest strand, z not below its highest, y between them. y is not the track of a pin's net
pub record Around (tr : List ℕ) (D : Double) (a b x y z : ℕ) : Type 0 where
  pub own_x : FreeOr D.net tr x
  pub own_y : FreeOr D.net tr y
  pub own_z : FreeOr D.net tr z
  pub below : x ≤ D.low
  pub low : D.low ≤ y
  pub high : y ≤ D.high
  pub above : D.high ≤ z
  pub off_x : b ≢ 0 → y ≢ x
  pub off_z : a ≢ 0 → y ≢ z

-- such a track is a strand of a net or of none
own_strand : {v y : ℕ} {tr : List ℕ} → FreeOr v tr y → (u : ℕ) × Strand u tr y
own_strand {v} (inl s) = (0, s)
own_strand {v} (inr s) = (v, s)

-- so it lies in the channel
own_inside : {v y : ℕ} {tr : List ℕ} → FreeOr v tr y → (0 < y) × (y ≤ length tr)
own_inside o = let (u, s) = own_strand o in omega (arith, s.is, s.inside)

-- and may be given where v ends
own_grant : {P Q v y w : ℕ} {tr : List ℕ} → FreeOr v tr y → Named P Q v w → Grant P Q v tr y w
own_grant (inl s) k = grant_free s k
own_grant (inr s) k = grant_old s k

-- a track taken is taken for a net
taken_for : (v y j : ℕ) → taken v y ≡ suc j → (y ≡ suc j) × (v ≢ 0)
taken_for v y j e = (pick_track (eqb v 0) y j e, λ i. let f : 0 ≡ suc j = rw i at e in omega arith)

-- D IS REDUCED between the nets a and b of the top and the bottom pin, each of them 0 or another net
module _ (tr : List ℕ) (D : Double) (g : Doubled tr D) (a b x y z : ℕ) (o : Around tr D a b x y z) (not_a : a ≢ D.net) (not_b : b ≢ D.net) where
  -- the tracks given to the pins' nets are not D's
  first_track : (j : ℕ) → taken b x ≡ suc j → (x ≡ suc j) × (y ≢ suc j)
  first_track j e = let (i, n) = taken_for b x j e in (i, λ f. o.off_x n (f ∙ sym i))

  second_track : (j : ℕ) → taken a z ≡ suc j → (z ≡ suc j) × (y ≢ suc j)
  second_track j e = let (i, n) = taken_for a z j e in (i, λ f. o.off_z n (f ∙ sym i))

  -- so no track is given twice
  apart : Distinct (reduce D a b x y z)
  apart = record {
    d12 = λ j e f. omega (arith, (first_track j e).0, (second_track j f).0, o.below, o.above, g.apart);
    d13 = λ j e. (first_track j e).1;
    d23 = λ j e. (second_track j e).1;
  }

  -- D leaves on track y
  leaves : Strand D.net (after (reduce D a b x y z) tr) y
  leaves = three_leaves (reduce D a b x y z) tr apart (own_strand o.own_y).1 refl

  -- which lies on its run
  out : (j : ℕ) → j < length tr → Gives (reduce D a b x y z) j D.net → (D.low ≤ suc j) × (suc j ≤ D.high)
  out j p (one e f) = absurd (not_b f)
  out j p (two e f) = absurd (not_a f)
  out j p (three e f) = omega (arith, o.low, o.high)

  -- D is given one track
  own : gifts D.net (reduce D a b x y z) ≤ 1
  own = omega (
    arith,
    gift_other D.net (taken b x) b not_b,
    gift_other D.net (taken a z) a not_a,
    gift_le D.net y D.net,
    bit_most (eqb D.net D.net),
  )

  -- so it is double no longer
  pub reduce_thin : times D.net (after (reduce D a b x y z) tr) ≤ 1
  reduce_thin = omega (arith, after_ended (reduce D a b x y z) tr D.net g.some (inl refl), own)

  module _ (t : ℕ) (size : length tr ≡ t) where
    -- its three runs follow one another
    order : Ordered t (reduce D a b x y z).wires
    order = omega (arith, o.below, o.above, g.apart, own_inside o.own_z)

    -- its column fits
    reduce_sound : Sound t a b tr (reduce D a b x y z)
    reduce_sound = record {
      order = order;
      bottom_is = refl;
      top_is = refl;
      bottom_end = bottom_end_lem t (reduce D a b x y z) order (own_inside o.own_x).0;
      top_end = segment_run order (top_run refl) t (omega (arith, own_inside o.own_z)) (omega arith);
      distinct = apart;
      grant1 = grant_unless (eqb b 0) (own_grant o.own_x (bottom_net refl));
      grant2 = grant_unless (eqb a 0) (own_grant o.own_z (top_net refl));
      grant3 = own_grant o.own_y (ended_net refl);
      ended_known = strand_net g.low_is;
      closed_named = nobody refl;
      middle_is = inr (refl, g.low_is, g.high_is);
      bottom_lands = λ n. outward (one_leaves (reduce D a b x y z) tr apart (own_strand o.own_x).1 (taken-some b x n));
      top_lands = λ n. outward (two_leaves (reduce D a b x y z) tr apart (own_strand o.own_z).1 (taken-some a z n));
      given = λ j N n. gives (λ e f. inr (on_bottom_lem (reduce D a b x y z) f (first_track j e).0 (omega arith)))
          (λ e f. inr (on_top_lem (reduce D a b x y z) f (second_track j e).0 (omega arith) (omega (arith, own_inside o.own_z))))
          (λ e f. inr (D.low, D.high, middle_run f, g.apart, omega (arith, o.low), omega (arith, o.high)));
      ended_fares = λ n. alone (middle_run refl) g.apart record {
        on_bottom = λ e p. absurd (not_b e);
        on_middle = λ e p. omega arith;
        on_top = λ e p. absurd (not_a e);
      } g.span (back_within (reduce D a b x y z) tr D.net D.low D.high n g.span out);
      closed_fares = λ n. absurd (n refl);
    }

    -- and the invariant holds after it, where D and the pins' nets have later pins
    pub reduce_good : (top bottom : List ℕ) (c : ℕ) → On top bottom c D.net → BothOn top bottom c t tr a b → Good top bottom c t tr a b (reduce D a b x y z)
    reduce_good top bottom c on_d on = (
      reduce_sound,
      record {
        ended_on = λ n p. (y, leaves);
        ended_off = λ n p. absurd (omega arith);
        ended_few = λ n. omega (arith, own, strand_times g.low_is);
        closed_off = λ n. absurd (n refl);
        others_few = λ v n m k. omega (arith, gift_le v (taken b x) b, gift_le v (taken a z) a, gift_other v y D.net m);
        beside = λ v n here m k p. absurd (omega (arith, on v n here));
      },
    )

-- WHERE D'S TRACKS LIE AROUND IT
module _ (tr : List ℕ) (D : Double) (g : Doubled tr D) where
  -- a top pin alone takes the highest strand, and D keeps the lowest; a bottom pin alone the other way round
  pub around_top : (a : ℕ) → Around tr D a 0 D.low D.low D.high
  around_top a = record {
    own_x = inr g.low_is;
    own_y = inr g.low_is;
    own_z = inr g.high_is;
    below = omega arith;
    low = omega arith;
    high = omega (arith, g.apart);
    above = omega arith;
    off_x = λ n. absurd (n refl);
    off_z = λ n. omega (arith, g.apart);
  }

  pub around_bottom : (b : ℕ) → Around tr D 0 b D.low D.high D.high
  around_bottom b = record {
    own_x = inr g.low_is;
    own_y = inr g.high_is;
    own_z = inr g.high_is;
    below = omega arith;
    low = omega (arith, g.apart);
    high = omega arith;
    above = omega arith;
    off_x = λ n. omega (arith, g.apart);
    off_z = λ n. absurd (n refl);
  }

  -- between two pins there is a free track y besides
  module _ (y a b : ℕ) (s : Strand 0 tr y) where
    -- y lies below D's strands
    around_below : y < D.low → Around tr D a b y D.low D.high
    around_below p = record {
      own_x = inl s;
      own_y = inr g.low_is;
      own_z = inr g.high_is;
      below = omega arith;
      low = omega arith;
      high = omega (arith, g.apart);
      above = omega arith;
      off_x = λ n. omega arith;
      off_z = λ n. omega (arith, g.apart);
    }

    -- between them
    around_between : D.low ≤ y → y < D.high → Around tr D a b D.low y D.high
    around_between p q = record {
      own_x = inr g.low_is;
      own_y = inl s;
      own_z = inr g.high_is;
      below = omega arith;
      low = p;
      high = omega arith;
      above = omega arith;
      off_x = λ n. tracks_differ s g.low_is (λ i. g.some (sym i));
      off_z = λ n. omega arith;
    }

    -- or above them
    around_above : D.high ≤ y → Around tr D a b D.low D.high y
    around_above p = record {
      own_x = inr g.low_is;
      own_y = inr g.high_is;
      own_z = inl s;
      below = omega arith;
      low = omega (arith, g.apart);
      high = omega arith;
      above = p;
      off_x = λ n. omega (arith, g.apart);
      off_z = λ n. tracks_differ g.high_is s g.some;
    }

    -- what holds of every such placing holds of the action
    pub three_way_lem : (F : Action → Type 0) → ((x y z : ℕ) → Around tr D a b x y z → F (reduce D a b x y z)) → F (three_way D y a b)
    unfolding three_way
    three_way_lem F each = go (ltb y D.low) (below_by y D.low) (ltb y D.high) (below_by y D.high)
      where
        go : (q : Bool) → Below y D.low q → (r : Bool) → Below y D.high r
            → F (pick q (reduce D a b y D.low D.high) (pick r (reduce D a b D.low y D.high) (reduce D a b D.low D.high y)))
        go true (below p) r k = each y D.low D.high (around_below p)
        go false (above p) true (below k) = each D.low y D.high (around_between p k)
        go false (above p) false (above k) = each D.low D.high y (around_above k)
