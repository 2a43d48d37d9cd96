-- The actions that join the strands of a net: rule 2 of each sweep, the columns without pins, and those added after column n.
use Prim.Native.Nat.{ℕ, suc, ◌≤◌, ◌<◌, zero-le}
use mathlib.Core.Path.{◌≡◌, refl, sym, ap, ◌∙◌}
use mathlib.Core.Logic.{inl, inr, ◌≢◌, ⊎_elim}
use mathlib.Core.Bool.{Bool, true, false}
use mathlib.Core.List.{List}
use native.Mathlib.Omega.{arith}
use native.Mathlib.Decide.{ℕ_discrete}
use lib.Dec.{eqb}
use lib.ListN.{length, get_or}
use Rattle.grid.specs.Channel.{pick, times, right}
use Rattle.grid.proofs.Tests.{Below, bit_most}
use Rattle.grid.proofs.Counting.{at_below}
use Rattle.grid.proofs.Drawings.Segments.{Ordered, segment_run, segment_none, alone, joined, bottom_run, middle_run, top_run}
use Rattle.sweep.specs.declared.Joint.{Joint}
use Rattle.sweep.specs.Tracks.{lowest, highest, clear, give, after}
use Rattle.sweep.specs.Rules.{taken, join_net}
use Rattle.sweep.specs.Drawing.{joining}
use Rattle.sweep.proofs.Tracks.Strands.{Strand, strand_is, strand_times, lowest_is, highest_is, lowest<highest, between}
use Rattle.sweep.proofs.Tracks.After.{Gives, one, two, three, gives, Distinct, one_track, one_leaves, two_leaves, three_leaves, gift, gift_le}
use Rattle.sweep.proofs.Tracks.After.{gift_other, gifts}
use Rattle.sweep.proofs.Tracks.Changed.{clear_idle}
use Rattle.sweep.proofs.Columns.Sound.{Sound, Grant, Lands, outward, inward, grant_idle, grant_none, grant_old, grant_unless, strand_net}
use Rattle.sweep.specs.Working.{nobody, top_net, bottom_net, ended_net}
use Rattle.sweep.proofs.Gaps.Pins.{Off, true_of, false_of}
use Rattle.sweep.proofs.Gaps.Joints.{Bound}
use Rattle.sweep.proofs.Actions.Good.{Good, Begun, taken-some, pick_diff, pick_track, gift_own, back_within, on_bottom_lem, on_top_lem, none_given}

-- RULE 2: net N is joined. The nets a and b of the top and the bottom pin may be N, one other net, two, or none
module _ (top bottom : List ℕ) (c t : ℕ) (tr : List ℕ) (size : length tr ≡ t) (N : Joint) (a b : ℕ) (g : Bound tr N) where
  -- its three runs follow one another
  join_order : Ordered t (join_net N a b).wires
  join_order = omega (arith, g.apart, g.high_is)

  -- the tracks given: to the bottom pin's net the lowest strand, to the top pin's the highest, and N's second lies between
  first_track : (j : ℕ) → pick (eqb b N.net) 0 (taken b N.low) ≡ suc j → N.low ≡ suc j
  first_track j e = pick_track (eqb b 0) N.low j (pick_track (eqb b N.net) (taken b N.low) j e)

  second_track : (j : ℕ) → pick (eqb a N.net) 0 (taken a N.high) ≡ suc j → N.high ≡ suc j
  second_track j e = pick_track (eqb a 0) N.high j (pick_track (eqb a N.net) (taken a N.high) j e)

  third_track : (j : ℕ) → (join_net N a b).gift3.track ≡ suc j → (N.low < suc j) × (suc j < N.high)
  third_track j e = go N.later refl
    where
      go : (q : Bool) → N.later ≡ q → (N.low < suc j) × (suc j < N.high)
      go true i = let f = rw i at e in (omega (arith, (g.second_is i).1), omega (arith, (g.second_is i).2))
      go false i = let f = rw i at e in absurd (omega arith)

  -- so no track is given twice
  apart : Distinct (join_net N a b)
  apart = record {
    d12 = λ j e f. omega (arith, first_track j e, second_track j f, g.apart);
    d13 = λ j e f. omega (arith, first_track j e, third_track j f);
    d23 = λ j e f. omega (arith, second_track j e, third_track j f);
  }

  -- the second strand goes to N itself
  third_grant : (q : Bool) → N.later ≡ q → Grant a b N.net tr (pick q N.second 0) N.net
  third_grant true e = grant_old (g.second_is e).0 (ended_net refl)
  third_grant false e = grant_idle (ended_net refl)

  -- where N leaves
  out : (j : ℕ) → j < length tr → Gives (join_net N a b) j N.net → (N.low ≤ suc j) × (suc j ≤ N.high)
  out j p (one e f) = omega (arith, first_track j e, g.apart)
  out j p (two e f) = omega (arith, second_track j e, g.apart)
  out j p (three e f) = omega (arith, third_track j e)

  -- where a pin's net of its own leaves
  bottom-goes : b ≢ 0 → N.net ≢ b → Strand b (after (join_net N a b) tr) N.low
  bottom-goes n m = one_leaves (join_net N a b) tr apart g.low_is (pick_diff b N.net 0 _ (λ i. m (sym i)) ∙ taken-some b N.low n)

  top-goes : a ≢ 0 → N.net ≢ a → Strand a (after (join_net N a b) tr) N.high
  top-goes n m = two_leaves (join_net N a b) tr apart g.high_is (pick_diff a N.net 0 _ (λ i. m (sym i)) ∙ taken-some a N.high n)

  -- a pin's run ends where its net leaves, or at N's strand
  bottom_ends_lem : b ≢ 0 → Lands t (join_net N a b) tr b N.low
  bottom_ends_lem n = go (ℕ_discrete N.net b)
    where
      go : Dec (N.net ≡ b) → Lands t (join_net N a b) tr b N.low
      go (yes e) = inward (inl e) (strand_is e g.low_is)
      go (no m) = outward (bottom-goes n m)

  top_ends_lem : a ≢ 0 → Lands t (join_net N a b) tr a N.high
  top_ends_lem n = go (ℕ_discrete N.net a)
    where
      go : Dec (N.net ≡ a) → Lands t (join_net N a b) tr a N.high
      go (yes e) = inward (inl e) (strand_is e g.high_is)
      go (no m) = outward (top-goes n m)

  -- its column fits
  join_sound : Sound t a b tr (join_net N a b)
  join_sound = record {
    order = join_order;
    bottom_is = refl;
    top_is = refl;
    bottom_end = segment_run join_order (bottom_run refl) 0 zero-le (omega (arith, g.low_is));
    top_end = segment_run join_order (top_run refl) t (omega (arith, g.high_is)) (omega arith);
    distinct = apart;
    grant1 = grant_unless (eqb b N.net) (grant_unless (eqb b 0) (grant_old g.low_is (bottom_net refl)));
    grant2 = grant_unless (eqb a N.net) (grant_unless (eqb a 0) (grant_old g.high_is (top_net refl)));
    grant3 = third_grant N.later refl;
    ended_known = strand_net g.low_is;
    closed_named = nobody refl;
    middle_is = inr (refl, g.low_is, g.high_is);
    bottom_lands = bottom_ends_lem;
    top_lands = top_ends_lem;
    given = λ j M n. gives (λ e f. inr (on_bottom_lem (join_net N a b) f (first_track j e) (omega arith)))
        (λ e f. inr (on_top_lem (join_net N a b) f (second_track j e) (omega arith) (omega (arith, g.high_is))))
        (λ e f. inr (N.low, N.high, middle_run f, g.apart, omega (arith, third_track j e), omega (arith, third_track j e)));
    ended_fares = λ n. joined join_order refl g.apart refl refl g.span (back_within (join_net N a b) tr N.net N.low N.high n g.span out);
    closed_fares = λ n. absurd (n refl);
  }

  -- N takes no track for its pins, and its second where it has later pins
  own : gifts N.net (join_net N a b) ≡ gift N.net (pick N.later N.second 0) N.net
  own = omega (arith, gift_own N.net b (taken b N.low), gift_own N.net a (taken a N.high))

  -- and the invariant holds after it
  pub join_net_good : Below 0 (right top bottom (suc c) N.net) N.later → Begun top bottom c t tr a b → Good top bottom c t tr a b (join_net N a b)
  join_net_good told begun = (
    join_sound,
    record {
      ended_on = λ n p. (let i = true_of told p in
          (N.second, three_leaves (join_net N a b) tr apart (g.second_is i).0 (ap (λ (q : Bool). pick q N.second 0) i)));
      ended_off = λ n p. own ∙ ap (λ (q : Bool). gift N.net (pick q N.second 0) N.net) (false_of told (omega arith));
      ended_few = λ n. omega (arith, own, gift_le N.net (pick N.later N.second 0) N.net, bit_most (eqb N.net N.net), strand_times g.low_is);
      closed_off = λ n. absurd (n refl);
      others_few = λ v n m k. omega (
        arith,
        gift_le v (pick (eqb b N.net) 0 (taken b N.low)) b,
        gift_le v (pick (eqb a N.net) 0 (taken a N.high)) a,
        gift_other v (pick N.later N.second 0) N.net m,
      );
      beside = λ v n here m k p. (
        begun v n here p,
        ⊎_elim
            (λ i. (N.high, N.net, g.high_is, m, strand_is i (top-goes (λ q. n (sym i ∙ q)) (λ q. m (q ∙ i)))))
            (λ i. (N.low, N.net, g.low_is, m, strand_is i (bottom-goes (λ q. n (sym i ∙ q)) (λ q. m (q ∙ i)))))
            here,
      );
    },
  )

-- NOTHING BUT A JOIN: net v, of two strands or more, is joined, after column n or in a column without pins
pub joining_sound : (t : ℕ) (tr : List ℕ) → length tr ≡ t → (v : ℕ) → v ≢ 0 → 1 < times v tr → Sound t 0 0 tr (joining tr v)
unfolding joining
joining_sound t tr size v n p =
    let low = lowest_is v tr (omega arith) in
    let high = highest_is v tr (omega arith) in
    let span : (j : ℕ) → get_or tr j 0 ≡ v → (lowest v tr ≤ suc j) × (suc j ≤ highest v tr) = λ j e. between v tr j (at_below tr j v n e) e in
    let order : Ordered t (joining tr v).wires = omega (arith, low, high, span low.index low.holds) in
    record {
      order = order;
      bottom_is = refl;
      top_is = refl;
      bottom_end = segment_none order 0 zero-le (omega (arith, high)) (inl (omega (arith, low)));
      top_end = segment_run order (top_run refl) t (omega (arith, high)) (omega arith);
      distinct = one_track (joining tr v) refl refl;
      grant1 = grant_none;
      grant2 = grant_none;
      grant3 = grant_none;
      ended_known = strand_net low;
      closed_named = nobody refl;
      middle_is = inr (refl, low, high);
      bottom_lands = λ n. absurd (n refl);
      top_lands = λ n. absurd (n refl);
      given = none_given tr (joining tr v) refl refl refl;
      ended_fares = λ n. alone (middle_run refl) (lowest<highest v tr p) record {
        on_bottom = λ e q. absurd (n (sym e));
        on_middle = λ e q. omega arith;
        on_top = λ e q. absurd (n (sym e));
      } span
          (back_within (joining tr v) tr v (lowest v tr) (highest v tr) n span
          (λ j q. gives (λ e f. absurd (omega arith)) (λ e f. absurd (omega arith)) (λ e f. absurd (omega arith))));
      closed_fares = λ n. absurd (n refl);
    }

-- its strands end, and nothing else changes
pub after-joining : (tr : List ℕ) (v : ℕ) → after (joining tr v) tr ≡ clear v tr
unfolding after joining give
after-joining tr v = clear_idle 0 (clear v tr) (inl refl)

-- so it is good in a column without pins, if the net has none to come
pub joining_good : (top bottom : List ℕ) (c t : ℕ) (tr : List ℕ) → length tr ≡ t → (v : ℕ) → v ≢ 0 → 1 < times v tr → Off top bottom c v
    → Good top bottom c t tr 0 0 (joining tr v)
unfolding joining
joining_good top bottom c t tr size v n p off = (
  joining_sound t tr size v n p,
  record {
    ended_on = λ m on. absurd (omega arith);
    ended_off = λ m z. refl;
    ended_few = λ m. zero-le;
    closed_off = λ m. absurd (m refl);
    others_few = λ u m o k. zero-le;
    beside = λ u m here o k z. absurd (⊎_elim (λ i. m (sym i)) (λ i. m (sym i)) here);
  },
)
