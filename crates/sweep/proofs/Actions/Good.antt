-- A good action: its column fits, and the invariant holds after it. What actions of one shape share.
use Prim.Native.Nat.{ℕ, suc, ◌+◌, ◌≤◌, ◌<◌, zero-le}
use mathlib.Core.Path.{◌≡◌, refl, sym}
use mathlib.Core.Logic.{◌⊎◌, inl, inr, ◌≢◌, ⊎_elim}
use mathlib.Core.Bool.{Bool, true, false}
use mathlib.Core.List.{List}
use native.Mathlib.Omega.{arith}
use lib.Dec.{eqb}
use lib.ListN.{length, get_or}
use Rattle.grid.specs.Channel.{pick, bit, times, left}
use Rattle.grid.proofs.Tests.{Same, same, diff, same_by, bit_most}
use Rattle.grid.proofs.Counting.{at_below}
use Rattle.grid.specs.Segments.{segment}
use Rattle.grid.proofs.Drawings.Segments.{Ordered, segment_run, AtRun, Fares, alone, bottom_run, top_run}
use Rattle.sweep.specs.declared.Action.{Action}
use Rattle.sweep.specs.Tracks.{after}
use Rattle.sweep.specs.Working.{Named}
use Rattle.sweep.specs.Rules.{pin_wires, goes, act, taken}
use Rattle.sweep.proofs.Tracks.Strands.{Strand}
use Rattle.sweep.proofs.Tracks.After.{Gives, gives, Distinct, after-length, after_back, gift, gift_le, gift_other, gifts}
use Rattle.sweep.proofs.Columns.Sound.{Sound, Known, Grant, Lands, Given, on}
use Rattle.sweep.proofs.Gaps.Pins.{On, Off}
use Rattle.sweep.proofs.Gaps.Keeps.{Follows}

-- CHOICES OF A TRACK

-- the track of a net other than N
pub pick_diff : (u N y z : ℕ) → u ≢ N → pick (eqb u N) y z ≡ z
pick_diff u N y z n = go (eqb u N) (same_by u N)
  where
    go : (q : Bool) → Same u N q → pick q y z ≡ z
    go true (same e) = absurd (n e)
    go false d = refl

-- a track for a net that is there
pub taken-some : (v y : ℕ) → v ≢ 0 → taken v y ≡ y
taken-some v y = pick_diff v 0 0 y

-- no track of its own for N
pub gift_own : (N u y : ℕ) → gift N (pick (eqb u N) 0 y) u ≡ 0
gift_own N u y = go (eqb u N) (same_by u N)
  where
    go : (q : Bool) → Same u N q → gift N (pick q 0 y) u ≡ 0
    go true e = refl
    go false (diff d) = gift_other N y u d

-- a track that is none or y
pub pick_track : (b : Bool) (y j : ℕ) → pick b 0 y ≡ suc j → y ≡ suc j
pick_track true y j e = absurd (omega arith)
pick_track false y j e = e

-- the other strand of a net, where it has not one alone, as a track given and as a gift
pub other_track : (m y j : ℕ) → pick (eqb m 1) 0 y ≡ suc j → (y ≡ suc j) × (m ≢ 1)
other_track m y j = go (eqb m 1) (same_by m 1)
  where
    go : (q : Bool) → Same m 1 q → pick q 0 y ≡ suc j → (y ≡ suc j) × (m ≢ 1)
    go true w i = absurd (omega arith)
    go false (diff w) i = (i, w)

-- and with a track besides it has no more strands than before
pub other_gift : (N m y : ℕ) → 0 < m → 1 + gift N (pick (eqb m 1) 0 y) N ≤ m
other_gift N m y p = go (eqb m 1) (same_by m 1)
  where
    go : (q : Bool) → Same m 1 q → 1 + gift N (pick q 0 y) N ≤ m
    go true w = omega arith
    go false (diff w) = omega (arith, gift_le N y N, bit_most (eqb N N))

-- WHERE A NET LEAVES that ends in one run: its strands and the tracks given to it lie between
pub back_within : (x : Action) (tr : List ℕ) (N lo hi : ℕ) → N ≢ 0
    → ((j : ℕ) → get_or tr j 0 ≡ N → (lo ≤ suc j) × (suc j ≤ hi))
    → ((j : ℕ) → j < length tr → Gives x j N → (lo ≤ suc j) × (suc j ≤ hi))
    → (j : ℕ) → get_or (after x tr) j 0 ≡ N → (lo ≤ suc j) × (suc j ≤ hi)
back_within x tr N lo hi n ins outs j e =
    ⊎_elim (outs j (rw after-length at (at_below (after x tr) j N n e))) (λ d. ins j d.0) (after_back x tr j N n e)

-- A TRACK GIVEN to a pin's net meets its pin's run
pub on_bottom_lem : {t y N j : ℕ} (x : Action) → x.wires.bottom ≡ N → y ≡ suc j → y ≤ x.wires.low → AtRun t x.wires N (suc j)
on_bottom_lem x e i p = (0, x.wires.low, bottom_run e, omega arith, zero-le, omega arith)

pub on_top_lem : {t y N j : ℕ} (x : Action) → x.wires.top ≡ N → y ≡ suc j → x.wires.high ≤ y → y ≤ t → AtRun t x.wires N (suc j)
on_top_lem {t} x e i p q = (x.wires.high, suc t, top_run e, omega arith, omega arith, omega arith)

-- no track is given, or one
pub none_given : {t : ℕ} (tr : List ℕ) (x : Action) → x.gift1.track ≡ 0 → x.gift2.track ≡ 0 → x.gift3.track ≡ 0 → Given t x tr
none_given tr x a b c j N n = gives (λ e f. absurd (omega arith)) (λ e f. absurd (omega arith)) (λ e f. absurd (omega arith))

pub one_given : {t : ℕ} (tr : List ℕ) (x : Action) → x.gift2.track ≡ 0 → x.gift3.track ≡ 0
    → ((j N : ℕ) → x.gift1.track ≡ suc j → x.gift1.net ≡ N → AtRun t x.wires N (suc j))
    → Given t x tr
one_given tr x b c at j N n = gives (λ e f. inr (at j N e f)) (λ e f. absurd (omega arith)) (λ e f. absurd (omega arith))

-- THE RUN OF A PIN'S NET THAT ENDS, the top net's and the bottom net's
module _ (t : ℕ) (tr : List ℕ) (size : length tr ≡ t) (x : Action) (empty : x.wires.stop ≤ x.wires.start) (d : x.wires.bottom ≢ x.wires.top) where
  -- above: what it has lies above row high
  pub top_run_lem : x.wires.high ≤ t → x.wires.top ≢ 0 → ((j : ℕ) → get_or tr j 0 ≡ x.wires.top → x.wires.high ≤ suc j)
      → ((j : ℕ) → Gives x j x.wires.top → x.wires.high ≤ suc j)
      → Fares t x.wires (on tr) (on (after x tr)) x.wires.top
  top_run_lem some n ins outs =
      alone (top_run refl) (omega arith) record { on_bottom = λ e p. absurd (d e); on_middle = λ e p. absurd (omega arith); on_top = λ e p. omega arith } within
      (back_within x tr x.wires.top x.wires.high (suc t) n within (λ j p g. (outs j g, omega arith)))
    where
      within : (j : ℕ) → get_or tr j 0 ≡ x.wires.top → (x.wires.high ≤ suc j) × (suc j ≤ suc t)
      within j e = (ins j e, omega (arith, at_below tr j x.wires.top n e))

  -- below: what it has lies below row low
  pub bottom_run_lem : 0 < x.wires.low → x.wires.bottom ≢ 0 → ((j : ℕ) → get_or tr j 0 ≡ x.wires.bottom → suc j ≤ x.wires.low)
      → ((j : ℕ) → Gives x j x.wires.bottom → suc j ≤ x.wires.low)
      → Fares t x.wires (on tr) (on (after x tr)) x.wires.bottom
  bottom_run_lem some n ins outs =
      alone (bottom_run refl) some record { on_bottom = λ e p. omega arith; on_middle = λ e p. absurd (omega arith); on_top = λ e p. absurd (d (sym e)) }
      (λ j e. (zero-le, ins j e))
      (back_within x tr x.wires.bottom 0 x.wires.low n (λ j e. (zero-le, ins j e)) (λ j p g. (zero-le, outs j g)))

-- AN ACTION WITH NO MIDDLE RUN whose top net's run begins on a track is sound
pub pin_wires_sound : {t P Q q p e c t1 n1 t2 n2 t3 n3 : ℕ} {tr : List ℕ} → q ≤ p → p ≤ t
    → segment (act (pin_wires Q q P p) e c (goes t1 n1) (goes t2 n2) (goes t3 n3)).wires 0 ≡ Q
    → Distinct (act (pin_wires Q q P p) e c (goes t1 n1) (goes t2 n2) (goes t3 n3))
    → Grant P Q e tr t1 n1 → Grant P Q e tr t2 n2 → Grant P Q e tr t3 n3 → Known P Q tr e → Named P Q e c
    → (Q ≢ 0 → Lands t (act (pin_wires Q q P p) e c (goes t1 n1) (goes t2 n2) (goes t3 n3)) tr Q q)
    → (P ≢ 0 → Lands t (act (pin_wires Q q P p) e c (goes t1 n1) (goes t2 n2) (goes t3 n3)) tr P p)
    → Given t (act (pin_wires Q q P p) e c (goes t1 n1) (goes t2 n2) (goes t3 n3)) tr
    → (e ≢ 0 → Fares t (act (pin_wires Q q P p) e c (goes t1 n1) (goes t2 n2) (goes t3 n3)).wires (on tr) (on (after (act (pin_wires Q q P p) e c (goes t1 n1) (goes t2 n2) (goes t3 n3)) tr)) e)
    → (c ≢ 0 → Fares t (act (pin_wires Q q P p) e c (goes t1 n1) (goes t2 n2) (goes t3 n3)).wires (on tr) (on (after (act (pin_wires Q q P p) e c (goes t1 n1) (goes t2 n2) (goes t3 n3)) tr)) c)
    → Sound t P Q tr (act (pin_wires Q q P p) e c (goes t1 n1) (goes t2 n2) (goes t3 n3))
pin_wires_sound {t} {P} {Q} {q} {p} {e} {c} {t1} {n1} {t2} {n2} {t3} {n3} a b v d g1 g2 g3 k1 k2 o1 o2 w f1 f2 = record {
  order = order;
  bottom_is = refl;
  top_is = refl;
  bottom_end = v;
  top_end = segment_run order (top_run refl) t b (omega arith);
  distinct = d;
  grant1 = g1;
  grant2 = g2;
  grant3 = g3;
  ended_known = k1;
  closed_named = k2;
  middle_is = inl refl;
  bottom_lands = o1;
  top_lands = o2;
  given = w;
  ended_fares = f1;
  closed_fares = f2;
}
  where
    order : Ordered t (act (pin_wires Q q P p) e c (goes t1 n1) (goes t2 n2) (goes t3 n3)).wires
    order = omega arith

-- a bottom net that has a run begins it at row 0
pub bottom_end_lem : (t : ℕ) (x : Action) → Ordered t x.wires → 0 < x.wires.low → segment x.wires 0 ≡ x.wires.bottom
bottom_end_lem t x order h = segment_run order (bottom_run refl) 0 zero-le h

module _ (top bottom : List ℕ) (c t : ℕ) (tr : List ℕ) where
  -- A GOOD ACTION, P and Q the nets of the column's pins
  abbrev pub Good : (P Q : ℕ) → Action → Type 0
  Good P Q x = Sound t P Q tr x × Follows top bottom c P Q tr x

  -- both pins' nets have later pins
  abbrev pub BothOn : (P Q : ℕ) → Type 0
  BothOn P Q = (v : ℕ) → v ≢ 0 → (P ≡ v) ⊎ (Q ≡ v) → On top bottom c v

  -- a pin's net with its last pin here has pins before
  abbrev pub Begun : (P Q : ℕ) → Type 0
  Begun P Q = (v : ℕ) → v ≢ 0 → (P ≡ v) ⊎ (Q ≡ v) → Off top bottom c v → 0 < left top bottom c v

  module _ {P Q : ℕ} (x : Action) (on : BothOn P Q) (few : (v : ℕ) → v ≢ 0 → x.ended ≢ v → gifts v x ≤ bit (eqb P v) + bit (eqb Q v)) where
    -- no net ends, and the pins' nets go on
    pub none_ends : x.ended ≡ 0 → x.closed ≡ 0 → Follows top bottom c P Q tr x
    none_ends e k = record {
      ended_on = λ n. absurd (n e);
      ended_off = λ n. absurd (n e);
      ended_few = λ n. absurd (n e);
      closed_off = λ n. absurd (n k);
      others_few = λ v n m l. few v n m;
      beside = λ v n here m l z. absurd (omega (arith, on v n here));
    }

    -- a pin's net ends its strands, and leaves on others
    pub one_leaves_on : x.closed ≡ 0 → (P ≡ x.ended) ⊎ (Q ≡ x.ended) → ((y : ℕ) × Strand x.ended (after x tr) y)
        → gifts x.ended x ≤ times x.ended tr
        → Follows top bottom c P Q tr x
    one_leaves_on k here out own = record {
      ended_on = λ n p. out;
      ended_off = λ n p. absurd (omega (arith, on x.ended n here));
      ended_few = λ n. omega arith;
      closed_off = λ n. absurd (n k);
      others_few = λ v n m l. few v n m;
      beside = λ v n here m l z. absurd (omega (arith, on v n here));
    }
