-- The actions of a column with a pin that continues its net: it goes direct, leaves on a free track instead, or joins its two strands.
use Prim.Native.Nat.{ℕ, suc, ◌+◌, ◌≤◌, ◌<◌, zero-le}
use mathlib.Core.Path.{◌≡◌, refl, sym, ◌∙◌, subst}
use mathlib.Core.Logic.{◌⊎◌, inl, inr, ◌≢◌, ⊎_elim}
use mathlib.Core.Bool.{Bool, true, false}
use mathlib.Core.List.{List}
use native.Mathlib.Omega.{arith}
use lib.Dec.{eqb}
use lib.ListN.{length, get_or}
use Rattle.grid.specs.Channel.{pick, bit}
use Rattle.grid.proofs.Tests.{Same, same, diff, same_by, bit_most}
use Rattle.grid.specs.Segments.{segment}
use Rattle.grid.specs.declared.Segments.{Segments}
use Rattle.sweep.specs.Rules.{act, goes}
use Rattle.grid.proofs.Drawings.Segments.{Ordered, segment_none, AtRun, carried, bottom_run, top_run}
use Rattle.sweep.specs.declared.Pin.{Pin}
use Rattle.sweep.specs.declared.Free.{Free}
use Rattle.sweep.specs.Tracks.{after}
use Rattle.sweep.specs.ManyPin.{direct, top_moves, bottom_moves, top_joins, bottom_joins}
use Rattle.sweep.proofs.Tracks.Strands.{Strand, strand_at, strand_times, tracks_differ}
use Rattle.sweep.proofs.Tracks.After.{gives, Distinct, one_track, two_tracks, one_leaves, two_leaves, three_leaves, runs_on, gift, gift_le, gift_other}
use Rattle.sweep.proofs.Columns.Sound.{Grant, outward, inward, out_at, grant_none, grant_free, grant_old, grant_unless, pin_net}
use Rattle.sweep.specs.Working.{nobody, top_net, bottom_net}
use Rattle.sweep.proofs.Gaps.Pins.{Reaches}
use Rattle.sweep.proofs.Actions.Good.{Good, BothOn, pick_diff, other_track, other_gift, top_run_lem, bottom_run_lem, pin_wires_sound}
use Rattle.sweep.proofs.Actions.Good.{bottom_end_lem, none_ends, one_leaves_on, on_bottom_lem, on_top_lem, one_given}

-- net N leaves on the free track y, gives its strand z away and keeps its other strand o where it has not one alone: no track is given twice
moves_apart : {tr : List ℕ} {w : Segments} {e k N M y z o m : ℕ} → N ≢ 0 → Strand 0 tr y → Strand N tr z → Strand N tr o → (m ≢ 1 → z ≢ o)
    → Distinct (act w e k (goes y N) (goes z M) (goes (pick (eqb m 1) 0 o) N))
moves_apart {o} {m} n s r q d = record {
  d12 = λ j e g. tracks_differ s r (λ i. n (sym i)) (e ∙ sym g);
  d13 = λ j e g. tracks_differ s q (λ i. n (sym i)) (e ∙ sym (other_track m o j g).0);
  d23 = λ j e g. (let (i, w) = other_track m o j g in d w (e ∙ sym i));
}

module _ (top bottom : List ℕ) (c t : ℕ) (tr : List ℕ) (size : length tr ≡ t) (A B : Pin) (pins_on : BothOn top bottom c t tr A.net B.net) where
  -- DIRECT: no net ends, and one pin's net, w, takes track y at most
  direct_good : (q p y w : ℕ) → q ≤ p → p ≤ t → segment (direct A B q p y w).wires 0 ≡ B.net → Grant A.net B.net 0 tr y w
      → ((v : ℕ) → gift v y w ≤ bit (eqb A.net v) + bit (eqb B.net v))
      → (B.net ≢ 0 → Strand B.net (after (direct A B q p y w) tr) q) → (A.net ≢ 0 → Strand A.net (after (direct A B q p y w) tr) p)
      → ((j N : ℕ) → y ≡ suc j → w ≡ N → AtRun t (direct A B q p y w).wires N (suc j))
      → Good top bottom c t tr A.net B.net (direct A B q p y w)
  direct_good q p y w a b e g few o1 o2 at = (
    pin_wires_sound a b e (one_track (direct A B q p y w) refl refl) g grant_none grant_none (pin_net (nobody refl)) (nobody refl)
        (λ n. outward (o1 n)) (λ n. outward (o2 n)) (one_given tr (direct A B q p y w) refl refl at) (λ n. absurd (n refl)) (λ n. absurd (n refl)),
    none_ends top bottom c t tr (direct A B q p y w) pins_on (λ v n m. omega (arith, few v)) refl refl,
  )

  -- a strand runs on where another track is given
  stays : (q p y w : ℕ) {N z : ℕ} → N ≢ 0 → Strand N tr z → y ≢ z → Strand N (after (direct A B q p y w) tr) z
  stays q p y w n s d = runs_on (direct A B q p y w) tr s (λ i. n (sym i)) (λ i. n (sym i)) d (omega (arith, s.is)) (omega (arith, s.is))

  -- the track given leaves
  given_leaves : (q p y w : ℕ) {u : ℕ} → Strand u tr y → Strand w (after (direct A B q p y w) tr) y
  given_leaves q p y w s = one_leaves (direct A B q p y w) tr (one_track (direct A B q p y w) refl refl) s refl

  -- one continuing pin
  pub top_direct_good : Reaches tr A → B.net ≡ 0 → Good top bottom c t tr A.net B.net (direct A B 0 A.high 0 0)
  top_direct_good a z =
      direct_good 0 A.high 0 0 zero-le (omega (arith, a.high_is)) (segment_none order 0 zero-le (omega (arith, a.high_is)) (inr zero-le) ∙ sym z) grant_none
      (λ v. zero-le)
      (λ n. absurd (n z))
      (λ n. stays 0 A.high 0 0 n a.high_is (omega (arith, a.high_is)))
      (λ j N e f. absurd (omega arith))
    where
      order : Ordered t (direct A B 0 A.high 0 0).wires
      order = omega (arith, a.high_is)

  -- mirrored
  pub bottom_direct_good : Reaches tr B → A.net ≡ 0 → Good top bottom c t tr A.net B.net (direct A B B.low B.low 0 0)
  bottom_direct_good b z =
      direct_good B.low B.low 0 0 (omega arith) (omega (arith, b.low_is))
      (bottom_end_lem t (direct A B B.low B.low 0 0) (omega (arith, b.low_is)) (omega (arith, b.low_is))) grant_none (λ v. zero-le)
      (λ n. stays B.low B.low 0 0 n b.low_is (omega (arith, b.low_is)))
      (λ n. absurd (n z))
      (λ j N e f. absurd (omega arith))

  -- two continuing pins that do not cross
  pub both_direct_good : Reaches tr A → Reaches tr B → B.low < A.high → Good top bottom c t tr A.net B.net (direct A B B.low A.high 0 0)
  both_direct_good a b p =
      direct_good B.low A.high 0 0 (omega arith) (omega (arith, a.high_is))
      (bottom_end_lem t (direct A B B.low A.high 0 0) (omega (arith, a.high_is)) (omega (arith, b.low_is))) grant_none (λ v. zero-le)
      (λ n. stays B.low A.high 0 0 n b.low_is (omega (arith, b.low_is)))
      (λ n. stays B.low A.high 0 0 n a.high_is (omega (arith, a.high_is)))
      (λ j N e f. absurd (omega arith))

  -- a continuing pin, and the other pin's net on the free track
  pub top_goes_good : (f : Free) → Reaches tr A → Strand 0 tr f.first → f.first < A.high
      → Good top bottom c t tr A.net B.net (direct A B f.first A.high f.first B.net)
  top_goes_good f a s p =
      direct_good f.first A.high f.first B.net (omega arith) (omega (arith, a.high_is))
      (bottom_end_lem t (direct A B f.first A.high f.first B.net) (omega (arith, a.high_is)) (omega arith)) (grant_free s (bottom_net refl))
      (λ v. omega (arith, gift_le v f.first B.net))
      (λ n. given_leaves f.first A.high f.first B.net s)
      (λ n. stays f.first A.high f.first B.net n a.high_is (omega arith))
      (λ j N e g. on_bottom_lem (direct A B f.first A.high f.first B.net) g e (omega arith))

  -- mirrored
  pub bottom_goes_good : (f : Free) → Reaches tr B → Strand 0 tr f.first → B.low < f.first
      → Good top bottom c t tr A.net B.net (direct A B B.low f.first f.first A.net)
  bottom_goes_good f b s p =
      direct_good B.low f.first f.first A.net (omega arith) (omega arith)
      (bottom_end_lem t (direct A B B.low f.first f.first A.net) (omega arith) (omega (arith, b.low_is))) (grant_free s (top_net refl))
      (λ v. omega (arith, gift_le v f.first A.net))
      (λ n. stays B.low f.first f.first A.net n b.low_is (omega arith))
      (λ n. given_leaves B.low f.first f.first A.net s)
      (λ j N e g. on_top_lem (direct A B B.low f.first f.first A.net) g e (omega arith) (omega arith))

  module _ (d : B.net ≢ A.net) where
    -- A NET JOINS ITS TWO STRANDS, and leaves one of them to the other pin's net
    pub top_joins_good : Reaches tr A → A.many ≢ 1 → Good top bottom c t tr A.net B.net (top_joins A B)
    top_joins_good a m = (
      pin_wires_sound (omega arith) (omega (arith, a.low_is)) (bottom_end_lem t (top_joins A B) (omega (arith, a.low_is)) (omega (arith, a.low_is))) apart
          (grant_old a.high_is (top_net refl)) (grant_old a.low_is (bottom_net refl)) grant_none (pin_net (top_net refl)) (nobody refl)
          (λ n. outward (two_leaves (top_joins A B) tr apart a.low_is refl))
          (λ n. inward (inl refl) a.low_is)
          (λ j N n. gives (λ e f. inr (on_top_lem (top_joins A B) f e a.ordered (omega (arith, a.high_is))))
          (λ e f. inr (on_bottom_lem (top_joins A B) f e (omega arith))) (λ e f. absurd (omega arith)))
          (λ n. top_run_lem t tr size (top_joins A B) (omega arith) d (omega (arith, a.low_is)) n (λ j e. (a.span j e).0)
          (λ j. gives (λ e f. omega (arith, a.ordered)) (λ e f. absurd (d f)) (λ e f. absurd (omega arith))))
          (λ n. absurd (n refl)),
      one_leaves_on top bottom c t tr (top_joins A B) pins_on
          (λ v n i. omega (arith, gift_other v A.high A.net i, gift_le v A.low B.net))
          refl (inl refl) (A.high, one_leaves (top_joins A B) tr apart a.high_is refl)
          (omega (
            arith,
            gift_le A.net A.high A.net,
            gift_other A.net A.low B.net d,
            strand_times a.low_is,
            bit_most (eqb A.net A.net),
          )),
    )
      where
        apart : Distinct (top_joins A B)
        apart = two_tracks (top_joins A B) (omega (arith, a.spread m)) refl

    -- mirrored
    pub bottom_joins_good : Reaches tr B → B.many ≢ 1 → Good top bottom c t tr A.net B.net (bottom_joins A B)
    bottom_joins_good b m = (
      pin_wires_sound (omega arith) (omega (arith, b.high_is)) (bottom_end_lem t (bottom_joins A B) (omega (arith, b.high_is)) (omega (arith, b.high_is))) apart
          (grant_old b.low_is (bottom_net refl)) (grant_old b.high_is (top_net refl)) grant_none (pin_net (bottom_net refl)) (nobody refl)
          (λ n. inward (inl refl) b.high_is)
          (λ n. outward (two_leaves (bottom_joins A B) tr apart b.high_is refl))
          (λ j N n. gives (λ e f. inr (on_bottom_lem (bottom_joins A B) f e b.ordered))
          (λ e f. inr (on_top_lem (bottom_joins A B) f e (omega arith) (omega (arith, b.high_is)))) (λ e f. absurd (omega arith)))
          (λ n. bottom_run_lem t tr size (bottom_joins A B) (omega arith) d (omega (arith, b.high_is)) n (λ j e. (b.span j e).1)
          (λ j. gives (λ e f. omega (arith, b.ordered)) (λ e f. absurd (d (sym f))) (λ e f. absurd (omega arith))))
          (λ n. absurd (n refl)),
      one_leaves_on top bottom c t tr (bottom_joins A B) pins_on
          (λ v n i. omega (arith, gift_other v B.low B.net i, gift_le v B.high A.net))
          refl (inr refl) (B.low, one_leaves (bottom_joins A B) tr apart b.low_is refl)
          (omega (
            arith,
            gift_le B.net B.low B.net,
            gift_other B.net B.high A.net (λ i. d (sym i)),
            strand_times b.low_is,
            bit_most (eqb B.net B.net),
          )),
    )
      where
        apart : Distinct (bottom_joins A B)
        apart = two_tracks (bottom_joins A B) (omega (arith, b.spread m)) refl

    -- A NET LEAVES ON A FREE TRACK INSTEAD of the strand at its pin, which the other pin's net takes
    pub top_moves_good : (f : Free) → Reaches tr A → A.many ≤ 2 → Strand 0 tr f.first → A.high ≤ f.first
        → Good top bottom c t tr A.net B.net (top_moves A B f)
    top_moves_good f a few s p = (
      pin_wires_sound (omega arith) (omega (arith, a.high_is)) (bottom_end_lem t (top_moves A B f) (omega (arith, a.high_is)) (omega (arith, a.high_is))) apart
          (grant_free s (top_net refl)) (grant_old a.high_is (bottom_net refl)) (grant_unless (eqb A.many 1) (grant_old a.low_is (top_net refl)))
          (pin_net (top_net refl)) (nobody refl)
          (λ n. outward (two_leaves (top_moves A B f) tr apart a.high_is refl))
          (λ n. inward (inl refl) a.high_is)
          (λ j N n. gives (λ e g. inr (on_top_lem (top_moves A B f) g e p (omega arith))) (λ e g. inr (on_bottom_lem (top_moves A B f) g e (omega arith)))
          (λ e g. inl (strand_at (subst (Strand A.net tr) (other_track A.many A.low j e).0 a.low_is) ∙ g)))
          (λ n. carried record {
            exits = record {
              on_bottom = λ g h. absurd (d g);
              on_middle = λ g h. absurd (omega arith);
              on_top = λ g h. out_at leaves (omega arith) (omega arith);
            };
            ins = λ j h. ins j h (eqb A.many 1) (same_by A.many 1);
          })
          (λ n. absurd (n refl)),
      one_leaves_on top bottom c t tr (top_moves A B f) pins_on
          (λ v n m. omega (
            arith,
            gift_other v f.first A.net m,
            gift_le v A.high B.net,
            gift_other v (pick (eqb A.many 1) 0 A.low) A.net m,
          ))
          refl (inl refl) (f.first, leaves)
          (omega (
            arith,
            gift_le A.net f.first A.net,
            gift_other A.net A.high B.net d,
            bit_most (eqb A.net A.net),
            other_gift A.net A.many A.low (omega (arith, a.count, strand_times a.low_is)),
            a.count,
          )),
    )
      where
        apart : Distinct (top_moves A B f)
        apart = moves_apart a.some s a.high_is a.low_is (λ (w : A.many ≢ 1). omega (arith, a.spread w))

        leaves : Strand A.net (after (top_moves A B f) tr) f.first
        leaves = one_leaves (top_moves A B f) tr apart s refl

        at_run : (j : ℕ) → suc j ≡ A.high → AtRun t (top_moves A B f).wires A.net (suc j)
        at_run j e = (A.high, suc t, top_run refl, omega (arith, a.high_is), omega arith, omega (arith, a.high_is))

        ins : (j : ℕ) → get_or tr j 0 ≡ A.net → (q : Bool) → Same A.many 1 q
            → (get_or (after (top_moves A B f) tr) j 0 ≡ A.net) ⊎ AtRun t (top_moves A B f).wires A.net (suc j)
        ins j h true (same w) = inr (at_run j (a.lone w j h).1)
        ins j h false (diff w) =
            ⊎_elim
            (λ l. inl (strand_at (three_leaves (top_moves A B f) tr apart (subst (Strand A.net tr) (sym l) a.low_is)
            (pick_diff A.many 1 0 A.low w ∙ sym l))))
            (λ l. inr (at_run j l))
            (a.pair few j h)

    -- mirrored
    pub bottom_moves_good : (f : Free) → Reaches tr B → B.many ≤ 2 → Strand 0 tr f.first → f.first ≤ B.low
        → Good top bottom c t tr A.net B.net (bottom_moves A B f)
    bottom_moves_good f b few s p = (
      pin_wires_sound (omega arith) (omega (arith, b.low_is)) (bottom_end_lem t (bottom_moves A B f) (omega (arith, b.low_is)) (omega (arith, b.low_is))) apart
          (grant_free s (bottom_net refl)) (grant_old b.low_is (top_net refl)) (grant_unless (eqb B.many 1) (grant_old b.high_is (bottom_net refl)))
          (pin_net (bottom_net refl)) (nobody refl)
          (λ n. inward (inl refl) b.low_is)
          (λ n. outward (two_leaves (bottom_moves A B f) tr apart b.low_is refl))
          (λ j N n. gives (λ e g. inr (on_bottom_lem (bottom_moves A B f) g e p))
          (λ e g. inr (on_top_lem (bottom_moves A B f) g e (omega arith) (omega (arith, b.low_is))))
          (λ e g. inl (strand_at (subst (Strand B.net tr) (other_track B.many B.high j e).0 b.high_is) ∙ g)))
          (λ n. carried record {
            exits = record {
              on_bottom = λ g h. out_at leaves (omega arith) (omega arith);
              on_middle = λ g h. absurd (omega arith);
              on_top = λ g h. absurd (d (sym g));
            };
            ins = λ j h. ins j h (eqb B.many 1) (same_by B.many 1);
          })
          (λ n. absurd (n refl)),
      one_leaves_on top bottom c t tr (bottom_moves A B f) pins_on
          (λ v n m. omega (
            arith,
            gift_other v f.first B.net m,
            gift_le v B.low A.net,
            gift_other v (pick (eqb B.many 1) 0 B.high) B.net m,
          ))
          refl (inr refl) (f.first, leaves)
          (omega (
            arith,
            gift_le B.net f.first B.net,
            gift_other B.net B.low A.net (λ i. d (sym i)),
            bit_most (eqb B.net B.net),
            other_gift B.net B.many B.high (omega (arith, b.count, strand_times b.low_is)),
            b.count,
          )),
    )
      where
        apart : Distinct (bottom_moves A B f)
        apart = moves_apart b.some s b.low_is b.high_is (λ (w : B.many ≢ 1). omega (arith, b.spread w))

        leaves : Strand B.net (after (bottom_moves A B f) tr) f.first
        leaves = one_leaves (bottom_moves A B f) tr apart s refl

        at_run : (j : ℕ) → suc j ≡ B.low → AtRun t (bottom_moves A B f).wires B.net (suc j)
        at_run j e = (0, B.low, bottom_run refl, omega (arith, b.low_is), zero-le, omega arith)

        ins : (j : ℕ) → get_or tr j 0 ≡ B.net → (q : Bool) → Same B.many 1 q
            → (get_or (after (bottom_moves A B f) tr) j 0 ≡ B.net) ⊎ AtRun t (bottom_moves A B f).wires B.net (suc j)
        ins j h true (same w) = inr (at_run j (b.lone w j h).0)
        ins j h false (diff w) =
            ⊎_elim
            (λ l. inr (at_run j l))
            (λ l. inl (strand_at (three_leaves (bottom_moves A B f) tr apart (subst (Strand B.net tr) (sym l) b.high_is)
            (pick_diff B.many 1 0 B.high w ∙ sym l))))
            (b.pair few j h)
