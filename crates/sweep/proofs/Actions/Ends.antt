-- The actions of a column in which a pin's net ends, and the other pin's net takes its track; or both end.
use Prim.Native.Nat.{ℕ, ◌<◌, zero-le}
use mathlib.Core.Path.{◌≡◌, refl, sym, ◌∙◌}
use mathlib.Core.Logic.{inl, inr, ◌≢◌, ⊎_elim}
use mathlib.Core.List.{List}
use native.Mathlib.Omega.{arith}
use lib.Dec.{eqb}
use lib.ListN.{length}
use Rattle.sweep.specs.Tracks.{after}
use Rattle.sweep.specs.declared.Pin.{Pin}
use Rattle.sweep.specs.Rules.{taken, top_ends, bottom_ends, both_join}
use Rattle.sweep.proofs.Tracks.Strands.{Strand, strand_is}
use Rattle.sweep.proofs.Tracks.After.{Gives, gives, one_track, one_leaves, gift, gift_le, gift_other}
use Rattle.sweep.proofs.Columns.Sound.{outward, inward, grant_none, grant_old, grant_unless, pin_net}
use Rattle.sweep.specs.Working.{nobody, top_net, bottom_net}
use Rattle.sweep.proofs.Gaps.Pins.{Reaches, Off}
use Rattle.sweep.proofs.Actions.Good.{Good, Begun, taken-some, pick_track, on_bottom_lem, on_top_lem, none_given, one_given, top_run_lem, bottom_run_lem}
use Rattle.sweep.proofs.Actions.Good.{pin_wires_sound, bottom_end_lem}

module _ (top bottom : List ℕ) (c t : ℕ) (tr : List ℕ) (size : length tr ≡ t) (A B : Pin) (d : B.net ≢ A.net) where
  -- THE TOP NET ENDS: it joins all strands up to its pin, and the bottom pin's net, where there is one, takes the lowest
  pub top_ends_good : Reaches tr A → Off top bottom c A.net → Begun top bottom c t tr A.net B.net
      → Good top bottom c t tr A.net B.net (top_ends A B)
  top_ends_good a z begun = (
    pin_wires_sound (omega arith) (omega (arith, a.low_is)) (bottom_end_lem t (top_ends A B) (omega (arith, a.low_is)) (omega (arith, a.low_is)))
        (one_track (top_ends A B) refl refl)
        (grant_unless (eqb B.net 0) (grant_old a.low_is (bottom_net refl))) grant_none grant_none (pin_net (top_net refl)) (nobody refl)
        (λ n. outward (given_leaves n))
        (λ n. inward (inl refl) a.low_is)
        (one_given tr (top_ends A B) refl refl (λ j N e f. on_bottom_lem (top_ends A B) f (pick_track (eqb B.net 0) A.low j e) (omega arith)))
        (λ n. top_run_lem t tr size (top_ends A B) (omega arith) d (omega (arith, a.low_is)) n (λ j e. (a.span j e).0)
        (λ j. gives (λ e f. absurd (d f)) (λ e f. absurd (omega arith)) (λ e f. absurd (omega arith))))
        (λ n. absurd (n refl)),
    record {
      ended_on = λ n p. absurd (omega arith);
      ended_off = λ n p. omega (arith, own);
      ended_few = λ n. omega (arith, own);
      closed_off = λ n. absurd (n refl);
      others_few = λ v n m k. omega (arith, gift_le v (taken B.net A.low) B.net);
      beside = λ v n here m k p. (
        begun v n here p,
        ⊎_elim (λ i. absurd (m i)) (λ i. (A.low, A.net, a.low_is, m, strand_is i (given_leaves (λ q. n (sym i ∙ q))))) here,
      );
    },
  )
    where
      own : gift A.net (taken B.net A.low) B.net ≡ 0
      own = gift_other A.net (taken B.net A.low) B.net d

      given_leaves : B.net ≢ 0 → Strand B.net (after (top_ends A B) tr) A.low
      given_leaves n = one_leaves (top_ends A B) tr (one_track (top_ends A B) refl refl) a.low_is (taken-some B.net A.low n)

  -- MIRRORED: the bottom net ends
  pub bottom_ends_good : Reaches tr B → Off top bottom c B.net → Begun top bottom c t tr A.net B.net
      → Good top bottom c t tr A.net B.net (bottom_ends A B)
  bottom_ends_good b z begun = (
    pin_wires_sound (omega arith) (omega (arith, b.high_is)) (bottom_end_lem t (bottom_ends A B) (omega (arith, b.high_is)) (omega (arith, b.high_is)))
        (one_track (bottom_ends A B) refl refl)
        (grant_unless (eqb A.net 0) (grant_old b.high_is (top_net refl))) grant_none grant_none (pin_net (bottom_net refl)) (nobody refl)
        (λ n. inward (inl refl) b.high_is)
        (λ n. outward (given_leaves n))
        (one_given tr (bottom_ends A B) refl refl
        (λ j N e f. on_top_lem (bottom_ends A B) f (pick_track (eqb A.net 0) B.high j e) (omega arith) (omega (arith, b.high_is))))
        (λ n. bottom_run_lem t tr size (bottom_ends A B) (omega arith) d (omega (arith, b.high_is)) n (λ j e. (b.span j e).1)
        (λ j. gives (λ e f. absurd (d (sym f))) (λ e f. absurd (omega arith)) (λ e f. absurd (omega arith))))
        (λ n. absurd (n refl)),
    record {
      ended_on = λ n p. absurd (omega arith);
      ended_off = λ n p. omega (arith, own);
      ended_few = λ n. omega (arith, own);
      closed_off = λ n. absurd (n refl);
      others_few = λ v n m k. omega (arith, gift_le v (taken A.net B.high) A.net);
      beside = λ v n here m k p. (
        begun v n here p,
        ⊎_elim (λ i. (B.high, B.net, b.high_is, m, strand_is i (given_leaves (λ q. n (sym i ∙ q))))) (λ i. absurd (m i)) here,
      );
    },
  )
    where
      own : gift B.net (taken A.net B.high) A.net ≡ 0
      own = gift_other B.net (taken A.net B.high) A.net (λ i. d (sym i))

      given_leaves : A.net ≢ 0 → Strand A.net (after (bottom_ends A B) tr) B.high
      given_leaves n = one_leaves (bottom_ends A B) tr (one_track (bottom_ends A B) refl refl) b.high_is (taken-some A.net B.high n)

  -- BOTH END, the bottom net's strands below the top net's
  pub both_join_good : Reaches tr A → Reaches tr B → Off top bottom c A.net → Off top bottom c B.net → B.high < A.low
      → Good top bottom c t tr A.net B.net (both_join A B)
  both_join_good a b z y p = (
    pin_wires_sound (omega arith) (omega (arith, a.low_is)) (bottom_end_lem t (both_join A B) (omega (arith, a.low_is)) (omega (arith, b.high_is)))
        (one_track (both_join A B) refl refl)
        grant_none grant_none grant_none (pin_net (top_net refl)) (bottom_net refl)
        (λ n. inward (inr refl) b.high_is)
        (λ n. inward (inl refl) a.low_is)
        (none_given tr (both_join A B) refl refl refl)
        (λ n. top_run_lem t tr size (both_join A B) (omega arith) d (omega (arith, a.low_is)) n (λ j e. (a.span j e).0) (λ j g. absurd (never j g)))
        (λ n. bottom_run_lem t tr size (both_join A B) (omega arith) d (omega (arith, b.high_is)) n (λ j e. (b.span j e).1) (λ j g. absurd (never j g))),
    record {
      ended_on = λ n q. absurd (omega arith);
      ended_off = λ n q. refl;
      ended_few = λ n. zero-le;
      closed_off = λ n. (y, refl);
      others_few = λ v n m k. zero-le;
      beside = λ v n here m k q. absurd (⊎_elim (λ i. m i) (λ i. k i) here);
    },
  )
    where
      never : {N : ℕ} (j : ℕ) → Gives (both_join A B) j N → ⊥
      never j = gives (λ e f. omega arith) (λ e f. omega arith) (λ e f. omega arith)
