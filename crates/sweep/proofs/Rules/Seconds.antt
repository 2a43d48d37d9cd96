-- Which column is chosen does not depend on the second lowest strand of a net that has no later pins.
use Prim.Native.Nat.{ℕ}
use mathlib.Core.Path.{◌≡◌, refl, ap}
use mathlib.Core.Bool.{Bool, true, false, not, ◌&&◌}
use lib.Dec.{eqb}
use Rattle.grid.specs.Channel.{pick}
use Rattle.sweep.specs.declared.Action.{Action}
use Rattle.sweep.specs.declared.Pin.{Pin}
use Rattle.sweep.specs.declared.Free.{Free}
use Rattle.sweep.specs.declared.Joint.{Joint}
use Rattle.sweep.specs.declared.Double.{Double}
use Rattle.sweep.specs.Rules.{Kind, none, starts, continues, ends, kind_of, join_net}
use Rattle.sweep.specs.TwoPin
use Rattle.sweep.specs.TwoPin.{choose_two, join_or}
use Rattle.sweep.specs.ManyPin.{choose_many, both_pins}
use Rattle.sweep.specs.ThreePin.{choose_three}
use Rattle.sweep.specs.Working.{join_alone}
use Rattle.sweep.proofs.Rules.Kinds.{rule_two}

-- the net of rule 2, its second lowest strand only where it leaves on that one
abbrev pub leaving : Joint → Joint
leaving N = record { net = N.net; low = N.low; second = pick N.later N.second 0; high = N.high; later = N.later }

-- a column without pins
pub alone_same : (N : Joint) → join_alone (leaving N) ≡ join_alone N
unfolding join_alone
alone_same N = refl

module _ (A B : Pin) (f : Free) (N : Joint) where
  -- its join
  join_same : (a b : ℕ) → join_net (leaving N) a b ≡ join_net N a b
  join_same a b = go N.later
    where
      known : Bool → ℕ → Joint
      known q y = record { net = N.net; low = N.low; second = y; high = N.high; later = q }

      go : (q : Bool) → join_net (known q (pick q N.second 0)) a b ≡ join_net (known q N.second) a b
      go true = refl
      go false = refl

  -- rule 2, or else
  or_same : (x : Action) → join_or (leaving N) A.net B.net x ≡ join_or N A.net B.net x
  unfolding join_or
  or_same x = ap (pick (eqb N.net 0) x) (join_same A.net B.net)

  -- the sixteen pairs of two-pin channels
  kinds_same : (k l : Kind) → TwoPin.by_kinds A B f (leaving N) k l ≡ TwoPin.by_kinds A B f N k l
  unfolding TwoPin.by_kinds
  kinds_same none none = refl
  kinds_same none starts = or_same _
  kinds_same starts none = or_same _
  kinds_same starts starts = or_same _
  kinds_same none ends = refl
  kinds_same starts ends = refl
  kinds_same ends none = refl
  kinds_same ends starts = refl
  kinds_same ends ends = refl
  kinds_same none continues = refl
  kinds_same starts continues = refl
  kinds_same ends continues = refl
  kinds_same continues none = refl
  kinds_same continues starts = refl
  kinds_same continues continues = refl
  kinds_same continues ends = refl

  -- two-pin channels
  pub two_same : (t : ℕ) → choose_two t A B f (leaving N) ≡ choose_two t A B f N
  unfolding choose_two
  two_same t = ap (pick (not (eqb A.net 0) && eqb A.net B.net) _) (kinds_same (kind_of A.kind) (kind_of B.kind))

  -- many-pin channels
  pub many_same : (t : ℕ) (later : Bool) → choose_many t A B f (leaving N) later ≡ choose_many t A B f N later
  unfolding choose_many both_pins
  many_same t later = simp join_same

  -- three-pin channels
  pub three_same : (t ea eb : ℕ) (D M : Double) → choose_three t A B ea eb f (leaving N) D M ≡ choose_three t A B ea eb f N D M
  unfolding choose_three
  three_same t ea eb D M = simp (rule_two A B ea eb f (leaving N) D M, rule_two A B ea eb f N D M, join_same)
