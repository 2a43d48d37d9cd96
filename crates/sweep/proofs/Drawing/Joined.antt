-- What a column without pins draws: the join of the lowest-numbered extended net, and the other strands running straight.
use Prim.Native.Nat.{ℕ, zero, suc, ◌≤◌, ◌<◌}
use mathlib.Core.Path.{◌≡◌, refl, ap, ap₂, ◌∙◌}
use mathlib.Core.Logic.{inl, ◌≢◌}
use mathlib.Core.Bool.{Bool, true}
use mathlib.Core.List.{List, ◌∷◌, ◌++◌}
use native.Mathlib.Omega.{arith}
use native.Mathlib.Decide.{ℕ_discrete}
use lib.Dec.{ltb}
use lib.ListN.{length, replicate}
use Rattle.grid.specs.Channel.{pick, times, right}
use Rattle.grid.specs.Grid.{column_of}
use Rattle.grid.specs.Segments.{segment}
use Rattle.grid.proofs.Tests.{ne_eqb, pick_same}
use Rattle.grid.proofs.Counting.{times_at}
use Rattle.grid.proofs.Rows.{RowsFit}
use Rattle.sweep.specs.declared.Move.{Move}
use Rattle.sweep.specs.Tracks.{clear, after, values_from, verticals}
use Rattle.sweep.specs.Rules.{straight}
use Rattle.sweep.specs.ThreePin.{still}
use Rattle.sweep.specs.Drawing.{extended_at, extended_net, joining, empty_at, empty_column, move, state_by, gap, move_at, layout}
use Rattle.sweep.proofs.Tracks.Changed.{clear_idle}
use Rattle.sweep.proofs.Tracks.Nets.{net_least}
use Rattle.sweep.proofs.Gaps.Held.{Enough}
use Rattle.sweep.proofs.Gaps.Pins.{later_by, false_of}
use Rattle.sweep.proofs.Gaps.Joints.{extended-right}
use Rattle.sweep.proofs.Rules.Empty.{empty_after}
use Rattle.sweep.proofs.Drawing.Whole.{layout-column}

-- where all runs straight there is no vertical edge
flat : (t : ℕ) → verticals t straight ≡ replicate (suc t) 0
unfolding verticals values_from segment
flat t = go (suc t) 0
  where
    each : (p q r s : Bool) → pick {A = ℕ} p 0 (pick {A = ℕ} q 0 (pick {A = ℕ} r 0 (pick {A = ℕ} s 0 0))) ≡ 0
    each p q r s = rw (pick_same s, pick_same r, pick_same q, pick_same p)

    go : (k y : ℕ) → values_from k y (segment straight.wires) ≡ replicate k 0
    go zero y = refl
    go (suc k) y = ap₂ (λ (x : ℕ) (l : List ℕ). x ∷ l) (each (ltb y 0) (ltb y 0) (ltb y 0) (ltb y 0)) (go k (suc y))

module _ (top bottom : List ℕ) (c : ℕ) (tr : List ℕ) where
  -- net v is extended: its pins all lie left, and it has strands
  abbrev pub Extended : ℕ → Type 0
  Extended v = (v ≢ 0) × (right top bottom c v ≡ 0) × (0 < times v tr)

  -- so the test finds it
  extended_passes : (v : ℕ) → Extended v → extended_at top bottom c v ≡ true
  unfolding extended_at
  extended_passes v (n, r, k) = rw (ne_eqb v 0 n, false_of (later_by top bottom c v n) (omega arith))

  -- the lowest of them is the net that is joined
  pub lowest-extended : (v : ℕ) → Extended v → ((u : ℕ) → Extended u → v ≤ u) → extended_net top bottom c tr ≡ v
  unfolding extended_net
  lowest-extended v e least =
      let (j, p, i) = times_at v tr e.2 in
      let (n, q) = net_least (extended_at top bottom c) tr j p (rw i (extended_passes v e)) (rw i (omega (arith, e.0))) in
      let (r, k) = extended-right top bottom c tr (omega arith) in
      omega (arith, i, least (extended_net top bottom c tr) (omega arith, r, k))

  -- and where there is none, none is joined
  none_is : ((v : ℕ) → Extended v → ⊥) → extended_net top bottom c tr ≡ 0
  none_is nobody = go (ℕ_discrete (extended_net top bottom c tr) 0)
    where
      go : Dec (extended_net top bottom c tr ≡ 0) → extended_net top bottom c tr ≡ 0
      go (yes z) = z
      go (no n) = let (r, k) = extended-right top bottom c tr n in absurd (nobody (extended_net top bottom c tr) (n, r, k))

-- A COLUMN WITHOUT PINS
module _ (t : ℕ) (top bottom : List ℕ) (c : ℕ) (empty : empty_at top bottom c ≡ true) where
  -- what it does
  pub column_does : move_at t top bottom c ≡ still (empty_column top bottom c (gap t top bottom c))
  unfolding move_at move
  column_does = rw empty

  -- the gap after it
  pub gap-after : gap t top bottom (suc c) ≡ clear (extended_net top bottom c (gap t top bottom c)) (gap t top bottom c)
  unfolding state_by move_at
  gap-after = ap (λ (x : Move). after x.action (gap t top bottom c)) column_does ∙ empty_after top bottom c (gap t top bottom c)

-- among the columns 1 to n
module _ (t : ℕ) (top bottom : List ℕ) (fit : RowsFit top bottom) (enough : Enough t top bottom) (c : ℕ) (inside : c < length top)
    (empty : empty_at top bottom c ≡ true) where
  -- the column, by the net that is joined
  column-drawn : column_of (layout t top bottom) t c
      ≡ verticals t (empty_column top bottom c (gap t top bottom c)) ++ clear (extended_net top bottom c (gap t top bottom c)) (gap t top bottom c)
  column-drawn = layout-column t top bottom fit enough c inside ∙ cc (column_does t top bottom c empty, gap-after t top bottom c empty)

  -- THE LOWEST-NUMBERED EXTENDED NET IS JOINED
  pub lowest_joined : (v : ℕ) → Extended top bottom c (gap t top bottom c) v → ((u : ℕ) → Extended top bottom c (gap t top bottom c) u → v ≤ u)
      → column_of (layout t top bottom) t c ≡ verticals t (joining (gap t top bottom c) v) ++ clear v (gap t top bottom c)
  unfolding empty_column
  lowest_joined v e least =
      let i = lowest-extended top bottom c (gap t top bottom c) v e least in
      rw (i, ne_eqb v 0 e.0) at column-drawn

  -- AND WHERE THERE IS NONE ALL RUNS STRAIGHT
  pub all_straight : ((v : ℕ) → Extended top bottom c (gap t top bottom c) v → ⊥) → column_of (layout t top bottom) t c ≡ replicate (suc t) 0 ++ gap t top bottom c
  unfolding empty_column
  all_straight nobody =
      let i = none_is top bottom c (gap t top bottom c) nobody in
      (rw i at column-drawn) ∙ cc (flat t, clear_idle 0 (gap t top bottom c) (inl refl))
