-- Past the last column: all runs straight or an extended net is joined, so each column's move fits its gap there too.
use Prim.Native.Nat.{ℕ, ◌≤◌, ◌<◌}
use mathlib.Core.Path.{◌≡◌, refl, sym, subst}
use mathlib.Core.List.{List}
use mathlib.Core.Logic.{⊎_elim}
use native.Mathlib.Omega.{arith}
use native.Mathlib.Decide.{ℕ_discrete}
use lib.Dec.{eqb}
use lib.ListN.{length, get_or}
use Rattle.grid.specs.declared.Segments.{Segments}
use Rattle.grid.proofs.Tests.{below_or}
use Rattle.grid.proofs.Counting.{times_at}
use Rattle.grid.proofs.Rows.{RowsFit}
use Rattle.sweep.specs.declared.Action.{Action}
use Rattle.sweep.specs.declared.Move.{Move}
use Rattle.sweep.specs.Rules.{no_track, act, straight}
use Rattle.sweep.specs.ThreePin.{still}
use Rattle.sweep.specs.Drawing.{extended_at, extended_net, joining, empty_column, gap}
use Rattle.sweep.specs.Working.{nobody}
use Rattle.router.specs.Working.{Fitting, FitsAt}
use Rattle.router.proofs.Applied.{column_fits}
use Rattle.sweep.proofs.Solved.{Enough}
use Rattle.sweep.proofs.Tracks.Nets.{a_net}
use Rattle.sweep.proofs.Rules.Chosen.{by}
use Rattle.sweep.proofs.Drawing.Past.{move_past, gap_nets}

-- on tracks with no number over 256 the extended net is numbered up to 256
extended_small : (top bottom : List ℕ) (c : ℕ) (tr : List ℕ) → ((j : ℕ) → get_or tr j 0 ≤ 256) → extended_net top bottom c tr ≤ 256
unfolding extended_net
extended_small top bottom c tr h = go (ℕ_discrete (extended_net top bottom c tr) 0)
  where
    go : Dec (extended_net top bottom c tr ≡ 0) → extended_net top bottom c tr ≤ 256
    go (yes e) = omega arith
    go (no n) =
        let (i, p, e) = times_at (extended_net top bottom c tr) tr (a_net (extended_at top bottom c) tr (extended_net top bottom c tr) n refl).1 in
        omega (arith, h i)

-- a column that ends net v alone, and gives no track, fits
ends_fits : (top bottom : List ℕ) (c : ℕ) (tr : List ℕ) (w : Segments) (v : ℕ) → v ≤ 256
    → Fitting top bottom c (still (act w v 0 no_track no_track no_track)) tr
ends_fits top bottom c tr w v p = record {
  applies = record {
    ended = p;
    closed = omega arith;
    net1 = omega arith;
    net2 = omega arith;
    net3 = omega arith;
    free1 = tt;
    free2 = tt;
    free3 = tt;
  };
  plain = record { closed = nobody refl; net1 = nobody refl; net2 = nobody refl; net3 = nobody refl };
  double = omega arith;
  single = omega arith;
}

-- so does a column without pins, where the tracks hold no number over 256
empty_fits : (top bottom : List ℕ) (c : ℕ) (tr : List ℕ) → ((j : ℕ) → get_or tr j 0 ≤ 256) → Fitting top bottom c (still (empty_column top bottom c tr)) tr
unfolding empty_column joining
empty_fits top bottom c tr h =
    let v = extended_net top bottom c tr in
    by (λ (x : Action). Fitting top bottom c (still x) tr) (eqb v 0) (λ e. ends_fits top bottom c tr straight.wires 0 (omega arith))
    (λ e. ends_fits top bottom c tr (joining tr v).wires v (extended_small top bottom c tr h))

-- EVERY COLUMN'S MOVE FITS ITS GAP, past the last column too
pub fits_anywhere : (t : ℕ) (top bottom : List ℕ) → RowsFit top bottom → Enough t top bottom → (c : ℕ) → FitsAt t top bottom c
fits_anywhere t top bottom fit enough c =
    ⊎_elim (λ (p : c < length top). column_fits t top bottom fit enough c p)
    (λ (p : length top ≤ c). subst (λ (x : Move). Fitting top bottom c x (gap t top bottom c)) (sym (move_past t top bottom fit.same c p))
    (empty_fits top bottom c (gap t top bottom c) (gap_nets t top bottom fit enough c)))
    (below_or c (length top))
