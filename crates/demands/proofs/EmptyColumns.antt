-- Empty columns are put to work. Assumes nothing.
use Prim.Native.Nat.{ℕ, ◌<◌}
use mathlib.Core.Path.{◌≡◌, refl}
use mathlib.Core.Bool.{Bool, true, false}
use mathlib.Core.List.{List}
use lib.ListN.{length}
use Rattle.grid.specs.Channel.{tracks, rows_refused}
use Rattle.grid.proofs.Rows.{rows_fit}
use Rattle.sweep.specs.Drawing.{empty_at}
use Rattle.sweep.proofs.Solved.{tracks_enough}
use Rattle.sweep.proofs.Rules.Empty.{no_pins_lem, empty_at_lem}
use Rattle.sweep.proofs.Drawing.Joined.{lowest_joined, all_straight}
use Rattle.sweep.proofs.Drawing.Before.{width_before_lem, layout_before_lem}
use Rattle.router.proofs.Applied.{solved, width_half}
use Rattle.demands.specs.EmptyColumns.{Empty, JoinsThere, EmptyAtWork, EmptyColumnsWork}
use Rattle.demands.proofs.Tracks.{rows_accepted}

module _ (top bottom : List ℕ) (ok : rows_refused top bottom 256 ≡ 0) where
  -- an empty column
  joins_there : (c : ℕ) → c < length top → Empty top bottom c → JoinsThere top bottom c
  joins_there c p (a, b) =
      let fit = rows_fit top bottom ok in
      let e = empty_at_lem top bottom c a b in
      record {
        joins = lowest_joined (tracks top bottom) top bottom fit (tracks_enough top bottom) c p e;
        otherwise = all_straight (tracks top bottom) top bottom fit (tracks_enough top bottom) c p e;
      }

  -- where there is none
  filled : ((c : ℕ) → c < length top → Empty top bottom c → ⊥) → (c : ℕ) → c < length top → empty_at top bottom c ≡ false
  filled none c p = go (empty_at top bottom c) refl
    where
      go : (q : Bool) → empty_at top bottom c ≡ q → q ≡ false
      go true e = absurd (none c p (no_pins_lem top bottom c e))
      go false e = refl

  at_work : EmptyAtWork top bottom
  at_work = record {
    empty = joins_there;
    as_before = λ none. (width_before_lem (tracks top bottom) top bottom (filled none), layout_before_lem (tracks top bottom) top bottom (filled none));
    half = width_half top bottom ok;
    solution = solved top bottom ok;
  }

-- ALL CHANNELS
pub empty_columns_work : EmptyColumnsWork
empty_columns_work top bottom l = at_work top bottom ((rows_accepted top bottom).1 l)
