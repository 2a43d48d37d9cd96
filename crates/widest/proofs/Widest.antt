-- THE WIDEST DRAWING, for each n from 0 to 256 by one argument: the channel written has n columns and two-pin nets and is accepted, its drawing adds n/2
-- columns, rounded down, and no channel of two-pin nets with n columns makes the router add more.
use Prim.Native.Nat.{ℕ, ◌+◌, ◌*◌, ◌/◌, ◌%◌, ◌≤◌}
use mathlib.Core.Path.{◌≡◌, ap, ◌∙◌}
use mathlib.Core.List.{List}
use native.Mathlib.Omega.{arith}
use lib.ListN.{length, get_or}
use Rattle.grid.specs.declared.Family.TheVariants.{TwoPin}
use Rattle.grid.specs.Channel.{family, tracks, rows_refused}
use Rattle.grid.proofs.Rows.{RowsFit}
use Rattle.grid.proofs.Crossing.{density_few}
use Rattle.sweep.specs.Drawing.{width}
use Rattle.sweep.proofs.Solved.{added_two}
use Rattle.widest.specs.Widest.{widest_top, widest_bottom}
use Rattle.widest.proofs.Rows as rows
use Rattle.widest.proofs.Gaps.{own_tracks, width_half}

-- NO CHANNEL OF TWO-PIN NETS GETS MORE: at most d/2 columns are added, and d is at most n
pub no_more_added : (top bottom : List ℕ) → RowsFit top bottom → family top bottom ≡ TwoPin
    → width (tracks top bottom) top bottom ≤ length top + length top / 2
no_more_added top bottom fit two = omega (arith, added_two top bottom fit two, density_few top bottom fit.same)

module _ (n : ℕ) where
  -- its columns
  pub widest_columns : length (widest_top n) ≡ n
  unfolding widest_top
  widest_columns = rows.columns (n % 2) (n / 2) ∙ omega arith

  -- the first is empty where they are odd
  pub widest_odd : n % 2 ≡ 1 → (get_or (widest_top n) 0 0 ≡ 0) × (get_or (widest_bottom n) 0 0 ≡ 0)
  unfolding widest_top widest_bottom
  widest_odd e = rows.empty_pins (n % 2) (n / 2) 0 (omega arith)

  module _ (short : n ≤ 256) where
    -- it is accepted
    pub widest_accepted : rows_refused (widest_top n) (widest_bottom n) 256 ≡ 0
    unfolding widest_top widest_bottom
    widest_accepted = rows.accepted (n % 2) (n / 2) (omega arith)

    -- of two-pin nets
    pub widest_pairs : family (widest_top n) (widest_bottom n) ≡ TwoPin
    unfolding widest_top widest_bottom
    widest_pairs = rows.pairs (n % 2) (n / 2) (omega arith)

    -- its tracks
    pub widest_tracks : tracks (widest_top n) (widest_bottom n) ≡ 2 * (n / 2)
    unfolding widest_top widest_bottom
    widest_tracks = own_tracks (n % 2) (n / 2) (omega arith)

    -- AND n/2 COLUMNS ARE ADDED
    pub widest_adds : width (tracks (widest_top n) (widest_bottom n)) (widest_top n) (widest_bottom n) ≡ n + n / 2
    unfolding widest_top widest_bottom
    widest_adds = width_half (n % 2) (n / 2) (omega arith) ∙ ap (λ (k : ℕ). k + n / 2) widest_columns
