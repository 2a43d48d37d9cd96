-- `padded` meets its contract: behind the row stay zeros.
use Prim.Native.Nat.{ℕ}
use mathlib.Core.Path.{ap, ap₂, ◌∙◌}
use mathlib.Core.List.{List, ◌++◌}
use lib.ListN.{length, drop}
use Rattle.grid.specs.Places.{padded}
use Rattle.stepwise.proofs.Begin.{no_row-rest}
use Rattle.stepwise.proofs.rows.padded.Goals as goal

pub returns : goal.returns
unfolding padded
returns c =
    let row = c.args.row.now in
    ap₂ (λ (a b : List ℕ). a ++ b) c.copy_from_slice.ensures.after
    (ap (drop (length row)) c.no_row-r.ensures ∙ no_row-rest (length row) c.requires)
