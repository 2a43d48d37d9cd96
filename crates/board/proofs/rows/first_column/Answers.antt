-- `first_column` meets its contract: the columns passed have no pin of the net.
use mathlib.Core.Path.{◌≡◌, refl, sym, ap, ◌∙◌}
use native.Mathlib.Omega.{arith}
use lib.ListN.{length}
use Rattle.std.proofs.lemmas.Bool.Decides.{nat_tests}
use Rattle.grid.specs.Nets.{is_pinned, first_to, first_column}
use Rattle.board.proofs.Loops.{first_found, first_not_yet, column_some, column_none}
use Rattle.board.proofs.rows.first_column.Goals as goal
use Rattle.board.proofs.rows.first_column.Goals.{then-top-c-via-then-top-c, then-top-c-via-else-top-c+then-bottom-c}

pub loop-c-init : goal.loop-c-init
unfolding first_to
loop-c-init c = refl

pub returns-then-top-c : goal.returns-then-top-c
unfolding is_pinned
returns-then-top-c c =
    column_some _ _ (first_found c.args.top.now c.args.bottom.now c.args.net c.loop-c.c c.loop-c-test.true c.loop-c.invariant
    (elim c.then-top-c.branch [
      | then-top-c-via-then-top-c w ↦ grind (arith, nat_tests)
      | then-top-c-via-else-top-c+then-bottom-c w ↦ grind (arith, nat_tests)
    ])) (λ z. let u : ⊥ = omega arith in u)

pub loop-c-preserved : goal.loop-c-preserved
unfolding is_pinned
loop-c-preserved c = first_not_yet c.args.top.now c.args.bottom.now c.args.net c.loop-c.c c.loop-c.invariant (grind (arith, nat_tests))

pub returns : goal.returns
unfolding first_column
returns c =
    let e : c.loop-c.c ≡ length c.args.top.now = omega arith in
    column_none _ (sym (ap (first_to c.args.top.now c.args.bottom.now c.args.net) e) ∙ c.loop-c.invariant)
