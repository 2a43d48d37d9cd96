-- `last_column` meets its contract: the last column is that of the columns that are left.
use mathlib.Core.Path.{◌≡◌, refl, ap, ◌∙◌}
use mathlib.Core.Bool.{true, false}
use native.Mathlib.Omega.{arith}
use Rattle.std.proofs.lemmas.Bool.Decides.{nat_tests}
use Rattle.grid.specs.Nets.{is_pinned, last_to, last_column}
use Rattle.board.proofs.Loops.{last_not_there, last_by, column_some, column_none}
use Rattle.board.proofs.rows.last_column.Goals as goal
use Rattle.board.proofs.rows.last_column.Goals.{then-top-c-via-then-top-c, then-top-c-via-else-top-c+then-bottom-c}

pub loop-c-init : goal.loop-c-init
unfolding last_column
loop-c-init c = refl

pub returns-then-top-c : goal.returns-then-top-c
unfolding is_pinned
returns-then-top-c c =
    let a = c.args in
    let p = last_by a.top.now a.bottom.now a.net c.loop-c.c true (omega arith)
    (elim c.then-top-c.branch [
      | then-top-c-via-then-top-c w ↦ grind (arith, nat_tests)
      | then-top-c-via-else-top-c+then-bottom-c w ↦ grind (arith, nat_tests)
    ]) in
    column_some _ _ (omega (arith, c.loop-c.invariant, p)) (λ z. let u : ⊥ = omega arith in u)

pub loop-c-preserved : goal.loop-c-preserved
unfolding is_pinned
loop-c-preserved c =
    let a = c.args in
    c.loop-c.invariant ∙ last_by a.top.now a.bottom.now a.net c.loop-c.c false (omega arith) (grind (arith, nat_tests))

pub returns : goal.returns
returns c =
    let a = c.args in
    let e : c.loop-c.c ≡ 0 = omega arith in
    column_none _ (c.loop-c.invariant ∙ ap (last_to a.top.now a.bottom.now a.net) e ∙ last_not_there a.top.now a.bottom.now a.net)
