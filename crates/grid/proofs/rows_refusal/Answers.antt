-- `grid::rows_refusal` meets its contract: of what `check_sizes` answers and the pins of each net.
use Prim.Native.Nat.{min}
use mathlib.Core.Path.{◌≡◌, sym, ap, ◌∙◌}
use mathlib.Core.Bool.{Bool, true, false}
use lib.Dec.{eqb}
use native.Mathlib.Omega.{arith}
use Rattle.grid.specs.Channel.{pick, pins as pins_of}
use Rattle.grid.specs.Refusals.{number_of}
use Rattle.grid.specs.Answers.{refused_within}
use Rattle.grid.proofs.Tables.{net_some}
use Rattle.grid.proofs.Numbers.{passed_on, number_nonzero}
use Rattle.grid.proofs.Answers.{rows_left, case_sizes, case_7}
use Rattle.grid.proofs.rows_refusal.Goals as goal
use Rattle.grid.proofs.rows_refusal.Goals.{After-tests-tests}

-- the number by whether a net has one pin
number : (c : After-tests-tests) (q : Bool) → c.tests-tests.result.single ≡ q
    → pick q 7 0 ≡ refused_within c.args.top.now c.args.bottom.now c.args.most
number c q e =
    let a = c.args in
    case_7 a.top.now a.bottom.now a.most (sym c.in_ok-check_sizes.ensures) q
    (sym (c.tests-tests.ensures.single ∙ net_some (λ k. eqb k 1) (pins_of a.top.now a.bottom.now) _ c.count_pins.ensures) ∙ e)

pub returns-in_err-check_sizes : goal.returns-in_err-check_sizes
returns-in_err-check_sizes c =
    let a = c.args in
    let e = c.in_err-check_sizes.field-0.0 in
    ap number_of (passed_on _ e c.from_residual.ensures.1)
    ∙ case_sizes a.top.now a.bottom.now a.most _ c.in_err-check_sizes.ensures (number_nonzero e)

pub count_pins-requires : goal.count_pins-requires
count_pins-requires c =
    let a = c.args in
    (rows_left a.top.now a.bottom.now (min a.most 256) (omega arith) (sym c.in_ok-check_sizes.ensures), c.zeros-pins.ensures)

pub returns-then-tests : goal.returns-then-tests
returns-then-tests c = number (goal.at.returns-then-tests c).After-tests-tests true c.if-tests.true

pub returns-else-tests : goal.returns-else-tests
returns-else-tests c = number (goal.at.returns-else-tests c).After-tests-tests false c.if-tests.false
