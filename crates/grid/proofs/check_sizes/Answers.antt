-- `grid::check_sizes` meets its contract: each of its cases by its law.
use Prim.Native.Nat.{min}
use mathlib.Core.Path.{◌≡◌, sym, ap₂, ◌∙◌}
use mathlib.Core.Bool.{Bool, true, false, ◌||◌}
use Rattle.grid.specs.Channel.{pick}
use Rattle.grid.specs.Working.{sizes_refused}
use Rattle.grid.proofs.Answers.{case_4, case_5, case_6}
use Rattle.std.proofs.Common.{rules}
use native.Mathlib.Omega.{arith}
use Rattle.grid.proofs.check_sizes.Goals as goal
use Rattle.grid.proofs.check_sizes.Goals.{After-has_over-2}

-- the number by whether a row has a number over 256
number : (c : After-has_over-2) (q : Bool) → (c.has_over.result || c.has_over-2.result) ≡ q
    → pick q 6 0 ≡ sizes_refused c.args.top.now c.args.bottom.now (min c.args.most 256)
number c q e =
    let a = c.args in
    let m : c.min.result ≡ min a.most 256 = search rules in
    case_6 a.top.now a.bottom.now (min a.most 256) c.if-top-bottom.false (omega arith) q
    (ap₂ ◌||◌ (sym c.has_over.ensures) (sym c.has_over-2.ensures) ∙ e)

pub returns-then-top-bottom : goal.returns-then-top-bottom
returns-then-top-bottom c =
    let a = c.args in
    case_4 a.top.now a.bottom.now (min a.most 256) c.if-top-bottom.true

pub returns-then-min-top : goal.returns-then-min-top
returns-then-min-top c =
    let a = c.args in
    let m : c.min.result ≡ min a.most 256 = search rules in
    case_5 a.top.now a.bottom.now (min a.most 256) c.if-top-bottom.false (omega arith)

pub returns-then-has_over : goal.returns-then-has_over
returns-then-has_over c = number (goal.at.returns-then-has_over c).After-has_over-2 true c.if-has_over.true

pub returns : goal.returns
returns c = number (goal.at.returns c).After-has_over-2 false c.if-has_over.false
