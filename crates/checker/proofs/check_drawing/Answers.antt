-- `checker::check_drawing` meets its contract: the answer at each of its ways out.
use mathlib.Core.Path.{ap}
use native.Mathlib.Omega.{arith}
use Rattle.std.specs.Prelude.{Err}
use Rattle.checker.proofs.Limits.{few_entries}
use Rattle.checker.proofs.Answers.{narrow, too_wide, too_high, wrong_size_lem, sized}
use Rattle.checker.proofs.check_drawing.Goals as goal

pub returns-then-w-top : goal.returns-then-w-top
returns-then-w-top c =
    let a = c.args in
    narrow a.top.now a.bottom.now a.w a.t a.layout.now _ c.if-w-top.true (ap Err c.from.ensures)

pub returns-then-w-gt511 : goal.returns-then-w-gt511
returns-then-w-gt511 c =
    let a = c.args in
    too_wide a.top.now a.bottom.now a.w a.t a.layout.now _ c.if-w-top.false c.if-w-gt511.true
    (ap Err c.from-then-w-gt511.ensures)

pub returns-then-t-gt511 : goal.returns-then-t-gt511
returns-then-t-gt511 c =
    let a = c.args in
    too_high a.top.now a.bottom.now a.w a.t a.layout.now _ c.if-w-top.false c.if-w-gt511.false
    c.if-t-gt511.true (ap Err c.from-then-t-gt511.ensures)

pub overflow_mul-w : goal.overflow_mul-w
overflow_mul-w c = omega (arith, few_entries _ _ c.if-w-gt511.false c.if-t-gt511.false)

pub returns-then-layout-w : goal.returns-then-layout-w
returns-then-layout-w c =
    let a = c.args in
    wrong_size_lem a.top.now a.bottom.now a.w a.t a.layout.now _ c.if-w-top.false
    c.if-w-gt511.false c.if-t-gt511.false c.if-layout-w.true (ap Err c.from-then-layout-w.ensures)

pub returns : goal.returns
returns c =
    let a = c.args in
    sized a.top.now a.bottom.now a.w a.t a.layout.now _ c.if-w-top.false
    c.if-w-gt511.false c.if-t-gt511.false c.if-layout-w.false c.check_entries.ensures
