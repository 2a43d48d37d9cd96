-- `draw` meets its contract: the columns asked for so far, or all that were left, are drawn after column c, up to column e.
use Rattle.stepwise.proofs.Onwards.{draws_none, draws_next, draws_all, draws_asked}
use native.Mathlib.Omega.{arith}
use Rattle.stepwise.proofs.columns.draw.Goals as goal

pub loop-init : goal.loop-init
loop-init c = λ tp bt n room S. draws_none S

pub returns-then-not-has_next : goal.returns-then-not-has_next
returns-then-not-has_next c tp bt n room S =
    let D = c.loop.invariant tp bt n room S in
    draws_all D c.loop-test.true c.if-not-has_next.true
    (c.has_next.ensures.value tp bt _ _ _ _ _ _ _ _ _ _ n D.stands)

pub overflow_add-e : goal.overflow_add-e
overflow_add-e c = omega (arith, c.has_next.ensures.c_bound c.if-not-has_next.false)

pub loop-preserved : goal.loop-preserved
loop-preserved c tp bt n room S =
    let D = c.loop.invariant tp bt n room S in
    draws_next D n room c.loop.auto.layout c.if-not-has_next.false
    (c.has_next.ensures.value tp bt _ _ _ _ _ _ _ _ _ _ n D.stands) (c.draw_next.ensures tp bt)

pub returns : goal.returns
returns c tp bt n room S = draws_asked (c.loop.invariant tp bt n room S) (omega arith)
