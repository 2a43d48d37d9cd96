-- `draw_next` meets its contract: the arrays hold gap c, so the sweep leaves them at the next. The tests pass for no state that stands for a channel.
use Rattle.router.proofs.Laws.Standing
use Rattle.std.proofs.Common.{rules}
use Rattle.router.proofs.Laws.Steps.{at_next}
use Rattle.grid.proofs.Views.{product_le}
use Prim.Native.Nat.{◌+◌, ◌*◌}
use mathlib.Core.Path.{refl}
use native.Mathlib.Omega.{arith}
use Rattle.router.proofs.steps.draw_next.Goals as goal

pub returns-then-c-t : goal.returns-then-c-t
returns-then-c-t c tp bt S h b f =
    absurd (Standing.one_over 510 256 c.args.c c.args.t c.if-c-t.true (omega (arith, h, Standing.standing_width S)) S.few)

pub overflow_mul-each : goal.overflow_mul-each
overflow_mul-each c =
    let k = Standing.neither_over 510 256 c.args.c c.args.t c.if-c-t.false in
    omega (arith, k.0, k.1)

pub overflow_add-each : goal.overflow_add-each
overflow_add-each c =
    let k = Standing.neither_over 510 256 c.args.c c.args.t c.if-c-t.false in
    omega (arith, k.0, k.1)

pub overflow_add-c : goal.overflow_add-c
overflow_add-c c =
    let k = Standing.neither_over 510 256 c.args.c c.args.t c.if-c-t.false in
    omega (arith, k.0)

pub overflow_mul-c : goal.overflow_mul-c
overflow_mul-c c =
    let k = Standing.neither_over 510 256 c.args.c c.args.t c.if-c-t.false in
    omega (arith, product_le (c.args.c + 1) (2 * c.args.t + 1) (omega (arith, k.0)) (omega (arith, k.1)))

pub returns-then-layout-c : goal.returns-then-layout-c
returns-then-layout-c c tp bt S h b f =
    let each = 2 * c.args.t + 1 in
    absurd (omega (arith, c.if-layout-c.true, f, at_next (c.args.c * each) c.args.c each refl))

pub overflow_add-c-2 : goal.overflow_add-c-2
overflow_add-c-2 c =
    let k = Standing.neither_over 510 256 c.args.c c.args.t c.if-c-t.false in
    omega (arith, k.0)

pub columns-requires : goal.columns-requires
columns-requires c =
    let k = Standing.neither_over 510 256 c.args.c c.args.t c.if-c-t.false in
    (omega arith, omega (arith, k.0), omega (arith, k.1), λ d. c.if-layout-c.false)

pub returns : goal.returns
returns c tp bt S h b f =
    let g = c.columns.ensures.swept tp bt (Standing.standing_tops S) (Standing.standing_bottoms S) (Standing.standing_ready S)
    (Standing.standing_fits S _) (Standing.standing_at_gap S _ _ _) in (
      Standing.standing_as (Standing.standing_on S h g.0) (search rules) (search rules) (search rules) (search rules) (search rules) (search rules),
      g.1,
    )
