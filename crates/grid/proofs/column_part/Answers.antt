-- `grid::column_part` meets its contract: each refused case gives the empty part; the offset is one in the largest drawing at most.
use Prim.Native.Nat.{◌+◌, ◌*◌, ◌-◌}
use mathlib.Core.Path.{refl, ◌∙◌}
use Rattle.grid.proofs.Views.{product_le, too_wide, too_tall, wrong_size_lem, no_column, past_last, found}
use native.Mathlib.Omega.{arith}
use Rattle.grid.proofs.column_part.Goals as goal

pub returns-then-w-gt511 : goal.returns-then-w-gt511
returns-then-w-gt511 c =
    let a = c.args in
    c.no_part.ensures ∙ too_wide a.len a.w a.t a.c c.if-w-gt511.true

pub returns-then-t-gt511 : goal.returns-then-t-gt511
returns-then-t-gt511 c =
    let a = c.args in
    c.no_part-then-t-gt511.ensures ∙ too_tall a.len a.w a.t a.c c.if-w-gt511.false c.if-t-gt511.true

pub overflow_mul-w : goal.overflow_mul-w
overflow_mul-w c =
    let x = product_le c.args.w (2 * c.args.t + 1) (omega arith) (omega arith) in
    omega arith

pub returns-then-len-w : goal.returns-then-len-w
returns-then-len-w c =
    let a = c.args in
    c.no_part-then-len-w.ensures ∙ wrong_size_lem a.len a.w a.t a.c c.if-w-gt511.false c.if-t-gt511.false c.if-len-w.true

pub returns-then-c-lt1 : goal.returns-then-c-lt1
returns-then-c-lt1 c =
    let a = c.args in
    c.no_part-then-c-lt1.ensures ∙ no_column a.len a.w a.t a.c c.if-w-gt511.false c.if-t-gt511.false c.if-len-w.false c.if-c-lt1.true

pub returns-then-w-c : goal.returns-then-w-c
returns-then-w-c c =
    let a = c.args in
    c.no_part-then-w-c.ensures ∙ past_last a.len a.w a.t a.c c.if-w-gt511.false c.if-t-gt511.false c.if-len-w.false c.if-c-lt1.false c.if-w-c.true

pub overflow_mul-result : goal.overflow_mul-result
overflow_mul-result c =
    let a = c.args in
    let x = product_le (a.c - 1) (2 * a.t + 1) (omega arith) (omega arith) in
    omega arith

pub returns : goal.returns
returns c =
    let a = c.args in
    found a.len a.w a.t a.c c.if-w-gt511.false c.if-t-gt511.false c.if-len-w.false c.if-c-lt1.false _ refl c.if-w-c.false
