-- `count` meets its contract: outside the gaps 0, else the stored count.
use mathlib.Core.Path.{sym}
use mathlib.Core.Logic.{inl, inr}
use native.Mathlib.Omega.{arith}
use Rattle.board.specs.Board.{board_with}
use Rattle.board.proofs.Stored.{gap_outside, held_columns, stored_count}
use Rattle.board.proofs.count.Goals as goal

pub returns-then-gap-lt1 : goal.returns-then-gap-lt1
returns-then-gap-lt1 c = λ ch top bottom h. sym (gap_outside ch c.args.gap (inl (omega arith)))

pub returns-then-columns_held-gap : goal.returns-then-columns_held-gap
returns-then-columns_held-gap c = λ ch top bottom h.
    let a = c.args in
    let n = c.columns_held in
    let e = held_columns ch (board_with a.columns top bottom a.counts.now) h n.result n.ensures in
    sym (gap_outside ch a.gap (inr (omega arith)))

pub returns : goal.returns
returns c = λ ch top bottom h.
    let a = c.args in
    let n = c.columns_held in
    stored_count ch (board_with a.columns top bottom a.counts.now) h n.result n.ensures a.gap c.if-columns_held-gap.false
