-- `checker::entries::terminal_fault` meets its contract: each way out is a case of `terminal_fault`.
use mathlib.Core.Path.{sym}
use mathlib.Core.Logic.{inl, inr}
use Rattle.checker.proofs.Terminals.{at_vacant, at_unwired, at_miswired}
use Rattle.checker.proofs.entries.terminal_fault.Goals as goal

pub returns-then-row-x : goal.returns-then-row-x
returns-then-row-x c = let a = c.args in sym (at_vacant a.row.now a.x a.edge (inl c.if-row-x.true))

pub returns-then-row-x-eq0 : goal.returns-then-row-x-eq0
returns-then-row-x-eq0 c = let a = c.args in sym (at_vacant a.row.now a.x a.edge (inr c.if-row-x-eq0.true))

pub returns-then-edge-eq0 : goal.returns-then-edge-eq0
returns-then-edge-eq0 c =
    let a = c.args in
    sym (at_unwired a.row.now a.x a.edge c.if-row-x.false c.if-row-x-eq0.false c.if-edge-eq0.true)

pub returns-else-edge-eq0 : goal.returns-else-edge-eq0
returns-else-edge-eq0 c =
    let a = c.args in
    sym (at_miswired a.row.now a.x a.edge c.if-row-x.false c.if-row-x-eq0.false c.if-edge-eq0.false)
