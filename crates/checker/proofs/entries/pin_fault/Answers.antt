-- `checker::entries::pin_fault` meets its contract: its two ways out are the cases of `column_fault`.
use mathlib.Core.Path.{sym, ◌∙◌}
use mathlib.Core.Bool.{true, false}
use Rattle.checker.proofs.Terminals.{pin_fault_by_lem}
use Rattle.checker.proofs.entries.pin_fault.Goals as goal

pub returns-then-i-edge : goal.returns-then-i-edge
returns-then-i-edge c =
    let a = c.args in
    c.terminal_fault.ensures
    ∙ sym (pin_fault_by_lem a.top.now a.bottom.now a.t a.layout.now a.p _ _ c.entry-edge.ensures c.entry-pin.ensures
    true c.if-i-edge.true)

pub returns : goal.returns
returns c =
    let a = c.args in
    c.terminal_fault-2.ensures
    ∙ sym (pin_fault_by_lem a.top.now a.bottom.now a.t a.layout.now a.p _ _ c.entry-edge.ensures c.entry-pin.ensures
    false c.if-i-edge.false)
