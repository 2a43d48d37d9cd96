-- `checker::entries::find_strange` meets its contract: by the table of pins the unknown entries are the strange ones.
use mathlib.Core.Path.{refl, ◌∙◌}
use native.Mathlib.Omega.{arith}
use Rattle.checker.proofs.Least.{first_none, position_first}
use Rattle.checker.proofs.entries.Nets.{first-strange}
use Rattle.checker.proofs.entries.find_strange.Goals as goal

pub returns-then-all_known : goal.returns-then-all_known
returns-then-all_known c =
    let a = c.args in
    first_none _ _ _ (record { none = c.all_known.ensures c.if-all_known.true }) (omega arith)
    ∙ first-strange a.top.now a.bottom.now a.pins.now a.layout.now c.requires

pub returns : goal.returns
returns c =
    let a = c.args in
    c.find_unknown.ensures ∙ position_first _ _ 0 (λ k l. refl) ∙ first-strange a.top.now a.bottom.now a.pins.now a.layout.now c.requires
