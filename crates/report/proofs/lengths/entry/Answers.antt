-- `report::lengths::entry` meets its contract.
use mathlib.Core.Path.{sym}
use Prim.Native.Nat.{◌≤◌}
use lib.ListN.{length, get_or-eq_default}
use native.Mathlib.Omega.{arith}
use Rattle.report.proofs.lengths.entry.Goals as goal

pub returns-else-i-layout : goal.returns-else-i-layout
returns-else-i-layout c =
    let past : length c.args.layout.now ≤ c.args.i = omega (arith, c.if-i-layout.false) in
    sym (get_or-eq_default c.args.layout.now 0 past)
