-- `report::put_records` meets its contract: the records of the nets passed stand in front of the old ones.
use mathlib.Core.Path.{refl}
use native.Mathlib.Omega.{arith}
use Rattle.report.specs.Report.{up_to}
use Rattle.report.specs.Working.{in_tables}
use Rattle.report.proofs.Records.{stored, stored_all}
use Rattle.report.proofs.put_records.Goals as goal

pub loop-k-init : goal.loop-k-init
unfolding up_to
loop-k-init c = refl

pub loop-k-preserved : goal.loop-k-preserved
loop-k-preserved c =
    let a = c.args in
    stored (in_tables a.facts.now.first a.facts.now.last a.facts.now.pins a.lengths.now) a.records.now _ c.loop-k.k c.record_of.result (omega arith) c.loop-k.invariant c.record_of.ensures

pub returns : goal.returns
returns c =
    let a = c.args in
    stored_all (in_tables a.facts.now.first a.facts.now.last a.facts.now.pins a.lengths.now) a.records.now _ c.loop-k.k c.requires (omega arith) c.loop-k.invariant
