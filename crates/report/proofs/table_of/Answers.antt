-- `report::table_of` meets its contract: `report` into a table of zeros, which has 256 records.
use Prim.Native.Nat.{ℕ}
use mathlib.Core.Path.{◌≡◌, ap, ◌∙◌}
use lib.ListN.{length}
use Rattle.report.specs.Report.{fault_with, refused, reported, table_after}
use Rattle.report.proofs.Records.{blank_long}
use Rattle.report.proofs.table_of.Goals as goal

pub returns : goal.returns
returns c =
    let a = c.args in
    let r = c.report-answer.ensures in
    let long : length c.blank-table.result ≡ 256 = ap length c.blank-table.ensures ∙ blank_long in
    record {
      answer = r.answer ∙ ap (reported a.top.now a.bottom.now a.drawing a.layout.now) long;
      fault = r.fault ∙ ap (λ (k : ℕ). fault_with a.top.now a.bottom.now a.drawing a.layout.now (refused a.top.now a.bottom.now a.drawing a.layout.now k)) long;
      table = r.table ∙ ap (table_after a.top.now a.bottom.now a.drawing a.layout.now) c.blank-table.ensures;
    }
