-- `report::lengths_in` meets its contract: zeros without a drawing, else the counts of its entries.
use Prim.Native.Nat.{ℕ}
use mathlib.Core.Path.{sym, subst}
use mathlib.Core.List.{List}
use Rattle.grid.specs.Working.{ByNet}
use Rattle.report.specs.declared.Drawing.{Drawing}
use Rattle.report.specs.Report.{length_in}
use Rattle.report.specs.Working.{Countable}
use Rattle.report.proofs.WireLengths.{no_lengths, counted_lengths}
use Rattle.report.proofs.lengths_in.Goals as goal

pub counted-requires : goal.counted-requires
counted-requires c =
    let h = subst (λ (d : Drawing). Countable d c.args.layout.now) c.in-Given.is c.requires in
    record {
      layout_value = h.2;
      layout_len_bound = h.1;
    }

pub returns-in-Absent : goal.returns-in-Absent
returns-in-Absent c =
    let a = c.args in
    subst (λ (d : Drawing). ByNet (length_in d a.layout.now) c.none.result) (sym c.in-Absent.is)
    (no_lengths a.layout.now c.none.result c.none.ensures)

pub returns-in-Given : goal.returns-in-Given
returns-in-Given c =
    let D : List ℕ = c.args.layout.now in
    let g = c.in-Given in
    let h = subst (λ (d : Drawing). Countable d D) g.is c.requires in
    subst (λ (d : Drawing). ByNet (length_in d D) c.counted.result) (sym g.is)
    (counted_lengths g.field-0 g.field-1 D c.counted.result h.0 c.counted.ensures)
