-- `report::report` meets its contract: the rows' refusal, then that of the table, then the checker's, else the records from the tables of each net's figures.
use Prim.Native.Nat.{◌≤◌}
use mathlib.Core.Path.{refl, ap, ◌∙◌}
use native.Mathlib.Omega.{arith}
use lib.ListN.{length}
use lib.Seq.{length-take-le}
use Rattle.std.specs.Prelude.{Err}
use Rattle.grid.proofs.Numbers.{passed_on}
use Rattle.grid.proofs.Answers.{told_facts}
use Rattle.checker.specs.Check.{fault_at}
use Rattle.report.specs.Report.{fault_of}
use Rattle.report.proofs.Records.{gathered}
use Rattle.report.proofs.WireLengths.{countable}
use Rattle.report.proofs.Answers.{refuses_rows, refuses_table, refuses_drawing, drawing_passed, fills, fault_of-reported}
use Rattle.report.proofs.report.Goals as goal

pub returns-in_err-facts : goal.returns-in_err-facts
returns-in_err-facts c =
    let a = c.args in
    let e = c.in_err-facts.field-0.0 in
    let r = refuses_rows a.top.now a.bottom.now a.drawing a.layout.now a.table.now e c.in_err-facts.ensures.number in
    let p = passed_on _ (fault_at e 0) c.from_residual.ensures.1 ∙ r.0 in record {
      answer = p;
      fault = ap fault_of p ∙ fault_of-reported a.top.now a.bottom.now a.drawing a.layout.now _;
      table = r.1;
    }

pub returns-then-table-lt256 : goal.returns-then-table-lt256
returns-then-table-lt256 c =
    let a = c.args in
    let f = told_facts a.top.now a.bottom.now 256 _ _ c.in_ok-facts.ensures.answer refl in
    let r = refuses_table a.top.now a.bottom.now a.drawing a.layout.now a.table.now f.0 (omega (arith, c.if-table-lt256.true)) in
    let p = ap Err c.from.ensures ∙ r.0 in record {
      answer = p;
      fault = ap fault_of p ∙ fault_of-reported a.top.now a.bottom.now a.drawing a.layout.now _;
      table = r.1;
    }

pub check_drawing-requires : goal.check_drawing-requires
check_drawing-requires c =
    let a = c.args in
    (told_facts a.top.now a.bottom.now 256 _ _ c.in_ok-facts.ensures.answer refl).0

pub returns-in_err-check_drawing : goal.returns-in_err-check_drawing
returns-in_err-check_drawing c =
    let a = c.args in
    let f = told_facts a.top.now a.bottom.now 256 _ _ c.in_ok-facts.ensures.answer refl in
    let e = c.in_err-check_drawing.field-0.0 in
    let r = refuses_drawing a.top.now a.bottom.now a.drawing a.layout.now a.table.now f.0 (omega (arith, c.if-table-lt256.false)) e c.in_err-check_drawing.ensures in
    let p = passed_on _ e c.from_residual-in_err-check_drawing.ensures.1 ∙ r.0 in record {
      answer = p;
      fault = ap fault_of p ∙ fault_of-reported a.top.now a.bottom.now a.drawing a.layout.now _;
      table = r.1;
    }

pub lengths_in-lengths-requires : goal.lengths_in-lengths-requires
lengths_in-lengths-requires c =
    let a = c.args in
    let f = told_facts a.top.now a.bottom.now 256 _ _ c.in_ok-facts.ensures.answer refl in
    countable a.top.now a.bottom.now a.drawing a.layout.now f.0
    (drawing_passed a.top.now a.bottom.now a.drawing a.layout.now a.table.now f.0 (omega (arith, c.if-table-lt256.false)) c.in_ok-check_drawing.ensures)

pub put_records-requires : goal.put_records-requires
put_records-requires c = length-take-le 256 c.args.table.now (omega (arith, c.if-table-lt256.false))

pub returns : goal.returns
returns c =
    let a = c.args in
    let f = told_facts a.top.now a.bottom.now 256 _ _ c.in_ok-facts.ensures.answer refl in
    let l : 256 ≤ length a.table.now = omega (arith, c.if-table-lt256.false) in
    let r = fills a.top.now a.bottom.now a.drawing a.layout.now a.table.now f.0 l
    (drawing_passed a.top.now a.bottom.now a.drawing a.layout.now a.table.now f.0 l c.in_ok-check_drawing.ensures) c.put_records.new.records
    (c.put_records.ensures ∙ gathered a.top.now a.bottom.now a.drawing a.layout.now _ f.1 _ c.lengths_in-lengths.ensures) in record {
      answer = r.0;
      fault = ap fault_of r.0 ∙ fault_of-reported a.top.now a.bottom.now a.drawing a.layout.now _;
      table = r.1;
    }
