-- `report_numbers` meets its contract: the records that the report writes, as numbers.
use Prim.Native.Nat.{◌/◌, min}
use mathlib.Core.Path.{◌≡◌, ◌∙◌, ap}
use native.Mathlib.Omega.{arith}
use mathlib.Core.List.{List, ◌++◌, append-nil}
use lib.ListN.{length, length-append, length-drop}
use Rattle.std.proofs.lemmas.List.{drop_all}
use Rattle.report.specs.declared.NetRecord.{NetRecord}
use Rattle.report.proofs.Records.{records_long}
use lib.Seq.{length-take-le}
use Rattle.std.proofs.Common.{rules}
use Rattle.grid.proofs.Numbers.{passed_on}
use Rattle.export.proofs.Figures.{same_answer, filled, put_collected, put_none}
use Rattle.export.proofs.report_numbers.Goals as goal

pub returns-in_err-report : goal.returns-in_err-report
returns-in_err-report c =
    let a = c.args in
    let e = c.in_err-report.field-0.0 in
    let n : c.min-size.result ≡ min (length a.figures.now / 4) 256 = search rules in
    let p = put_none a.top.now a.bottom.now a.drawing a.layout.now a.figures.now _ e c.in_err-report.ensures.answer (length-take-le _ _ (omega (arith, n)) ∙ n) in record {
      answer = passed_on _ e c.from_residual.ensures.1 ∙ p.0;
      figures = p.1;
    }

pub put_nets-requires : goal.put_nets-requires
put_nets-requires c =
    let a = c.args in
    let n : c.min-size.result ≡ min (length a.figures.now / 4) 256 = search rules in
    let p = filled a.top.now a.bottom.now a.drawing a.layout.now a.figures.now _ c.in_ok-report.ensures.answer (length-take-le _ _ (omega (arith, n)) ∙ n) in
    let h = ap length (c.in_ok-report.ensures.table ∙ p.1) ∙ records_long a.top.now a.bottom.now a.drawing a.layout.now in
    simp (length-append, length-drop) (omega (arith, h, n, p.0))

pub returns : goal.returns
returns c =
    let a = c.args in
    let n : c.min-size.result ≡ min (length a.figures.now / 4) 256 = search rules in
    let o = c.in_ok-report.ensures in
    let p = filled a.top.now a.bottom.now a.drawing a.layout.now a.figures.now _ o.answer (length-take-le _ _ (omega (arith, n)) ∙ n) in
    let s : c.min-size.result ≡ 256 = omega (arith, n, p.0) in
    let r = ap (λ (xs : List NetRecord). c.report.new.table ++ xs) (drop_all c.min-size.result _ (omega (arith, s))) ∙ append-nil c.report.new.table ∙ o.table ∙ p.1 in record {
      answer = o.answer ∙ same_answer a.top.now a.bottom.now a.drawing a.layout.now a.figures.now _ (length-take-le _ _ (omega (arith, n)) ∙ n);
      figures = c.put_nets.ensures
          ∙ put_collected a.top.now a.bottom.now a.drawing a.layout.now a.figures.now _ o.answer (length-take-le _ _ (omega (arith, n)) ∙ n) _ r;
    }
