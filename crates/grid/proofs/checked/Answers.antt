-- `grid::checked` meets its contract: the cases of the row check, each by its law.
use Prim.Native.Nat.{ℕ, min}
use mathlib.Core.Path.{◌≡◌, sym, ap, ap₂, ◌∙◌}
use mathlib.Core.Bool.{Bool, true, false}
use lib.Dec.{eqb, ltb}
use lib.ListN.{length}
use native.Mathlib.Omega.{arith}
use Rattle.std.specs.Prelude.{Ok}
use Rattle.grid.specs.declared.Family.{Family}
use Rattle.grid.specs.declared.refusals.Refusal.TheVariants.{SinglePin}
use Rattle.grid.specs.Channel.{pick, pins as pins_of}
use Rattle.grid.specs.Answers.{refused_within}
use Rattle.grid.specs.Working.{Rows}
use Rattle.grid.proofs.Tables.{table-length, table-some}
use Rattle.grid.proofs.Numbers.{passed_on, number_nonzero}
use Rattle.grid.proofs.Answers.{rows_left, case_sizes, case_7, refused_with, fit_by}
use Rattle.grid.proofs.checked.Goals as goal
use Rattle.grid.proofs.checked.Goals.{After-tests-tests}

-- the number by whether a net has one pin
number : (c : After-tests-tests) (q : Bool) → c.tests-tests.result.single ≡ q
    → pick q 7 0 ≡ refused_within c.args.top.now c.args.bottom.now c.args.most
number c q e =
    let a = c.args in
    case_7 a.top.now a.bottom.now a.most (sym c.in_ok-check_sizes.ensures) q
    (sym (c.tests-tests.ensures.single ∙ table-some (λ k. eqb k 1) (pins_of a.top.now a.bottom.now) _ c.fill.ensures.pinned) ∙ e)

pub returns-in_err-check_sizes : goal.returns-in_err-check_sizes
returns-in_err-check_sizes c =
    let a = c.args in
    let e = c.in_err-check_sizes.field-0.0 in
    let n = case_sizes a.top.now a.bottom.now a.most _ c.in_err-check_sizes.ensures (number_nonzero e) in record {
      answer = passed_on _ e c.from_residual.ensures.1 ∙ refused_with a.top.now a.bottom.now a.most e n;
      tables = λ z. absurd (number_nonzero e (n ∙ z));
    }

pub fill-requires : goal.fill-requires
fill-requires c =
    let a = c.args in
    let z = c.requires in
    (rows_left a.top.now a.bottom.now (min a.most 256) (omega arith) (sym c.in_ok-check_sizes.ensures), z.0, z.1, z.2)

pub tests-tests-requires : goal.tests-tests-requires
tests-tests-requires c =
    let a = c.args in
    ap length c.fill.ensures.pinned ∙ table-length (pins_of a.top.now a.bottom.now)

pub returns-then-tests : goal.returns-then-tests
returns-then-tests c =
    let a = c.args in
    let n = number (goal.at.returns-then-tests c).After-tests-tests true c.if-tests.true in record {
      answer = refused_with a.top.now a.bottom.now a.most SinglePin n;
      tables = λ z. absurd (number_nonzero SinglePin (n ∙ z));
    }

-- the rows that are left
rows : (c : goal.After-tests-tests) → Rows c.args.top.now c.args.bottom.now
rows c =
    let a = c.args in
    rows_left a.top.now a.bottom.now (min a.most 256) (omega arith) (sym c.in_ok-check_sizes.ensures)

pub largest_count-requires : goal.largest_count-requires
largest_count-requires c =
    let filled = c.fill.ensures in
    (rows (goal.at.largest_count-requires c).After-tests-tests, filled.firsts, filled.lasts)

pub family_of-requires : goal.family_of-requires
family_of-requires c =
    let a = c.args in
    let filled = c.fill.ensures in
    let tests = c.tests-tests.ensures in record {
      rows = (rows (goal.at.family_of-requires c).After-tests-tests, filled.firsts, filled.pinned);
      three = tests.three ∙ table-some (ltb 2) (pins_of a.top.now a.bottom.now) _ filled.pinned;
      four = tests.four ∙ table-some (ltb 3) (pins_of a.top.now a.bottom.now) _ filled.pinned;
    }

pub returns : goal.returns
returns c =
    let a = c.args in record {
      answer = ap₂ (λ (d : ℕ) (f : Family). Ok (record { columns = length a.top.now; density = d; family = f })) c.largest_count.ensures c.family_of.ensures
          ∙ fit_by a.top.now a.bottom.now a.most (sym (number (goal.at.returns c).After-tests-tests false c.if-tests.false));
      tables = λ e. c.fill.ensures;
    }
