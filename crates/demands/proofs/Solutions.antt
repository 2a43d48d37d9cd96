-- The second demand is met. Assumes nothing.
use Prim.Native.Nat.{ℕ, ◌+◌, ◌*◌, ◌≤◌}
use mathlib.Core.Path.{◌≡◌, sym, ap, ◌∙◌}
use mathlib.Core.Logic.{◌↔◌}
use mathlib.Core.List.{List}
use lib.ListN.{length, drop}
use lib.Seq.{take_at}
use Rattle.grid.specs.Channel.{tracks}
use Rattle.grid.specs.Grid.{Solution}
use Rattle.grid.proofs.Answers.{accepted}
use Rattle.router.specs.Answers.{width, layout}
use Rattle.router.proofs.Applied.{layout-length}
use Rattle.router.proofs.Answered.{answer-number, let_through, written_drawn, written_solution}
use Rattle.checker.specs.declared.Told.{Told}
use Rattle.checker.specs.Check as checking
use Rattle.checker.proofs.Answers.{check_parts}
use Rattle.checker.proofs.Passes.{passes_solutions, passed_number}
use Rattle.report.specs.declared.Drawing.TheVariants.{Given}
use Rattle.report.specs.Report as reporting
use Rattle.report.proofs.Answers as report
use Rattle.demands.specs.Table.{LetsThrough, end, of_rows}
use Rattle.demands.specs.Solutions.{DrawsSolutions}
use Rattle.demands.proofs.Tracks.{rows_accepted}

module _ (top bottom : List ℕ) (w t : ℕ) (D : List ℕ) where
  -- the checker passes precisely the solutions
  checker_passes : (checking.number_of (checking.checked top bottom w t D) ≡ 0) ↔ (LetsThrough (of_rows top bottom 256 end) × (w ≤ 511) × (t ≤ 511) × Solution top bottom w t D)
  checker_passes = (
    (λ e. let (r, a, b, s) = (passes_solutions top bottom w t D).0 ((passed_number top bottom w t D).0 e) in ((rows_accepted top bottom).0 r, a, b, s)),
    (λ p. let (r, a, b, s) = p in (passed_number top bottom w t D).1 ((passes_solutions top bottom w t D).1 ((rows_accepted top bottom).1 r, a, b, s))),
  )

  -- into a table that is long enough the report on a drawing answers the checker's number
  same_number : (lent : ℕ) → 256 ≤ lent → reporting.number_of (reporting.reported top bottom (Given w t) D lent) ≡ checking.number_of (checking.checked top bottom w t D)
  same_number lent h = ap (λ (f : Told). f.number) (report.own_fault top bottom w t D lent h) ∙ sym (check_parts top bottom w t D).0

pub draws_solutions : (top bottom : List ℕ) → DrawsSolutions top bottom
draws_solutions top bottom =
    record {
      in_front = λ most old e.
          let z = sym (answer-number top bottom most (length old)) ∙ e in
          rw (written_drawn top bottom most old z)
          (take_at
          (layout top bottom)
          (drop (length (layout top bottom)) old)
          (width top bottom * (2 * tracks top bottom + 1))
          (layout-length top bottom (accepted top bottom most (let_through top bottom most (length old) z).0)));
      solution = λ most old e. written_solution top bottom most old (sym (answer-number top bottom most (length old)) ∙ e);
      checker = checker_passes top bottom;
      report = λ w t D lent. (
        (λ e.
            let (z, l, p) = report.accepted_report top bottom (Given w t) D lent (sym (report.number top bottom (Given w t) D lent) ∙ e) in
            let (r, a, b, s) = (checker_passes top bottom w t D).0 (sym (same_number top bottom w t D lent l) ∙ e) in
            (r, l, a, b, s)),
        (λ p. let (r, l, a, b, s) = p in same_number top bottom w t D lent l ∙ (checker_passes top bottom w t D).1 (r, a, b, s)),
      );
    }
