-- The second demand: every drawing is the one that the sweep's rules give, and is a solution; the checker passes a drawing of up to 511 × 511, whoever made
-- it, precisely when it is a solution.
use Rattle.std.specs.Prelude.{ℕ, ◌+◌, ◌*◌, ◌≤◌, ◌≡◌, ◌↔◌, List, length, take}
use Rattle.grid.specs.Refusals.{number_of}
use Rattle.grid.specs.Channel.{tracks}
use Rattle.grid.specs.Grid.{Solution}
use Rattle.router.specs.Answers.{width, layout}
use Rattle.router.specs.Answers as routing
use Rattle.checker.specs.Check as checking
use Rattle.report.specs.declared.Drawing.TheVariants.{Given}
use Rattle.report.specs.Report as reporting
use Rattle.demands.specs.Table.{LetsThrough, end, of_rows}

pub record DrawsSolutions (top bottom : List ℕ) : Type 0 where
  -- what a routing call that is let through leaves in the first w × (2t + 1) entries of its slice is the sweep's layout
  pub in_front : (most : ℕ) (old : List ℕ) → number_of (routing.answer top bottom most (length old)) ≡ 0
      → take (width top bottom * (2 * tracks top bottom + 1)) (routing.written top bottom most old) ≡ layout top bottom
  -- and a solution
  pub solution : (most : ℕ) (old : List ℕ) → number_of (routing.answer top bottom most (length old)) ≡ 0
      → Solution top bottom (width top bottom) (tracks top bottom)
      (take (width top bottom * (2 * tracks top bottom + 1)) (routing.written top bottom most old))
  -- the checker's number is 0 precisely for the solutions within its limits, of rows that the table lets through
  pub checker : (w t : ℕ) (D : List ℕ) → (checking.number_of (checking.checked top bottom w t D) ≡ 0)
      ↔ (LetsThrough (of_rows top bottom 256 end) × (w ≤ 511) × (t ≤ 511) × Solution top bottom w t D)
  -- document 02, Job 2: "The report on a drawing is given only for one the checker passes"
  pub report : (w t : ℕ) (D : List ℕ) (lent : ℕ) → (reporting.number_of (reporting.reported top bottom (Given w t) D lent) ≡ 0)
      ↔ (LetsThrough (of_rows top bottom 256 end) × (256 ≤ lent) × (w ≤ 511) × (t ≤ 511) × Solution top bottom w t D)
