-- The needs of all channels are met. Assumes nothing.
use Prim.Native.Nat.{ℕ, min}
use mathlib.Core.Path.{◌≡◌, sym, ap, ◌∙◌}
use mathlib.Core.List.{List}
use native.Mathlib.Omega.{arith}
use lib.ListN.{length}
use Rattle.grid.specs.Refusals.{answer_of}
use Rattle.grid.specs.Channel.{tracks, rows_refused}
use Rattle.grid.specs.Answers.{refused_within}
use Rattle.grid.proofs.Answers.{accepted, accepted_new}
use Rattle.router.specs.Answers.{formula_length, slice_length}
use Rattle.router.specs.Answers as routing
use Rattle.router.proofs.Applied.{layout_fills, within_formula}
use Rattle.router.proofs.Answered.{need_entries, answer-number, none_refused, passes, too_short, written_drawn}
use Rattle.demands.specs.Table.{LetsThrough, of_rows, of_formula}
use Rattle.demands.specs.Needs.{StatesNeed, refused_before, AsBefore, NeedsMet}
use Rattle.demands.proofs.Table.{zero_just_if_let}
use Rattle.demands.proofs.Lines.{rows_numbered, slice_numbered}
use Rattle.demands.proofs.Refusals.{slice_lines}
use Rattle.demands.proofs.Tracks.{rows_accepted}

-- A CHANNEL whose rows are accepted
module _ (top bottom : List ℕ) (ok : rows_refused top bottom 256 ≡ 0) where
  -- the call states the slice length
  entries : routing.entries_of (routing.need top bottom) ≡ slice_length top bottom
  entries = need_entries top bottom ∙ accepted_new (rows_refused top bottom 256) _ 0 ok

  states : StatesNeed top bottom
  unfolding slice_length
  states =
      record {
        stated = entries;
        fills = layout_fills top bottom ok ∙ sym entries;
        at_most = omega (arith, entries, within_formula top bottom ok);
        draws = λ lent h. answer-number top bottom 256 lent ∙ passes top bottom 256 lent ok (omega (arith, entries, h));
        refuses = λ lent h. answer-number top bottom 256 lent ∙ too_short top bottom 256 lent ok (omega (arith, entries, h));
      }

-- A CALL that document 01's table lets through
module _ (top bottom : List ℕ) (most : ℕ) (old : List ℕ) (l : LetsThrough (of_rows top bottom (min most 256) (of_formula top bottom (length old)))) where
  -- it was accepted
  accepted_before : refused_before top bottom most (length old) ≡ 0
  accepted_before =
      (zero_just_if_let (of_rows top bottom (min most 256) (of_formula top bottom (length old)))
      (rows_numbered top bottom (min most 256) (of_formula top bottom (length old)) (slice_numbered _ (length old)))
      (refused_before top bottom most (length old)) (slice_lines top bottom most (formula_length (length top) (tracks top bottom)) (length old))).1 l

  -- and is
  accepted_now : routing.refused top bottom most (length old) ≡ 0
  accepted_now =
      let (r, s) = none_refused (refused_within top bottom most) (formula_length (length top) (tracks top bottom)) (length old) accepted_before in
      passes top bottom most (length old) r (omega (arith, within_formula top bottom (accepted top bottom most r), s))

  as_before_lem : AsBefore top bottom most old
  unfolding routing.answer
  as_before_lem =
      record {
        accepted = answer-number top bottom most (length old) ∙ accepted_now;
        answers = ap (λ (k : ℕ). answer_of k (routing.figures top bottom)) (accepted_now ∙ sym accepted_before);
        leaves = written_drawn top bottom most old accepted_now ∙ sym (accepted_new (refused_before top bottom most (length old)) _ old accepted_before);
      }

-- ALL OF THEM
pub needs_met : NeedsMet
needs_met = record { needs = λ top bottom l. states top bottom ((rows_accepted top bottom).1 l); before = as_before_lem }
