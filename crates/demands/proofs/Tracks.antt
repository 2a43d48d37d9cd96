-- The third demand is met, whole. Assumes nothing.
use Prim.Native.Nat.{ℕ, ◌≤◌, min}
use mathlib.Core.Path.{◌≡◌, refl, sym, ◌∙◌, ap}
use mathlib.Core.Logic.{◌↔◌}
use mathlib.Core.List.{List}
use native.Mathlib.Omega.{arith}
use lib.ListN.{length}
use Rattle.grid.specs.Refusals.{number_of}
use Rattle.grid.specs.declared.Family.TheVariants.{TwoPin, ThreePin, ManyPin}
use Rattle.grid.specs.Channel.{tracks, rows_refused}
use Rattle.grid.specs.Grid.{Wiring}
use Rattle.grid.specs.Answers as counting
use Rattle.grid.proofs.Rows.{RowsFit, rows_fit, rows_more, two_density, three_density, many-density}
use Rattle.grid.proofs.Answers.{check_number, check_figures, facts-number, density_figure, rows_answer, accepted_new, first_past}
use Rattle.grid.proofs.Drawings.Bound.{density_le}
use Rattle.router.specs.declared.Figures.{Figures}
use Rattle.router.specs.Answers as routing
use Rattle.sweep.proofs.Solved.{added_two, added_three, added-many}
use Rattle.router.proofs.Applied.{solved, width-least}
use Rattle.router.proofs.Answered.{answer-number, answer_figures, written_refused, written_drawn}
use Rattle.record.specs.Record.{top_row, bottom_row, record_refused}
use Rattle.listing.specs.Listing as listing
use Rattle.listing.proofs.Records.{listed-number}
use Rattle.demands.specs.Table.{LetsThrough, end, of_record, of_rows, of_layout}
use Rattle.demands.specs.Tracks.{PairsOnly, ChannelDrawn, Routes, ListsRecord, ThirdDemand}
use Rattle.demands.proofs.Table.{zero_just_if_let}
use Rattle.demands.proofs.Lines.{rows_first, rows_numbered, slice_numbered, record_numbered, none_numbered}
use Rattle.demands.proofs.Families.{family_of, one_kind}
use Rattle.demands.proofs.Refusals.{route_first, list_first}

-- A CHANNEL whose rows are accepted
module _ (top bottom : List ℕ) (ok : rows_refused top bottom 256 ≡ 0) where
  fit : RowsFit top bottom
  fit = rows_fit top bottom ok

  -- with two-pin nets only no wiring has fewer tracks, and so no solution
  fewest_tracks : PairsOnly top bottom → (w t : ℕ) (D : List ℕ) → Wiring top bottom w t D → tracks top bottom ≤ t
  fewest_tracks p w t D s = omega (arith, two_density top bottom (family_of top bottom fit TwoPin p), density_le top bottom w t D fit.same s)

  drawn : ChannelDrawn top bottom
  drawn =
      record {
        solution = solved top bottom ok;
        pairs = λ p. two_density top bottom (family_of top bottom fit TwoPin p);
        fewest = λ p w t D s. fewest_tracks p w t D s.wiring;
        fewest_wiring = fewest_tracks;
        threes = λ k. three_density top bottom (family_of top bottom fit ThreePin k);
        more = λ k. many-density top bottom (family_of top bottom fit ManyPin k);
        one = one_kind top bottom fit;
        covers = width-least top bottom ok;
        added_pairs = λ p. added_two top bottom fit (family_of top bottom fit TwoPin p);
        added_threes = λ k. added_three top bottom fit (family_of top bottom fit ThreePin k);
        added_more = λ k. added-many top bottom fit (family_of top bottom fit ManyPin k);
        rows_density = λ most e.
            ap (λ s. s.density) (check_figures top bottom most ∙ accepted_new (counting.refused_within top bottom most) _ counting.no_size (sym (check_number top bottom most) ∙ e));
        facts_density = λ most e.
            ap (λ s. s.density)
            (ap counting.size_of (rows_answer top bottom most) ∙ check_figures top bottom most
            ∙ accepted_new (counting.refused_within top bottom most) _ counting.no_size (sym (facts-number top bottom most) ∙ e));
        counted_density = density_figure top bottom ∙ accepted_new (rows_refused top bottom 256) _ 0 ok;
      }

-- rows that the table lets through are accepted
pub rows_accepted : (top bottom : List ℕ) → (rows_refused top bottom 256 ≡ 0) ↔ LetsThrough (of_rows top bottom 256 end)
rows_accepted top bottom =
    zero_just_if_let (of_rows top bottom 256 end) (rows_numbered top bottom 256 end none_numbered) (rows_refused top bottom 256) (rows_first top bottom 256 (omega arith))

-- ROUTING
routes : (top bottom : List ℕ) (most : ℕ) (old : List ℕ) → Routes top bottom most old
unfolding routing.figures
routes top bottom most old =
    let lent = length old in
    let n = answer-number top bottom most lent in
    let figures : number_of (routing.answer top bottom most lent) ≡ 0 → routing.figures_of (routing.answer top bottom most lent) ≡ routing.figures top bottom =
    λ e. answer_figures top bottom most lent ∙ accepted_new (routing.refused top bottom most lent) _ routing.no_figures (sym n ∙ e) in
    record {
      exactly =
          zero_just_if_let (of_rows top bottom (min most 256) (of_layout top bottom lent))
          (rows_numbered top bottom (min most 256) (of_layout top bottom lent) (slice_numbered _ lent))
          (number_of (routing.answer top bottom most lent)) (route_first top bottom most lent);
      reports = λ e. reported (figures e);
      draws = λ e. written_drawn top bottom most old (sym n ∙ e);
      keeps = λ k. written_refused top bottom most old (λ z. k (n ∙ z));
    }
  where
    reported : {x : Figures} → x ≡ routing.figures top bottom
        → (x.density ≡ (routing.figures top bottom).density) × (x.tracks ≡ (routing.figures top bottom).tracks) × (x.width ≡ (routing.figures top bottom).width)
    reported e = (ap (λ (y : Figures). y.density) e, ap (λ (y : Figures). y.tracks) e, ap (λ (y : Figures). y.width) e)

-- THE LISTING
-- a listing whose number is 0 has rows that are accepted
rows_of : (s : List ℕ) → number_of (listing.listed s) ≡ 0 → rows_refused (top_row s) (bottom_row s) 256 ≡ 0
unfolding listing.refused
rows_of s e = rows_more (top_row s) (bottom_row s) 64 256 (omega arith) (first_past (record_refused s) _ (sym (listed-number s) ∙ e)).1

lists : (s : List ℕ) → ListsRecord s
unfolding listing.text_of
lists s =
    record {
      exactly =
          zero_just_if_let (of_record s (of_rows (top_row s) (bottom_row s) 64 end))
          (record_numbered s (of_rows (top_row s) (bottom_row s) 64 end) (rows_numbered (top_row s) (bottom_row s) 64 end none_numbered))
          (number_of (listing.listed s)) (list_first s);
      text = refl;
      reports = λ e. drawn (top_row s) (bottom_row s) (rows_of s e);
    }

-- THE THIRD DEMAND
pub third_demand : ThirdDemand
third_demand =
    record {
      channels = λ top bottom l. drawn top bottom ((rows_accepted top bottom).1 l);
      routes = routes;
      lists = lists;
    }
