-- The widest drawing is as document 02, Job 12, asks. Assumes nothing.
use Prim.Native.Nat.{ℕ, ◌+◌, ◌/◌, ◌≤◌}
use mathlib.Core.Path.{◌≡◌, sym, ap, ap₂, subst, ◌∙◌}
use mathlib.Core.Logic.{◌≢◌, ◌⊎◌, ◌↔◌, ⊎_elim}
use mathlib.Core.Bool.{Bool, true, false, not, ◌||◌}
use mathlib.Core.List.{List}
use native.Mathlib.Omega.{arith}
use lib.Dec.{eqb, ltb}
use lib.ListN.{length}
use Rattle.grid.specs.Channel.{pick, over, count, pins, rows_refused}
use Rattle.grid.specs.Refusals.{if_accepted, number_of}
use Rattle.grid.proofs.Answers.{check_number, accepted_new, accepted_old}
use Rattle.grid.proofs.Rows.{rows_fit}
use Rattle.router.specs.Answers.{width}
use Rattle.widest.specs.Widest.{widest_top, widest_bottom, refused, answer, top_after, bottom_after}
use Rattle.widest.proofs.Widest.{no_more_added, widest_columns, widest_odd, widest_accepted, widest_pairs, widest_tracks, widest_adds}
use Rattle.widest.proofs.Answers.{answer-number, answer-columns, refused_short}
use Rattle.demands.specs.Table.{First, end, of_lent_rows}
use Rattle.demands.specs.Widest.{AddsHalf, NoneAddsMore, WritesWidest, WidestDrawing}
use Rattle.demands.proofs.Table.{at_end}
use Rattle.demands.proofs.Lines.{lengths_lines}
use Rattle.demands.proofs.Beginnings.{two_pin_channel, channel_accepted, channel_two_pin}

-- THE CHANNEL WRITTEN
adds_half : (n : ℕ) → n ≤ 256 → AddsHalf n
adds_half n short = record {
  channel = two_pin_channel (widest_top n) (widest_bottom n) (widest_accepted n short) (widest_pairs n short);
  columns = (widest_columns n, sym (rows_fit (widest_top n) (widest_bottom n) (widest_accepted n short)).same ∙ widest_columns n);
  adds = widest_adds n short;
  on_tracks = widest_tracks n short;
  odd = widest_odd n;
}

-- NO OTHER GETS MORE
none_adds_more : (n : ℕ) → NoneAddsMore n
none_adds_more n top bottom p e =
    omega (arith, no_more_added top bottom (rows_fit top bottom (channel_accepted top bottom p)) (channel_two_pin top bottom p))

-- THE CALL
module _ (top bottom : List ℕ) where
  number : First (of_lent_rows (length top) (length bottom)) (number_of (answer (length top) (length bottom)))
  unfolding refused
  number =
      subst (λ (k : ℕ). First (of_lent_rows (length top) (length bottom)) k) (sym (answer-number (length top) (length bottom)))
      (lengths_lines (length top) (length bottom) 256 0 end (λ a b. at_end))

  -- 4 and 5 of lent rows are those of rows that are read, whatever number these would have after them
  same_refusal : (a b c d : Bool) (k : ℕ) → (k ≡ 4) ⊎ (k ≡ 5)
      → (pick {A = ℕ} a 4 (pick b 5 0) ≡ k) ↔ (pick {A = ℕ} a 4 (pick b 5 (pick c 6 (pick d 7 0))) ≡ k)
  same_refusal true b c d k o = (λ e. e, λ e. e)
  same_refusal false true c d k o = (λ e. e, λ e. e)
  same_refusal false false c d k o = (λ e. absurd (none 0 (omega arith) (omega arith) e), λ e. absurd (later c d e))
    where
      none : (x : ℕ) → x ≢ 4 → x ≢ 5 → x ≡ k → ⊥
      none x p q e = ⊎_elim (λ (i : k ≡ 4). p (e ∙ i)) (λ (i : k ≡ 5). q (e ∙ i)) o

      later : (c d : Bool) → pick {A = ℕ} c 6 (pick d 7 0) ≡ k → ⊥
      later true d = none 6 (omega arith) (omega arith)
      later false true = none 7 (omega arith) (omega arith)
      later false false = none 0 (omega arith) (omega arith)

  as_read_lem : (k : ℕ) → (k ≡ 4) ⊎ (k ≡ 5) → (refused (length top) (length bottom) ≡ k) ↔ (rows_refused top bottom 256 ≡ k)
  unfolding refused rows_refused
  as_read_lem = same_refusal (not (eqb (length top) (length bottom))) (ltb 256 (length top)) (over top || over bottom)
      (not (eqb (count (λ v. eqb (pins top bottom v) 1) 256) 0))

  writes_widest : WritesWidest top bottom
  unfolding top_after bottom_after
  writes_widest = record {
    number = number;
    as_read = λ k o. (
      λ e. check_number top bottom 256 ∙ (as_read_lem k o).0 (sym same ∙ e),
      λ e. same ∙ (as_read_lem k o).1 (sym (check_number top bottom 256) ∙ e),
    );
    zero = λ m. answer-columns (length top) (length bottom) ∙ old (length top / 2) 0 m;
    keeps = λ m. (old (widest_top (length top)) top m, old (widest_bottom (length top)) bottom m);
    writes = λ e. (above (sym same ∙ e), below (sym same ∙ e));
    added = λ e. let z = sym same ∙ e in
        ap₂ width (above z) (below z)
        ∙ widest_adds (length top) (refused_short (length top) (length bottom) z)
        ∙ ap (λ (k : ℕ). length top + k)
        (sym (answer-columns (length top) (length bottom) ∙ accepted_new (refused (length top) (length bottom)) (length top / 2) 0 z));
  }
    where
      same : number_of (answer (length top) (length bottom)) ≡ refused (length top) (length bottom)
      same = answer-number (length top) (length bottom)

      old : {A : Type 0} (a b : A) → number_of (answer (length top) (length bottom)) ≢ 0 → if_accepted (refused (length top) (length bottom)) a b ≡ b
      old a b m = accepted_old (refused (length top) (length bottom)) a b (λ e. m (same ∙ e))

      above : refused (length top) (length bottom) ≡ 0 → top_after top bottom ≡ widest_top (length top)
      above = accepted_new (refused (length top) (length bottom)) (widest_top (length top)) top

      below : refused (length top) (length bottom) ≡ 0 → bottom_after top bottom ≡ widest_bottom (length top)
      below = accepted_new (refused (length top) (length bottom)) (widest_bottom (length top)) bottom

-- THE REQUEST
pub widest_drawing : WidestDrawing
widest_drawing = record { half = adds_half; most = none_adds_more; writes = writes_widest }
