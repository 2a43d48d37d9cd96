-- From the row check's answer and the facts of each net to what the sweep goes by, and from what it leaves to the calls' promises.
use Prim.Native.Nat.{ℕ, zero, suc, ◌+◌, ◌*◌, ◌/◌, ◌≤◌, ◌<◌}
use mathlib.Core.Path.{◌≡◌, refl, sym, ap, subst, ◌∙◌}
use mathlib.Core.Bool.{Bool, true, false, not, ◌&&◌}
use mathlib.Core.List.{List, ◌++◌}
use Rattle.grid.proofs.Views.{product_le}
use native.Mathlib.Nat.{mul-le-mul_right}
use native.Mathlib.Omega.{arith}
use lib.Dec.{eqb, ltb, leb}
use lib.ListN.{length, drop, get_or}
use Rattle.grid.specs.declared.Family.{Family}
use Rattle.grid.specs.Channel.{times, pins, left, density, family, tracks_of, tracks, rows_refused}
use Rattle.grid.specs.Nets.{first_column, last_column, table}
use Rattle.std.specs.Prelude.{Result, Ok, Err}
use Rattle.grid.specs.declared.refusals.Refusal.{Refusal}
use Rattle.grid.specs.declared.refusals.Refusal.TheVariants.{LayoutTooShort}
use Rattle.grid.specs.Refusals.{if_accepted, number, number_of}
use Rattle.grid.proofs.Numbers.{number_nonzero, refused_is, accepted_is}
use Rattle.grid.specs.Answers.{refused_within}
use Rattle.grid.proofs.Tests.{ne_eqb, le-ltb, ltb-true, ltb-false}
use Rattle.grid.proofs.Answers.{accepted, accepted_new}
use Rattle.grid.proofs.Rows.{RowsFit, rows_fit, rows_short}
use Rattle.grid.proofs.Counting.{small_in}
use Rattle.grid.proofs.Nets.{begun, goes_on}
use Rattle.grid.proofs.OpenNets.{tracks_small}
use Rattle.grid.proofs.Tables.{table_at, table_none}
use Rattle.router.specs.declared.Figures.{Figures}
use Rattle.sweep.specs.Drawing
use Rattle.router.specs.Answers.{figures_of, no_figures, entries_of}
use Rattle.router.specs.Answers.{width, layout, formula_length, slice_length, need, refused, figures, answer, written}
use Rattle.router.specs.Promise.{Solves}
use Rattle.router.specs.Working.{Spans, Ready, EachFits}
use Rattle.sweep.proofs.Solved.{tracks_enough}
use Rattle.router.proofs.Applied.{column_fits, layout-length, width_half}
use Rattle.router.proofs.Answered.{need_promise, answer_promise, passes, refuses, too_short, written_refused, written_drawn, written_solution}

-- ---- what the sweep goes by

module _ (top bottom : List ℕ) (ok : rows_refused top bottom 256 ≡ 0) where
  -- what accepted rows are
  fit : RowsFit top bottom
  fit = rows_fit top bottom ok

  -- the tables of first and last columns
  spans : Spans top bottom (table (first_column top bottom)) (table (last_column top bottom))
  spans = record { before = front; after = behind; ends = ends }
    where
      ends : (v : ℕ) → v ≤ 256 → get_or (table (last_column top bottom)) v 0 ≡ Drawing.end_of top bottom v
      ends zero b = unfold Drawing.end_of in table_none (last_column top bottom)
      ends (suc v) b = unfold Drawing.end_of in (table_at (last_column top bottom) (suc v) (omega arith) b ∙ sym (rw (ne_eqb (suc v) 0 (λ e. omega arith)) refl))

      front : (c v : ℕ) → 0 < v → v ≤ 256
          → ltb 0 (left top bottom c v) ≡ (not (eqb (get_or (table (first_column top bottom)) v 0) 0) && leb (get_or (table (first_column top bottom)) v 0) c)
      front c v p b = rw (table_at (first_column top bottom) v p b) (begun top bottom v (omega arith) fit.same c)

      behind : (c v : ℕ) → v ≤ 256 → Drawing.later top bottom c v ≡ ltb c (get_or (table (last_column top bottom)) v 0)
      behind c zero b = unfold Drawing.later in rw (table_none (last_column top bottom)) (sym (le-ltb c 0 (omega arith)))
      behind c (suc v) b =
          unfold Drawing.later in
          rw (ne_eqb (suc v) 0 (λ e. omega arith), table_at (last_column top bottom) (suc v) (omega arith) b) (goes_on top bottom (suc v) (λ e. omega arith) fit.same c)

  -- what the sweep goes by, from the figures that the row check found
  pub ready : {t : ℕ} {p : Family} {first last : List ℕ} → t ≤ 511 → p ≡ family top bottom → first ≡ table (first_column top bottom) → last ≡ table (last_column top bottom)
      → Ready top bottom first last t p
  ready {t} {p} {first} {last} few ep ef el =
      record {
        is = sym ep;
        fits = few;
        rows = sym fit.same;
        most = rows_short top bottom 256 ok;
        tops = small_in top (λ v h. omega (arith, none v h));
        bottoms = small_in bottom (λ v h. omega (arith, none v h));
        spans = rw (ef, el) spans;
      }
    where
      none : (v : ℕ) → 256 < v → times v top + times v bottom ≡ 0
      none v h = unfold pins in fit.small v h

  -- on the channel's tracks each column's action fits
  each_fits : {t : ℕ} → t ≡ tracks top bottom → EachFits t top bottom
  each_fits {t} e = rw e (column_fits (tracks top bottom) top bottom fit (tracks_enough top bottom))

  -- and half of them at most are added as columns
  added_half : {t : ℕ} → t ≡ tracks top bottom → Drawing.width t top bottom ≤ length top + t / 2
  added_half {t} e = rw e (width_half top bottom ok)

  -- what the sweep, dry or drawn, asks for
  pub sweep_ready : {t : ℕ} {p : Family} {first last : List ℕ} → t ≡ tracks top bottom → p ≡ family top bottom → first ≡ table (first_column top bottom) → last ≡ table (last_column top bottom)
      → Ready top bottom first last t p × (EachFits t top bottom × (Drawing.width t top bottom ≤ length top + t / 2))
  sweep_ready et ep ef el = (ready (omega (arith, tracks_small top bottom)) ep ef el, (each_fits et, added_half et))

-- ---- the calls' promises

module _ (top bottom : List ℕ) where
  -- the tracks by the row check's figures
  pub tracks_by : (d t : ℕ) (p : Family) → d ≡ density top bottom → p ≡ family top bottom → t ≡ tracks_of p d → t ≡ tracks top bottom
  unfolding tracks
  tracks_by d t p ed ep et = cc

  -- the slice length by the tracks
  length_by : (t m : ℕ) → t ≡ tracks top bottom → m ≡ Drawing.width t top bottom * (2 * t + 1) → m ≡ slice_length top bottom
  unfolding slice_length
  length_by t m et em = cc

  -- the test of a slice: it is too short, or long enough
  pub short_by : (t lent : ℕ) (b : Bool) → t ≡ tracks top bottom → b ≡ ltb lent (Drawing.width t top bottom * (2 * t + 1)) → b ≡ true → lent < slice_length top bottom
  short_by t lent b et e h = subst (λ (m : ℕ). lent < m) (length_by t _ et refl) (ltb-true lent _ (sym e ∙ h))

  pub long_by : (t lent : ℕ) (b : Bool) → b ≡ ltb lent (Drawing.width t top bottom * (2 * t + 1)) → b ≡ false → Drawing.width t top bottom * (2 * t + 1) ≤ lent
  long_by t lent b e h = ltb-false lent _ (sym e ∙ h)

  -- the length call refuses what the rows refuse
  pub need_refused : (r : Refusal) → number r ≡ rows_refused top bottom 256 → Err r ≡ need top bottom
  unfolding need
  need_refused r e = refused_is (rows_refused top bottom 256) (slice_length top bottom) r e

  -- and else states the slice length
  pub need_stated : (t m : ℕ) → rows_refused top bottom 256 ≡ 0 → t ≡ tracks top bottom → m ≡ Drawing.width t top bottom * (2 * t + 1) → Ok m ≡ need top bottom
  unfolding need
  need_stated t m e et em = accepted_is (rows_refused top bottom 256) (slice_length top bottom) m e (length_by t m et em)

  -- all that it promises, by its answer
  pub need_promised : (r : Result ℕ Refusal) → r ≡ need top bottom
      → (r ≡ need top bottom) × ((number_of r ≡ rows_refused top bottom 256) × (entries_of r ≡ if_accepted (number_of r) (slice_length top bottom) 0))
  need_promised r e = (e, need_promise top bottom r e)

-- with a limit of columns
module _ (top bottom : List ℕ) (most : ℕ) where
  -- the answer with a refusal
  answer_refused : (lent : ℕ) (r : Refusal) → number r ≡ refused top bottom most lent → Err r ≡ answer top bottom most lent
  unfolding answer
  answer_refused lent r e = refused_is (refused top bottom most lent) (figures top bottom) r e

  -- and with figures
  answer_drawn : (lent : ℕ) (x : Figures) → refused top bottom most lent ≡ 0 → x ≡ figures top bottom → Ok x ≡ answer top bottom most lent
  unfolding answer
  answer_drawn lent x z e = accepted_is (refused top bottom most lent) (figures top bottom) x z e

  -- a routing call that is let through draws a solution
  solves : (old : List ℕ) → refused top bottom most (length old) ≡ 0 → Solves top bottom (written top bottom most old) (figures top bottom)
  unfolding figures tracks
  solves old q = record { solution = written_solution top bottom most old q; dense = refl; two_pin = λ e. rw e refl; three_pin = λ e. rw e refl; many_pin = λ e. rw e refl }

  -- all that a routing call promises, by its answer and its slice
  pub promised : (old new : List ℕ) (r : Result Figures Refusal) → r ≡ answer top bottom most (length old) → new ≡ written top bottom most old
      → (r ≡ answer top bottom most (length old)) × ((new ≡ written top bottom most old) × ((number_of r ≡ 0 → Solves top bottom new (figures_of r))
      × ((number_of r ≡ refused top bottom most (length old)) × (figures_of r ≡ if_accepted (number_of r) (figures top bottom) no_figures))))
  promised old new r er en =
      let p = answer_promise top bottom most (length old) r er in (
        er,
        (
          en,
          (
            λ z.
                let q : refused top bottom most (length old) ≡ 0 = sym p.0 ∙ z in
                let x : figures_of r ≡ figures top bottom = p.1 ∙ accepted_new (number_of r) (figures top bottom) no_figures z in
                subst (λ (y : Figures). Solves top bottom new y) (sym x) (subst (λ (l : List ℕ). Solves top bottom l (figures top bottom)) (sym en) (solves old q)),
            p,
          ),
        ),
      )

  module _ (old : List ℕ) where
    -- rows that are refused
    pub rows_refused_lem : (r : Refusal) → number r ≡ refused_within top bottom most
        → (Err r ≡ answer top bottom most (length old)) × (old ≡ written top bottom most old)
    rows_refused_lem r e =
        let q : refused top bottom most (length old) ≡ number r = refuses top bottom most (length old) (number r) (sym e) (number_nonzero r) in
        (answer_refused (length old) r (sym q), sym (written_refused top bottom most old (λ z. number_nonzero r (sym q ∙ z))))

    -- a slice that is too short
    pub slice_refused : refused_within top bottom most ≡ 0 → length old < slice_length top bottom
        → (Err LayoutTooShort ≡ answer top bottom most (length old)) × (old ≡ written top bottom most old)
    slice_refused e h =
        let q : refused top bottom most (length old) ≡ 8 = too_short top bottom most (length old) e h in
        (answer_refused (length old) LayoutTooShort (sym q), sym (written_refused top bottom most old (λ z. omega arith)))

    -- a channel that is drawn
    pub channel_drawn : (new : List ℕ) (d t w : ℕ) → refused_within top bottom most ≡ 0 → Drawing.width t top bottom * (2 * t + 1) ≤ length old → d ≡ density top bottom → t ≡ tracks top bottom → w ≡ Drawing.width t top bottom
        → new ≡ Drawing.layout t top bottom ++ drop (w * (2 * t + 1)) old
        → (Ok (record { density = d; tracks = t; width = w }) ≡ answer top bottom most (length old)) × (new ≡ written top bottom most old)
    unfolding figures
    channel_drawn new d t w e h ed et v n =
        let ew : w ≡ width top bottom = v ∙ ap (λ (k : ℕ). Drawing.width k top bottom) et in
        let en : new ≡ layout top bottom ++ drop (w * (2 * t + 1)) old = n ∙ ap (λ (k : ℕ). Drawing.layout k top bottom ++ drop (w * (2 * t + 1)) old) et in
        let q : refused top bottom most (length old) ≡ 0 = passes top bottom most (length old) e (subst (λ (m : ℕ). m ≤ length old) (length_by top bottom t _ et refl) h) in
        let s : w * (2 * t + 1) ≡ length (layout top bottom) = cc (layout-length top bottom (accepted top bottom most e)) in
        (answer_drawn (length old) _ q (cc), en ∙ ap (λ (z : ℕ). layout top bottom ++ drop z old) s ∙ sym (written_drawn top bottom most old q))

-- a slice of the formula's length holds the drawing, whose width is n and half the tracks at most
pub formula_enough : (top bottom : List ℕ) (t lent : ℕ) → Drawing.width t top bottom ≤ length top + t / 2 → formula_length (length top) t ≤ lent → Drawing.width t top bottom * (2 * t + 1) ≤ lent
formula_enough top bottom t lent h p = omega (arith, mul-le-mul_right (2 * t + 1) h)

-- a drawing has 511 columns of 1023 entries at most
pub area : (w t : ℕ) → w ≤ 511 → t ≤ 511 → w * (2 * t + 1) ≤ 522753
area w t h k = product_le w (2 * t + 1) (omega arith) (omega arith)
