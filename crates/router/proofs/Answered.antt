-- The answers against the table of refusals: their numbers, when a call is let through, and what a routing call leaves in its slice.
use Prim.Native.Nat.{ℕ, zero, suc, ◌+◌, ◌*◌, ◌≤◌, ◌<◌, min}
use mathlib.Core.Path.{◌≡◌, refl, sym, ap, subst, ◌∙◌}
use mathlib.Core.Logic.{◌≢◌}
use mathlib.Core.Bool.{Bool, true, false}
use mathlib.Core.List.{List, ◌++◌}
use native.Mathlib.Omega.{arith}
use lib.Dec.{ltb}
use lib.ListN.{length, take, drop, length-append, length-drop}
use lib.Seq.{take_at}
use Rattle.grid.specs.Channel.{pick, tracks, rows_refused}
use Rattle.std.specs.Prelude.{Result}
use Rattle.grid.specs.declared.refusals.Refusal.{Refusal}
use Rattle.grid.specs.Refusals.{first_refusal, if_accepted, number_of}
use Rattle.grid.specs.Answers.{refused_within}
use Rattle.grid.specs.Grid.{Solution}
use Rattle.grid.proofs.Tests.{Below, above, below_by, le-ltb, lt-ltb}
use Rattle.grid.proofs.Numbers.{number_answer, figures_answer, pick_within, first_within}
use Rattle.grid.proofs.Answers.{rows_within, accepted, accepted_new, accepted_old}
use Rattle.router.specs.declared.Figures.{Figures}
use Rattle.router.specs.Answers.{figures_of, no_figures, entries_of}
use Rattle.router.specs.Answers.{width, layout, slice_length, need, refused, figures, answer, written}
use Rattle.router.proofs.Applied.{solved, layout-length, layout_fills}

-- a call that nothing refuses: the rows are accepted, and the slice has the entries asked for
pub none_refused : (k asked lent : ℕ) → first_refusal k (pick (ltb lent asked) 8 0) ≡ 0 → (k ≡ 0) × (asked ≤ lent)
none_refused k asked lent = go k (ltb lent asked) (below_by lent asked)
  where
    go : (k : ℕ) (q : Bool) → Below lent asked q → first_refusal k (pick q 8 0) ≡ 0 → (k ≡ 0) × (asked ≤ lent)
    go zero true b e = absurd (omega arith)
    go zero false (above b) e = (refl, b)
    go (suc k) q b e = absurd (omega arith)

-- THE CALL THAT STATES THE SLICE LENGTH
module _ (top bottom : List ℕ) where
  -- it refuses what the rows refuse
  pub need_number : number_of (need top bottom) ≡ rows_refused top bottom 256
  unfolding need
  need_number = number_answer _ _ (rows_within top bottom 256)

  -- and states the slice length on acceptance, 0 on refusal
  pub need_entries : entries_of (need top bottom) ≡ if_accepted (rows_refused top bottom 256) (slice_length top bottom) 0
  unfolding need
  need_entries = figures_answer 0 (rows_refused top bottom 256) (slice_length top bottom)

  -- what a call with this answer promises of it
  pub need_promise : (r : Result ℕ Refusal) → r ≡ need top bottom
      → (number_of r ≡ rows_refused top bottom 256) × (entries_of r ≡ if_accepted (number_of r) (slice_length top bottom) 0)
  need_promise r e =
      let n = ap number_of e ∙ need_number in
      (n, ap entries_of e ∙ need_entries ∙ ap (λ (k : ℕ). if_accepted k (slice_length top bottom) 0) (sym n))

-- A ROUTING CALL WITH A LIMIT OF COLUMNS
module _ (top bottom : List ℕ) (most : ℕ) where
  -- the table has its number
  answer_within : (lent : ℕ) → refused top bottom most lent ≤ 24
  unfolding refused
  answer_within lent = first_within _ _ (rows_within top bottom (min most 256)) (pick_within _ 8 0 (omega arith) (omega arith))

  -- so its number is the table's
  pub answer-number : (lent : ℕ) → number_of (answer top bottom most lent) ≡ refused top bottom most lent
  unfolding answer
  answer-number lent = number_answer _ _ (answer_within lent)

  -- and its figures are the channel's on acceptance, zeros on refusal
  pub answer_figures : (lent : ℕ) → figures_of (answer top bottom most lent) ≡ if_accepted (refused top bottom most lent) (figures top bottom) no_figures
  unfolding answer
  answer_figures lent = figures_answer no_figures (refused top bottom most lent) (figures top bottom)

  -- what a call with this answer promises of it
  pub answer_promise : (lent : ℕ) (r : Result Figures Refusal) → r ≡ answer top bottom most lent
      → (number_of r ≡ refused top bottom most lent) × (figures_of r ≡ if_accepted (number_of r) (figures top bottom) no_figures)
  answer_promise lent r e =
      let n = ap number_of e ∙ answer-number lent in
      (n, ap figures_of e ∙ answer_figures lent ∙ ap (λ (k : ℕ). if_accepted k (figures top bottom) no_figures) (sym n))

  -- WHEN IT IS LET THROUGH: the rows are, and the slice is long enough
  pub let_through : (lent : ℕ) → refused top bottom most lent ≡ 0 → (refused_within top bottom most ≡ 0) × (slice_length top bottom ≤ lent)
  unfolding refused
  let_through lent e = none_refused (refused_within top bottom most) (slice_length top bottom) lent e

  -- and then it is
  pub passes : (lent : ℕ) → refused_within top bottom most ≡ 0 → slice_length top bottom ≤ lent → refused top bottom most lent ≡ 0
  unfolding refused
  passes lent e p = rw (e, le-ltb lent (slice_length top bottom) p)

  -- rows that are refused give their number
  pub refuses : (lent k : ℕ) → refused_within top bottom most ≡ k → k ≢ 0 → refused top bottom most lent ≡ k
  unfolding refused
  refuses lent zero e n = absurd (n refl)
  refuses lent (suc k) e n = ap (λ (z : ℕ). first_refusal z (pick (ltb lent (slice_length top bottom)) 8 0)) e

  -- a slice that is too short gives 8
  pub too_short : (lent : ℕ) → refused_within top bottom most ≡ 0 → lent < slice_length top bottom → refused top bottom most lent ≡ 8
  unfolding refused
  too_short lent e h = rw (e, lt-ltb lent (slice_length top bottom) h) refl

  -- WHAT IT LEAVES IN ITS SLICE
  -- a refused call writes nothing
  pub written_refused : (old : List ℕ) → refused top bottom most (length old) ≢ 0 → written top bottom most old ≡ old
  unfolding written
  written_refused old n = accepted_old (refused top bottom most (length old)) _ old n

  module _ (old : List ℕ) (e : refused top bottom most (length old) ≡ 0) where
    -- the rows are accepted
    ok : rows_refused top bottom 256 ≡ 0
    ok = accepted top bottom most (let_through (length old) e).0

    -- else the layout, and the rest as it was
    pub written_drawn : written top bottom most old ≡ layout top bottom ++ drop (length (layout top bottom)) old
    unfolding written
    written_drawn = accepted_new (refused top bottom most (length old)) _ old e

    -- the slice keeps its length
    pub written_length : length (written top bottom most old) ≡ length old
    written_length =
        rw (written_drawn, length-append, length-drop)
        (omega (arith, layout_fills top bottom ok, (let_through (length old) e).1))

    -- its first w × (2t + 1) entries are a solution
    pub written_solution : Solution top bottom (width top bottom) (tracks top bottom)
        (take (width top bottom * (2 * tracks top bottom + 1)) (written top bottom most old))
    written_solution =
        subst (Solution top bottom (width top bottom) (tracks top bottom))
        (sym (rw written_drawn (take_at (layout top bottom) (drop (length (layout top bottom)) old) (width top bottom * (2 * tracks top bottom + 1))
        (layout-length top bottom ok))))
        (solved top bottom ok)
