-- The sweep that its caller drives is as document 02, Job 10, asks. Assumes nothing.
use Prim.Native.Nat.{ℕ, ◌+◌, ◌*◌, ◌≤◌, ◌<◌}
use mathlib.Core.Path.{◌≡◌, refl, sym, ap, ap₂, subst, ◌∙◌}
use mathlib.Core.Logic.{◌≢◌, inl, inr}
use mathlib.Core.Bool.{Bool, true, false}
use mathlib.Core.List.{List, ◌++◌}
use native.Mathlib.Omega.{arith}
use native.Mathlib.Decide.{ℕ_discrete}
use lib.ListN.{length, drop}
use Rattle.grid.specs.Channel.{pick, pins, pins_within, density, tracks, rows_refused}
use Rattle.grid.proofs.Rows.{rows_fit, two_fit, two_density}
use Rattle.sweep.specs.Drawing as Drawing
use Rattle.sweep.specs.Drawing.{drawn}
use Rattle.sweep.proofs.Drawing.Past.{layout-drawn}
use Rattle.router.specs.Answers.{width, layout, formula_length, written}
use Rattle.router.proofs.Applied.{layout-length, within_formula}
use Rattle.router.proofs.Answered.{passes, written_drawn}
use Rattle.placing.specs.Placing.{placed_top, placed_bottom}
use Rattle.stepwise.specs.Sweep.{State, Starts, start_refused, late_refused}
use Rattle.stepwise.specs.declared.Started.{Started}
use Rattle.stepwise.specs.declared.Stepped.{Stepped}
use Rattle.stepwise.proofs.Begin.{started_number, started_zeros}
use Rattle.stepwise.proofs.Onwards.{stepped_number, stepped_zeros}
use Rattle.stepwise.specs.Calls.{Call, Position, Leads}
use Rattle.stepwise.proofs.Positions.{Going, GoesOn, within_two, going_start, steps_add, step_past, place-refused, first-columns, columns_stay}
use Rattle.stepwise.proofs.Positions.{goes_all, after-append, InHand, hand_start, hand_after}
use Rattle.demands.specs.Table.{First, line, end, of_pair_rows, of_late_net}
use Rattle.demands.specs.Beginnings.{first_columns}
use Rattle.demands.specs.Steps.{DrivenRefuses, DrivenZeros, began, reached_by, GoesWell, Drives, ColumnByColumn}
use Rattle.demands.proofs.Table.{past_line, one_line}
use Rattle.demands.proofs.Lines.{rows_lines, slice_first}
use Rattle.demands.proofs.NewNets.{new_net_lines}
use Rattle.demands.proofs.Families.{larger_some}
use Rattle.demands.proofs.Tracks.{rows_accepted}
use Rattle.demands.proofs.Beginnings.{two_pin_channel}

-- THE ROWS
module _ (top bottom : List ℕ) where
  -- a net has more than two pins
  abbrev Larger : Type 0
  Larger = (v : ℕ) × (v ≢ 0) × (2 < pins top bottom v)

  larger_line : rows_refused top bottom 256 ≡ 0 → First (line 7 Larger end) (pick (pins_within top bottom 2) 0 7)
  unfolding First
  larger_line ok = go (pins_within top bottom 2) refl
    where
      go : (b : Bool) → pins_within top bottom 2 ≡ b → First (line 7 Larger end) (pick b 0 7)
      go true e = inr (λ (v, n, l). omega (arith, two_fit top bottom (rows_fit top bottom ok) (within_two top bottom e) v (omega arith)), refl)
      go false e = inl (larger_some top bottom 2 e, refl)

  -- a net without exactly two pins has one, or more than two
  one_or_larger : (((v : ℕ) × (v ≢ 0) × (pins top bottom v ≡ 1)) → ⊥) → (Larger → ⊥)
      → ((v : ℕ) × (v ≢ 0) × (pins top bottom v ≢ 0) × (pins top bottom v ≢ 2)) → ⊥
  one_or_larger f g (v, n, z, t) = go (ℕ_discrete (pins top bottom v) 1)
    where
      go : Dec (pins top bottom v ≡ 1) → ⊥
      go (yes e) = f (v, n, e)
      go (no e) = g (v, n, omega arith)

  start_first : First (of_pair_rows top bottom end) (start_refused top bottom)
  unfolding start_refused
  start_first =
      past_line 4 _ _ _ _ (past_line 5 _ _ _ _ (past_line 6 _ _ _ _
      (one_line 7 _ end (λ (v, n, e). (v, n, omega arith, omega arith)) (λ (v, n, l). (v, n, omega arith, omega arith)) one_or_larger)))
      (rows_lines top bottom 256 (omega arith) (pick (pins_within top bottom 2) 0 7) (line 7 Larger end) larger_line)

-- A LATE NET
late_first : (top bottom : List ℕ) → length top ≡ length bottom → (t c net column1 side1 column2 side2 : ℕ)
    → First (of_late_net top bottom t c net column1 side1 column2 side2) (late_refused top bottom t c net column1 side1 column2 side2)
unfolding late_refused
late_first top bottom even t c net column1 side1 column2 side2 =
    new_net_lines top bottom even c net column1 side1 column2 side2 _ _
    (slice_first 23 (density (placed_top top net column1 side1 column2 side2) (placed_bottom bottom net column1 side1 column2 side2)) t)

-- THE NUMBERS AND THE ZEROS
module _ (top bottom : List ℕ) where
  refuses : DrivenRefuses top bottom
  refuses = record {
    start = start_first top bottom;
    step = λ t c lent. slice_first 8 (formula_length (length top) t) lent;
    start_answers = started_number top bottom;
    step_answers = stepped_number top bottom;
    place = λ p. late_first top bottom (rows_fit top bottom ((rows_accepted top bottom).1 p.accepted)).same;
  }

  zeros : DrivenZeros top bottom
  zeros = record {
    start = λ n. let e = started_zeros top bottom n in (ap (λ (f : Started). f.tracks) e, ap (λ (f : Started). f.length) e);
    step = λ t c k lent n. let e = stepped_zeros top bottom t c k lent n in (ap (λ (f : Stepped). f.drawn) e, ap (λ (f : Stepped). f.finished) e);
  }

-- A CHANNEL WITH SOME OF ITS COLUMNS DRAWN
module _ (t : ℕ) (p : Position) (G : Going t p) where
  -- t are its own tracks
  own_tracks : tracks p.top p.bottom ≡ t
  own_tracks = two_density p.top p.bottom G.pairs ∙ G.dense

  -- so its layout is that on t tracks
  own_layout : layout p.top p.bottom ≡ Drawing.layout t p.top p.bottom
  own_layout = ap (λ (s : ℕ). Drawing.layout s p.top p.bottom) own_tracks

  goes_well : GoesWell t p
  goes_well = record {
    channel = two_pin_channel p.top p.bottom G.accepted G.pairs;
    same_tracks = own_tracks;
    within = subst (λ (s : ℕ). p.drawn ≤ Drawing.width s p.top p.bottom) (sym own_tracks) G.within;
    columns = first-columns t p G ∙ ap (first_columns p.drawn t) (sym own_layout);
  }

  -- with all of them drawn, what a routing call leaves
  all_written : (l : List ℕ) → formula_length (length p.top) t ≤ length l → p.drawn ≡ width p.top p.bottom
      → drawn t p.top p.bottom p.drawn ++ drop (p.drawn * (2 * t + 1)) l ≡ written p.top p.bottom 256 l
  all_written l long e =
      let top = p.top in
      let bottom = p.bottom in
      ap₂ (λ (s c : ℕ). drawn s top bottom c ++ drop (c * (2 * s + 1)) l) (sym own_tracks) e
      ∙ ap₂ (λ (z : List ℕ) (k : ℕ). z ++ drop k l) (sym (layout-drawn (tracks top bottom) top bottom (rows_fit top bottom G.accepted).same))
      (sym (layout-length top bottom G.accepted))
      ∙ sym (written_drawn top bottom 256 l (passes top bottom 256 (length l) G.accepted (omega (arith, within_formula top bottom G.accepted, formula))))
    where
      formula : formula_length (length p.top) (tracks p.top p.bottom) ≤ length l
      formula = rw own_tracks long

-- WHATEVER THE CALLS
module _ (top bottom : List ℕ) (ok : start_refused top bottom ≡ 0) where
  -- from the start on
  goes : (xs : List Call) → GoesOn (density top bottom) (began top bottom) (reached_by top bottom xs)
  goes = goes_all (density top bottom) (began top bottom) (going_start top bottom ok)

  -- after more calls
  goes_on : (xs ys : List Call) → GoesOn (density top bottom) (reached_by top bottom xs) (reached_by top bottom (xs ++ ys))
  goes_on xs ys =
      subst (GoesOn (density top bottom) (reached_by top bottom xs)) (sym (after-append (density top bottom) (began top bottom) xs ys))
      (goes_all (density top bottom) (reached_by top bottom xs) (goes xs).going ys)

  -- calls that keep their promises
  in_hand : (x y : State) (l m : List ℕ) (xs : List Call) → Starts top bottom x → formula_length (length top) (density top bottom) ≤ length l → Leads x l xs y m
      → InHand (density top bottom) (reached_by top bottom xs) l y m
  in_hand x y l m xs s long = hand_after (density top bottom) (began top bottom) l x y l m xs (going_start top bottom ok) long (hand_start top bottom ok x l s)

  drives : Drives top bottom
  drives = record {
    well = λ xs. goes_well (density top bottom) (reached_by top bottom xs) (goes xs).going;
    grouped = steps_add (density top bottom);
    stay = λ xs ys.
        let t = density top bottom in
        let p = reached_by top bottom xs in
        let q = reached_by top bottom (xs ++ ys) in
        ap (first_columns p.drawn t) (own_layout t q (goes (xs ++ ys)).going)
        ∙ columns_stay t p (goes xs).going q (goes_on xs ys)
        ∙ sym (ap (first_columns p.drawn t) (own_layout t p (goes xs).going));
    refused = place-refused (density top bottom);
    past = λ xs k e.
        let p = reached_by top bottom xs in
        step_past (density top bottom) p (e ∙ ap (λ (t : ℕ). Drawing.width t p.top p.bottom) (own_tracks (density top bottom) p (goes xs).going)) k;
    leads = λ x y l m xs s long L. let H = in_hand x y l m xs s long L in (H.stands, H.layout);
    finished = λ x y l m xs s long L e.
        let p = reached_by top bottom xs in
        (in_hand x y l m xs s long L).layout
        ∙ all_written (density top bottom) p (goes xs).going l (rw (goes xs).size long) e;
  }

-- ALL SWEEPS
pub column_by_column : ColumnByColumn
column_by_column = record { refuses = refuses; zeros = zeros; drives = drives }
