-- Positions of a sweep on t tracks: whatever the calls, the channel is one of two-pin nets and density t, and its drawn columns stay; and what calls that keep
-- their promises leave. Assumes nothing.
use Prim.Native.Nat.{ℕ, zero, suc, ◌+◌, ◌*◌, ◌-◌, ◌≤◌}
use mathlib.Core.Path.{◌≡◌, refl, sym, ap, subst, ◌∙◌}
use mathlib.Core.Logic.{◌≢◌}
use mathlib.Core.Bool.{Bool, true, false}
use mathlib.Core.List.{List, [], ◌∷◌, ◌++◌}
use native.Mathlib.Omega.{arith}
use native.Mathlib.Nat.{mul-le-mul_right, zero-mul}
use lib.Dec.{ltb}
use lib.ListN.{length, take, drop, length-append, length-drop}
use lib.Seq.{drop-append-add, drop-drop}
use Rattle.grid.specs.declared.Family.TheVariants.{TwoPin}
use Rattle.grid.specs.Channel.{pick, density, family, pins_within, rows_refused}
use Rattle.std.specs.Prelude.{Result}
use Rattle.grid.specs.declared.refusals.Refusal.{Refusal}
use Rattle.grid.specs.Refusals.{if_accepted, number_of}
use Rattle.grid.proofs.Tests.{ltb-false, le-ltb, pick_past}
use Rattle.grid.proofs.Answers.{first_past, accepted_new}
use Rattle.grid.proofs.Rows.{rows_fit}
use Rattle.sweep.specs.Drawing.{drawn_by, drawn, width, layout}
use Rattle.sweep.proofs.Drawing.Past.{drawn_length_past, width-least}
use Rattle.sweep.proofs.Drawing.Beginning.{drawn_same, layout_begins}
use Rattle.router.specs.Answers.{formula_length}
use Rattle.placing.specs.Placing.{place_refused}
use Rattle.placing.proofs.Placed.{placed_within, placed_length_top, placed_before_top, placed_before_bottom, placed_accepted, placed_pairs, placed_denser}
use Rattle.stepwise.specs.declared.Stepped.{Stepped}
use Rattle.stepwise.specs.Sweep.{State, Stands, start_refused, started, Starts, reached, stepped, ShowsColumns, Steps}
use Rattle.stepwise.specs.Sweep.{late_top, late_bottom, late_refused, PlacesLate}
use Rattle.stepwise.proofs.Onwards.{stepped_number}
use Rattle.stepwise.specs.Calls.{Call, Step, Place, Position, after, after_all, Leads, stays, steps, places}

-- THE CHANNEL

-- one of two-pin nets and density t, with some of its columns drawn on t tracks
pub record Going (t : ℕ) (p : Position) : Type 0 where
  pub accepted : rows_refused p.top p.bottom 256 ≡ 0
  pub pairs : family p.top p.bottom ≡ TwoPin
  pub dense : density p.top p.bottom ≡ t
  pub within : p.drawn ≤ width t p.top p.bottom

-- from p to q: it is such a channel there too, as long, with the columns drawn at p and perhaps more
pub record GoesOn (t : ℕ) (p q : Position) : Type 0 where
  pub going : Going t q
  pub size : length q.top ≡ length p.top
  pub further : p.drawn ≤ q.drawn
  pub columns : (c : ℕ) → c ≤ p.drawn → drawn t q.top q.bottom c ≡ drawn t p.top p.bottom c

-- with no call
goes_nowhere : {t : ℕ} {p : Position} → Going t p → GoesOn t p p
goes_nowhere G = record { going = G; size = refl; further = omega arith; columns = λ c h. refl }

-- with one call after the other
goes_then : {t : ℕ} {p q r : Position} → GoesOn t p q → GoesOn t q r → GoesOn t p r
goes_then a b = record {
  going = b.going;
  size = b.size ∙ a.size;
  further = omega (arith, a.further, b.further);
  columns = λ c h. b.columns c (omega (arith, a.further)) ∙ a.columns c h;
}

-- THE ROWS
-- of two-pin nets by the test of the start
pub within_two : (top bottom : List ℕ) → pins_within top bottom 2 ≡ true → family top bottom ≡ TwoPin
unfolding family
within_two top bottom e = rw e refl

-- those that the start lets through
module _ (top bottom : List ℕ) (ok : start_refused top bottom ≡ 0) where
  -- are accepted
  pub start_accepted : rows_refused top bottom 256 ≡ 0
  unfolding start_refused
  start_accepted = (first_past (rows_refused top bottom 256) (pick (pins_within top bottom 2) 0 7) ok).0

  -- and of two-pin nets
  pub start_pairs : family top bottom ≡ TwoPin
  unfolding start_refused
  start_pairs = go (pins_within top bottom 2) refl (first_past (rows_refused top bottom 256) (pick (pins_within top bottom 2) 0 7) ok).1
    where
      go : (b : Bool) → pins_within top bottom 2 ≡ b → pick {A = ℕ} b 0 7 ≡ 0 → family top bottom ≡ TwoPin
      go true e z = within_two top bottom e
      go false e z = absurd (omega arith)

  -- so the sweep may go on, with no column drawn
  pub going_start : Going (density top bottom) (record { top = top; bottom = bottom; drawn = 0 })
  going_start = record { accepted = start_accepted; pairs = start_pairs; dense = refl; within = omega arith }

  -- and the state stands for them
  stands_start : (x : State) → Starts top bottom x → Stands top bottom (density top bottom) 0 x
  unfolding started
  stands_start x s = rw ok at s

-- FROM ANYWHERE
module _ (t : ℕ) (p : Position) where
  -- steps add up
  pub steps_add : (j k : ℕ) → after t (after t p (Step j)) (Step k) ≡ after t p (Step (j + k))
  unfolding after
  steps_add j k =
      let to = reached p.top p.bottom t in
      let e : to (to p.drawn j) k ≡ to p.drawn (j + k) = omega arith in
      ap (λ (c : ℕ). record { top = p.top; bottom = p.bottom; drawn = c }) e

  -- a step after the last column leads nowhere
  pub step_past : p.drawn ≡ width t p.top p.bottom → (k : ℕ) → after t p (Step k) ≡ p
  unfolding after
  step_past e k =
      let i : reached p.top p.bottom t p.drawn k ≡ p.drawn = omega arith in
      ap (λ (c : ℕ). record { top = p.top; bottom = p.bottom; drawn = c }) i

  -- where a late net leads, by its number
  abbrev placed_by : (net column1 side1 column2 side2 number : ℕ) → Position
  placed_by net column1 side1 column2 side2 k = record {
    top = if_accepted k (late_top p.top p.bottom t p.drawn net column1 side1 column2 side2) p.top;
    bottom = if_accepted k (late_bottom p.top p.bottom t p.drawn net column1 side1 column2 side2) p.bottom;
    drawn = p.drawn;
  }

  -- nor does one that is refused
  pub place-refused : (net column1 side1 column2 side2 : ℕ) → late_refused p.top p.bottom t p.drawn net column1 side1 column2 side2 ≢ 0
      → after t p (Place net column1 side1 column2 side2) ≡ p
  unfolding after
  place-refused net column1 side1 column2 side2 = go (late_refused p.top p.bottom t p.drawn net column1 side1 column2 side2)
    where
      go : (k : ℕ) → k ≢ 0 → placed_by net column1 side1 column2 side2 k ≡ p
      go zero n = absurd (n refl)
      go (suc k) n = refl

-- A SWEEP THAT GOES ON
module _ (t : ℕ) (p : Position) (G : Going t p) where
  -- has drawn the first columns of the channel's layout
  pub first-columns : drawn t p.top p.bottom p.drawn ≡ take (p.drawn * (2 * t + 1)) (layout t p.top p.bottom)
  first-columns = sym (layout_begins t p.top p.bottom (rows_fit p.top p.bottom G.accepted).same p.drawn G.within)

  -- which stay the first columns of what it leads to
  pub columns_stay : (q : Position) → GoesOn t p q
      → take (p.drawn * (2 * t + 1)) (layout t q.top q.bottom) ≡ take (p.drawn * (2 * t + 1)) (layout t p.top p.bottom)
  columns_stay q o =
      let fit = rows_fit q.top q.bottom o.going.accepted in
      layout_begins t q.top q.bottom fit.same p.drawn (omega (arith, o.further, o.going.within))
      ∙ o.columns p.drawn (omega arith)
      ∙ first-columns

  -- A STEP goes on
  goes_step : (k : ℕ) → GoesOn t p (after t p (Step k))
  unfolding after
  goes_step k = record {
    going = record { accepted = G.accepted; pairs = G.pairs; dense = G.dense; within = omega arith };
    size = refl;
    further = omega (arith, G.within);
    columns = λ c h. refl;
  }

  -- A LATE NET
  module _ (net column1 side1 column2 side2 : ℕ) where
    -- one that is not refused leaves density and drawn columns
    goes_placed : late_refused p.top p.bottom t p.drawn net column1 side1 column2 side2 ≡ 0
        → GoesOn t p (placed_by t p net column1 side1 column2 side2 0)
    unfolding late_refused
    goes_placed e =
        let top = p.top in
        let bottom = p.bottom in
        let c = p.drawn in
        let ok = G.accepted in
        let top' = late_top top bottom t c net column1 side1 column2 side2 in
        let bottom' = late_bottom top bottom t c net column1 side1 column2 side2 in
        let (z, d) = first_past (place_refused top bottom c net column1 side1 column2 side2) (pick (ltb t (density top' bottom')) 23 0) e in
        let (f, i) = pick_past (ltb t (density top' bottom')) 23 0 0 (omega arith) d in
        let two = placed_pairs top bottom c net column1 side1 column2 side2 ok G.pairs z in
        let new = placed_accepted top bottom c net column1 side1 column2 side2 ok G.pairs z in
        let dense : density top' bottom' ≡ t =
        omega (arith, ltb-false t (density top' bottom') f, G.dense, placed_denser top bottom c net column1 side1 column2 side2 ok G.pairs z) in
        let right = placed_within top bottom c net column1 side1 column2 side2 ok G.pairs z in
        let size = placed_length_top top bottom c net column1 side1 column2 side2 ok G.pairs z in
        record {
          going = record { accepted = new; pairs = two; dense = dense; within = omega (arith, right, size, width-least t top' bottom') };
          size = size;
          further = omega arith;
          columns =
              drawn_same t top' bottom' top bottom (record { fit = rows_fit top' bottom' new; two = two; dense = omega arith })
              (record { fit = rows_fit top bottom ok; two = G.pairs; dense = omega (arith, G.dense) }) c (omega (arith, right, size)) (omega (arith, right))
              (placed_before_top top bottom c net column1 side1 column2 side2 ok G.pairs z)
              (placed_before_bottom top bottom c net column1 side1 column2 side2 ok G.pairs z);
        }

    -- and one that is refused leaves all, so any does
    goes-place : GoesOn t p (after t p (Place net column1 side1 column2 side2))
    unfolding after
    goes-place = go (late_refused p.top p.bottom t p.drawn net column1 side1 column2 side2) refl
      where
        go : (k : ℕ) → late_refused p.top p.bottom t p.drawn net column1 side1 column2 side2 ≡ k
            → GoesOn t p (placed_by t p net column1 side1 column2 side2 k)
        go zero e = goes_placed e
        go (suc k) e = goes_nowhere G

  -- ANY CALL
  goes_call : (x : Call) → GoesOn t p (after t p x)
  goes_call (Step k) = goes_step k
  goes_call (Place net column1 side1 column2 side2) = goes-place net column1 side1 column2 side2

-- ANY LIST OF CALLS
pub goes_all : (t : ℕ) (p : Position) → Going t p → (xs : List Call) → GoesOn t p (after_all t p xs)
unfolding after_all
goes_all t p G [] = goes_nowhere G
goes_all t p G (x ∷ xs) = let a = goes_call t p G x in goes_then a (goes_all t (after t p x) a.going xs)

-- one list after the other
pub after-append : (t : ℕ) (p : Position) (xs ys : List Call) → after_all t p (xs ++ ys) ≡ after_all t (after_all t p xs) ys
unfolding after_all
after-append t p [] ys = refl
after-append t p (x ∷ xs) ys = after-append t (after t p x) xs ys

-- CALLS THAT KEEP THEIR PROMISES, with a slice that held l₀ at the start
-- the state x stands for the channel, and the slice l holds the drawn columns before the old contents
pub record InHand (t : ℕ) (p : Position) (l₀ : List ℕ) (x : State) (l : List ℕ) : Type 0 where
  pub stands : Stands p.top p.bottom t p.drawn x
  pub layout : l ≡ drawn t p.top p.bottom p.drawn ++ drop (p.drawn * (2 * t + 1)) l₀

module _ (t : ℕ) (p : Position) (l₀ : List ℕ) (x : State) (l : List ℕ) (H : InHand t p l₀ x l) where
  -- past the drawn columns the slice is as it was
  hand_rest : (c : ℕ) → p.drawn ≤ c → drop (c * (2 * t + 1)) l ≡ drop (c * (2 * t + 1)) l₀
  hand_rest c h =
      let each = 2 * t + 1 in
      let columns = drawn t p.top p.bottom p.drawn in
      let more = c * each - p.drawn * each in
      let size = drawn_length_past t p.top p.bottom p.drawn in
      let least = mul-le-mul_right {m = p.drawn} {n = c} each h in
      let e : c * each ≡ length columns + more = omega arith in
      let i : p.drawn * each + more ≡ c * each = omega arith in
      ap (λ (k : ℕ). drop k l) e
      ∙ ap (drop (length columns + more)) H.layout
      ∙ drop-append-add columns (drop (p.drawn * each) l₀) more
      ∙ drop-drop more (p.drawn * each) l₀
      ∙ ap (λ (k : ℕ). drop k l₀) i

  -- so it shows the drawn columns
  hand_shows : ShowsColumns p.top p.bottom t p.drawn l
  hand_shows = H.layout ∙ ap (λ (z : List ℕ). drawn t p.top p.bottom p.drawn ++ z) (sym (hand_rest p.drawn (omega arith)))

  -- it is no shorter
  hand_length : length l₀ ≤ length l
  hand_length =
      let each = 2 * t + 1 in
      omega (
        arith,
        ap length H.layout,
        length-append (drawn t p.top p.bottom p.drawn) (drop (p.drawn * each) l₀),
        drawn_length_past t p.top p.bottom p.drawn,
        length-drop (p.drawn * each) l₀,
      )

  -- A STEP, where the slice had document 01's length
  hand_step : Going t p → formula_length (length p.top) t ≤ length l₀ → (k : ℕ) (l' : List ℕ) (r : Result Stepped Refusal) (x' : State)
      → Steps p.top p.bottom t p.drawn k l l' r x' → InHand t (after t p (Step k)) l₀ x' l'
  unfolding after stepped
  hand_step G long k l' r x' S =
      let number : number_of r ≡ 0 =
      ap number_of S.answer
      ∙ stepped_number p.top p.bottom t p.drawn k (length l)
      ∙ ap (λ (b : Bool). pick b 8 0) (le-ltb (length l) (formula_length (length p.top) t) (omega (arith, hand_length))) in
      let here = reached p.top p.bottom t p.drawn k in
      let each = 2 * t + 1 in
      record {
        stands =
            subst (λ (c : ℕ). Stands p.top p.bottom t c x') (accepted_new (number_of r) here p.drawn number) S.stands;
        layout =
            S.layout hand_shows
            ∙ accepted_new (number_of r) (drawn t p.top p.bottom here ++ drop (here * each) l) l number
            ∙ ap (λ (z : List ℕ). drawn t p.top p.bottom here ++ z) (hand_rest here (omega (arith, G.within)));
      }

  -- A LATE NET
  hand_place : Going t p → (net column1 side1 column2 side2 r : ℕ) (x' : State)
      → PlacesLate p.top p.bottom t p.drawn net column1 side1 column2 side2 r x' → InHand t (after t p (Place net column1 side1 column2 side2)) l₀ x' l
  unfolding after
  hand_place G net column1 side1 column2 side2 r x' S =
      let top = p.top in
      let bottom = p.bottom in
      let c = p.drawn in
      record {
        stands =
            subst (λ (k : ℕ). Stands (if_accepted k (late_top top bottom t c net column1 side1 column2 side2) top)
            (if_accepted k (late_bottom top bottom t c net column1 side1 column2 side2) bottom) t c x') S.answer S.stands;
        layout =
            H.layout
            ∙ ap (λ (z : List ℕ). z ++ drop (c * (2 * t + 1)) l₀) (sym ((goes-place t p G net column1 side1 column2 side2).columns c (omega arith)));
      }

-- ANY LIST OF THEM
pub hand_after : (t : ℕ) (p : Position) (l₀ : List ℕ) (x y : State) (l m : List ℕ) (xs : List Call) → Going t p
    → formula_length (length p.top) t ≤ length l₀ → InHand t p l₀ x l → Leads x l xs y m → InHand t (after_all t p xs) l₀ y m
unfolding after_all
hand_after t p l₀ _ _ _ _ _ G long H (stays x l) = H
hand_after t p l₀ _ _ _ _ _ G long H (steps x x' y l l' m k r ys S L) =
    let a = goes_step t p G k in
    hand_after t (after t p (Step k)) l₀ x' y l' m ys a.going (rw a.size long)
    (hand_step t p l₀ x l H G long k l' r x' (S p.top p.bottom t p.drawn H.stands)) L
hand_after t p l₀ _ _ _ _ _ G long H (places x x' y l m net column1 side1 column2 side2 r ys S L) =
    let a = goes-place t p G net column1 side1 column2 side2 in
    hand_after t (after t p (Place net column1 side1 column2 side2)) l₀ x' y l m ys a.going (rw a.size long)
    (hand_place t p l₀ x l H G net column1 side1 column2 side2 r x' (S p.top p.bottom t p.drawn H.stands)) L

-- from the start
pub hand_start : (top bottom : List ℕ) → start_refused top bottom ≡ 0 → (x : State) (l : List ℕ) → Starts top bottom x
    → InHand (density top bottom) (record { top = top; bottom = bottom; drawn = 0 }) l x l
unfolding drawn_by
hand_start top bottom ok x l s = record { stands = stands_start top bottom ok x s; layout = rw zero-mul refl }
