-- Rows in 256 places, the refusals of the rows, and the state that the call leaves which begins a sweep. Assumes nothing.
use Prim.Native.Nat.{ℕ, zero, suc, ◌+◌, ◌-◌, ◌≤◌}
use mathlib.Core.Path.{◌≡◌, refl, sym, ap, ap₂, subst, ◌∙◌}
use mathlib.Core.Bool.{Bool, true, false, not, ◌&&◌}
use mathlib.Core.Logic.{◌≢◌, ◌⊎◌, ⊎_elim}
use mathlib.Core.List.{List, []}
use native.Mathlib.Omega.{arith}
use lib.ListN.{length, take, drop, replicate, length-replicate, replicate-append-replicate}
use lib.Seq.{take_all, drop_at}
use Rattle.std.specs.Prelude.{Result, Ok, Err}
use Rattle.grid.specs.declared.Family.{Family}
use Rattle.grid.specs.declared.Family.TheVariants.{TwoPin, ThreePin, ManyPin}
use Rattle.grid.specs.declared.NetFacts.{NetFacts}
use Rattle.grid.specs.declared.refusals.Refusal.{Refusal}
use Rattle.grid.specs.declared.refusals.Refusal.TheVariants.{SinglePin}
use Rattle.grid.specs.Channel.{pick, times, pins, largest, density, pins_within, first_two_to, family, rows_refused}
use Rattle.grid.specs.Nets.{first_to, last_to, first_column, last_column, from, table, zero_table}
use Rattle.grid.specs.Places.{padded, no_row}
use Rattle.grid.specs.Answers.{accepted_facts, facts_check}
use Rattle.grid.specs.Refusals.{first_refusal, if_accepted, number, number_of, answer_of}
use Rattle.grid.proofs.Answers.{first_here, rows_within, told_facts, accepted_old}
use Rattle.grid.proofs.Numbers.{number_nonzero, number_answer, figures_answer, pick_within, first_within, accepted_by, refused_by, refused_is, accepted_is}
use Rattle.grid.proofs.OpenNets.{density_small}
use Rattle.grid.proofs.Rows.{rows_fit, rows_short}
use Rattle.grid.proofs.Taken.{fit_accepted, two_pin_lem}
use Rattle.router.specs.Answers.{formula_length}
use Rattle.router.specs.State.{Begun}
use Rattle.router.proofs.Laws.Standing.{standing_begins}
use Rattle.stepwise.specs.declared.Started.{Started}
use Rattle.stepwise.specs.Sweep.{State, state_of, Stands, no_start, start_figures, start_refused, started, Starts}
use Rattle.stepwise.specs.Working.{two_pin_facts}
use Rattle.stepwise.proofs.Positions.{start_accepted, start_pairs}

-- ROWS IN 256 PLACES

-- zeros behind a row
pub no_row-rest : (i : ℕ) → i ≤ 256 → drop i no_row ≡ replicate (256 - i) 0
unfolding no_row
no_row-rest i h =
    let e : i + (256 - i) ≡ 256 = omega arith in
    ap (drop i) (ap (λ (k : ℕ). replicate {A = ℕ} k 0) (sym e) ∙ sym (replicate-append-replicate i (256 - i) 0))
    ∙ drop_at (replicate i 0) (replicate (256 - i) 0) i (length-replicate i 0)

-- THE ROWS THAT A START TAKES

-- whether a family has two pins a net
abbrev is_two_pin : Family → Bool
is_two_pin TwoPin = true
is_two_pin ThreePin = false
is_two_pin ManyPin = false

-- "In this sweep 7 stands for any net without exactly two pins": what the family says of the pins
two_family : (top bottom : List ℕ) → is_two_pin (family top bottom) ≡ pins_within top bottom 2
unfolding family
two_family top bottom = go (pins_within top bottom 2) (pins_within top bottom 3 && not (first_two_to top bottom (length top)))
  where
    go : (a b : Bool) → is_two_pin (pick a TwoPin (pick b ThreePin ManyPin)) ≡ a
    go true b = refl
    go false true = refl
    go false false = refl

module _ (top bottom : List ℕ) where
  -- the numbers are those of the table
  start_within : start_refused top bottom ≤ 24
  unfolding start_refused
  start_within = first_within _ _ (rows_within top bottom 256) (pick_within _ 0 7 (omega arith) (omega arith))

  -- so a start's answer has its number
  pub started_number : number_of (started top bottom) ≡ start_refused top bottom
  unfolding started
  started_number = number_answer _ _ start_within

  -- and a refusal has zeros
  pub started_zeros : start_refused top bottom ≢ 0 → start_figures (started top bottom) ≡ no_start
  unfolding started
  started_zeros n = figures_answer no_start (start_refused top bottom) _ ∙ accepted_old (start_refused top bottom) _ no_start n

  -- 7 may come after the row check
  start_number : rows_refused top bottom 256 ≡ 0 → (q : Bool) → is_two_pin (family top bottom) ≡ q → start_refused top bottom ≡ pick q 0 7
  unfolding start_refused
  start_number z q e = ap₂ (λ (k : ℕ) (b : Bool). first_refusal k (pick b 0 7)) z (sym (two_family top bottom) ∙ e)

  -- rows that it refuses
  pub rows_not_taken : (e : Refusal) → number e ≡ rows_refused top bottom 256 → Err e ≡ two_pin_facts top bottom
  unfolding two_pin_facts start_refused
  rows_not_taken e h =
      refused_is (start_refused top bottom) (accepted_facts top bottom) e
      (h ∙ sym (first_here (rows_refused top bottom 256) (pick (pins_within top bottom 2) 0 7) (λ z. number_nonzero e (h ∙ z))))

  module _ (f : NetFacts) (told : Ok f ≡ facts_check top bottom 256) where
    -- those of two-pin nets
    pub pairs_taken : f.size.family ≡ TwoPin → Ok f ≡ two_pin_facts top bottom
    unfolding two_pin_facts
    pairs_taken e =
        let (z, i) = told_facts top bottom 256 (Ok f) f told refl in
        accepted_is (start_refused top bottom) (accepted_facts top bottom) f
        (start_number z true (ap (λ (g : NetFacts). is_two_pin g.size.family) (sym i) ∙ ap is_two_pin e)) i

    -- those of another family
    pub larger_not_taken : (f.size.family ≡ ThreePin) ⊎ (f.size.family ≡ ManyPin) → Err SinglePin ≡ two_pin_facts top bottom
    unfolding two_pin_facts
    larger_not_taken e =
        let (z, i) = told_facts top bottom 256 (Ok f) f told refl in
        refused_is (start_refused top bottom) (accepted_facts top bottom) SinglePin
        (sym (start_number z false (ap (λ (g : NetFacts). is_two_pin g.size.family) (sym i) ∙ ⊎_elim (ap is_two_pin) (ap is_two_pin) e)))

-- THE CHANNEL WITHOUT COLUMNS

-- it has no pins
empty_pins : (v : ℕ) → pins [] [] v ≡ 0
unfolding pins times
empty_pins v = refl

empty_accepted : rows_refused [] [] 256 ≡ 0
empty_accepted =
    fit_accepted [] []
    (record { same = refl; small = λ v h. empty_pins v; lone = λ v h e. let u : ⊥ = omega (arith, empty_pins v) in u }) (omega arith)

empty_two : family [] [] ≡ TwoPin
empty_two = two_pin_lem [] [] (λ v h. omega (arith, empty_pins v))

empty_density : density [] [] ≡ 0
unfolding density largest
empty_density = refl

empty_first : zero_table ≡ table (first_column [] [])
unfolding zero_table table from first_column first_to
empty_first = refl

empty_last : zero_table ≡ table (last_column [] [])
unfolding zero_table table from last_column last_to
empty_last = refl

-- A STATE as the code makes it of rows, tables and tracks: what it stands for
state_stands : (top bottom firsts lasts : List ℕ) (t : ℕ) {up lo a f low high number s : List ℕ} → rows_refused top bottom 256 ≡ 0 → family top bottom ≡ TwoPin
    → t ≡ density top bottom → firsts ≡ table (first_column top bottom) → lasts ≡ table (last_column top bottom)
    → up ≡ padded top → lo ≡ padded bottom → Begun t a f low high number s
    → Stands top bottom t 0 (state_of (length top) t 0 up lo firsts lasts a f low high number s)
state_stands top bottom firsts lasts t ok two e f l u v b = record {
  columns = refl;
  tracks = refl;
  drawn = refl;
  arrays = standing_begins ok two (omega arith) (omega (arith, density_small top bottom)) u v f l b;
}

-- by the number of a refusal, the channel without columns
stands_refused : (top bottom : List ℕ) (t n : ℕ) (x : State) → n ≢ 0 → Stands [] [] 0 0 x
    → Stands (if_accepted n top []) (if_accepted n bottom []) (if_accepted n t 0) 0 x
stands_refused top bottom t zero x h s = absurd (h refl)
stands_refused top bottom t (suc n) x h s = s

-- and without one the channel given
stands_accepted : (top bottom : List ℕ) (t n : ℕ) (x : State) → n ≡ 0 → Stands top bottom t 0 x
    → Stands (if_accepted n top []) (if_accepted n bottom []) (if_accepted n t 0) 0 x
stands_accepted top bottom t zero x e s = s
stands_accepted top bottom t (suc n) x e s = absurd (omega arith)

-- the tracks are those that the answer states
tracks_as : (top bottom : List ℕ) (x : State)
    → (let n = start_refused top bottom in Stands (if_accepted n top []) (if_accepted n bottom []) (if_accepted n (density top bottom) 0) 0 x)
    → Starts top bottom x
unfolding started
tracks_as top bottom x s =
    subst (λ (t : ℕ). let n = start_refused top bottom in Stands (if_accepted n top []) (if_accepted n bottom []) t 0 x) (sym (tracks_of_figures (start_refused top bottom) _)) s
  where
    tracks_of_figures : (n l : ℕ) → (start_figures (answer_of n (record { tracks = density top bottom; length = l }))).tracks ≡ if_accepted n (density top bottom) 0
    tracks_of_figures zero l = refl
    tracks_of_figures (suc n) l = refl

-- THE CALL, r the facts of the rows or their refusal
module _ (top bottom : List ℕ) (r : Result NetFacts Refusal) (answer : r ≡ two_pin_facts top bottom) where
  -- they are taken
  taken : (f : NetFacts) → r ≡ Ok f → (start_refused top bottom ≡ 0) × (f ≡ accepted_facts top bottom)
  unfolding two_pin_facts
  taken f e = accepted_by (start_refused top bottom) (accepted_facts top bottom) f (sym e ∙ answer)

  -- they are not
  not_taken : (e : Refusal) → r ≡ Err e → number e ≡ start_refused top bottom
  unfolding two_pin_facts
  not_taken e h = refused_by (start_refused top bottom) (accepted_facts top bottom) e (start_within top bottom) (sym h ∙ answer)

  -- so the call's answer
  pub start_passes : (e : Refusal) → r ≡ Err e → Err e ≡ started top bottom
  unfolding started
  start_passes e h = refused_is (start_refused top bottom) _ e (not_taken e h)

  starts_with : {t m : ℕ} → start_refused top bottom ≡ 0 → t ≡ density top bottom → m ≡ formula_length (length top) (density top bottom)
      → Ok (record { tracks = t; length = m }) ≡ started top bottom
  unfolding started
  starts_with z e f = accepted_is (start_refused top bottom) _ _ z (ap₂ (λ (a b : ℕ). let y : Started = record { tracks = a; length = b } in y) e f)

  -- WHAT THE CODE GOES ON WITH, n columns, t tracks and the tables fs and ls: those of the channel without columns, or of the one given
  pub data Chosen (n t : ℕ) (fs ls : List ℕ) : Type 0 where
    without : (e : Refusal) → r ≡ Err e → n ≡ 0 → t ≡ 0 → fs ≡ zero_table → ls ≡ zero_table → Chosen n t fs ls
    given : (f : NetFacts) → r ≡ Ok f → n ≡ length top → t ≡ f.size.density → fs ≡ f.first → ls ≡ f.last → Chosen n t fs ls

  module _ {n t : ℕ} {fs ls : List ℕ} where
    -- the rows have room, and the tracks
    pub chosen_room : Chosen n t fs ls → (n ≤ length top) × (n ≤ length bottom) × (n ≤ 256) × (t ≤ 511)
    chosen_room (without e h a b g i) = (omega arith, omega arith, omega arith, omega arith)
    chosen_room (given f h a b g i) =
        let (z, k) = taken f h in
        let ok = start_accepted top bottom z in
        let short = rows_short top bottom 256 ok in
        let same = (rows_fit top bottom ok).same in
        let d = ap (λ (f : NetFacts). f.size.density) k in
        (omega arith, omega arith, omega arith, omega (arith, b, d, density_small top bottom))

    -- what the call answers
    pub chosen_answers : Chosen n t fs ls → (f : NetFacts) → r ≡ Ok f → (m : ℕ) → (n ≤ 256 → t ≤ 511 → m ≡ formula_length n t)
        → Ok (record { tracks = t; length = m }) ≡ started top bottom
    chosen_answers (without e h a b g i) f k m q = absurd (cc)
    chosen_answers (given f h a b g i) _ _ m q =
        let (z, k) = taken f h in
        let dense : t ≡ density top bottom = b ∙ ap (λ (f : NetFacts). f.size.density) k in
        let (_, _, short, few) = chosen_room (given f h a b g i) in
        let size : m ≡ formula_length (length top) (density top bottom) = q short few ∙ ap₂ formula_length a dense in
        starts_with z dense size

    -- and leaves
    pub chosen_begins : Chosen n t fs ls → {up lo a f low high many s : List ℕ}
        → up ≡ padded (take n top) → lo ≡ padded (take n bottom) → Begun t a f low high many s
        → Starts top bottom (state_of n t 0 up lo fs ls a f low high many s)
    unfolding started
    chosen_begins (without e h e₁ e₂ g i) {up} {lo} {a} {f} {low} {high} {many} {s} u v b =
        tracks_as top bottom _
        (stands_refused top bottom (density top bottom) (start_refused top bottom) _ (λ z. number_nonzero e (not_taken e h ∙ z))
        (subst (λ (j : ℕ). Stands [] [] 0 0 (state_of n j 0 up lo fs ls a f low high many s)) (sym e₂)
        (subst (λ (j : ℕ). Stands [] [] 0 0 (state_of j 0 0 up lo fs ls a f low high many s)) (sym e₁)
        (state_stands [] [] fs ls 0 empty_accepted empty_two (sym empty_density) (g ∙ empty_first) (i ∙ empty_last)
        (u ∙ ap (λ (j : ℕ). padded (take j top)) e₁) (v ∙ ap (λ (j : ℕ). padded (take j bottom)) e₁)
        (subst (λ (j : ℕ). Begun j a f low high many s) e₂ b)))))
    chosen_begins (given x h e₁ e₂ g i) {up} {lo} {a} {f} {low} {high} {many} {s} u v b =
        let (z, k) = taken x h in
        let ok = start_accepted top bottom z in
        let short = rows_short top bottom 256 ok in
        let same = (rows_fit top bottom ok).same in
        let dense : t ≡ density top bottom = e₂ ∙ ap (λ (f : NetFacts). f.size.density) k in
        tracks_as top bottom _
        (stands_accepted top bottom (density top bottom) (start_refused top bottom) _ z
        (subst (λ (j : ℕ). Stands top bottom j 0 (state_of n t 0 up lo fs ls a f low high many s)) dense
        (subst (Stands top bottom t 0) (ap (λ (j : ℕ). state_of j t 0 up lo fs ls a f low high many s) (sym e₁))
        (state_stands top bottom fs ls t ok (start_pairs top bottom z) dense
        (g ∙ ap (λ (f : NetFacts). f.first) k) (i ∙ ap (λ (f : NetFacts). f.last) k)
        (u ∙ ap padded (take_all n top (omega arith))) (v ∙ ap padded (take_all n bottom (omega arith))) b))))
