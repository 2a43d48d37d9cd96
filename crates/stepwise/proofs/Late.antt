-- A late net in a state that stands for a channel: copies of its rows, the net placed in them, and the state with them. Assumes nothing.
use Prim.Native.Nat.{ℕ, zero, suc, ◌≤◌, ◌<◌, min}
use mathlib.Core.Path.{◌≡◌, refl, sym, ap, ap₂, subst, ◌∙◌}
use mathlib.Core.Bool.{Bool, true, false}
use mathlib.Core.Logic.{◌≢◌}
use mathlib.Core.List.{List, ◌++◌}
use native.Mathlib.Omega.{arith}
use lib.Dec.{ltb}
use lib.ListN.{length, take, drop}
use lib.Seq.{take_at}
use Rattle.std.specs.Prelude.{Ok}
use Rattle.grid.specs.declared.NetFacts.{NetFacts}
use Rattle.grid.specs.Channel.{pick, density, rows_refused}
use Rattle.grid.specs.Places.{padded}
use Rattle.grid.specs.Answers.{refused_within, accepted_facts, facts_check}
use Rattle.grid.specs.Refusals.{first_refusal, if_accepted}
use Rattle.grid.proofs.Answers.{first_here, told_facts, accepted_new, accepted_old}
use Rattle.grid.proofs.Places.{padded-row, padded_other, part_length}
use Rattle.grid.proofs.Rows.{rows_fit, rows_short}
use Rattle.grid.proofs.Tests.{lt-ltb, le-ltb}
use Rattle.placing.specs.Placing.{place_refused, with_pins, placed_top, placed_bottom}
use Rattle.placing.proofs.Pins.{both_length}
use Rattle.placing.proofs.Placed.{placed_within, placed_length_top, placed_length_bottom, placed_before_top, placed_before_bottom}
use Rattle.placing.proofs.Placed.{placed_accepted, placed_pairs}
use Rattle.router.proofs.Laws.Standing.{standing_late}
use Rattle.stepwise.specs.Sweep.{state_of, Stands, late_refused, PlacesLate}

-- THE NET PLACED IN COPIES: upper and lower are the copies of the rows, k is the answer of the placing, xs' and ys' are their first n places after it
pub record Copied (columns drawn net column1 side1 column2 side2 n k : ℕ) (upper lower xs' ys' : List ℕ) : Type 0 where
  pub limit : n ≡ min columns 256
  pub sized : (length upper ≡ 256) × (length lower ≡ 256)
  pub number : k ≡ place_refused (take n upper) (take n lower) drawn net column1 side1 column2 side2
  pub top : xs' ≡ if_accepted k (placed_top (take n upper) net column1 side1 column2 side2) (take n upper)
  pub bottom : ys' ≡ if_accepted k (placed_bottom (take n lower) net column1 side1 column2 side2) (take n lower)

-- a row is as long after the placing
placed_long : (own net column1 side1 column2 side2 k : ℕ) (row : List ℕ)
    → length (if_accepted k (with_pins own row net column1 side1 column2 side2) row) ≡ length row
placed_long own net column1 side1 column2 side2 zero row = both_length own row net column1 side1 column2 side2
placed_long own net column1 side1 column2 side2 (suc k) row = refl

module _ {columns drawn net column1 side1 column2 side2 n k : ℕ} {upper lower xs' ys' : List ℕ}
    (f : Copied columns drawn net column1 side1 column2 side2 n k upper lower xs' ys') where
  above_length : length xs' ≡ n
  above_length =
      ap length f.top ∙ placed_long 0 net column1 side1 column2 side2 k (take n upper) ∙ sym (part_length columns n upper f.limit f.sized.0)

  below_length : length ys' ≡ n
  below_length =
      ap length f.bottom ∙ placed_long 1 net column1 side1 column2 side2 k (take n lower) ∙ sym (part_length columns n lower f.limit f.sized.1)

  -- the first n places of each copy
  above_is : take n (xs' ++ drop n upper) ≡ xs'
  above_is = take_at xs' (drop n upper) n above_length

  below_is : take n (ys' ++ drop n lower) ≡ ys'
  below_is = take_at ys' (drop n lower) n below_length

  module _ (tracks : ℕ) (first last : List ℕ) where
    -- what the call promises with the answer r and the arrays up, lo, fs and ls after it
    abbrev pub PlacedFor : (r : ℕ) (up lo fs ls : List ℕ) → Type 0
    PlacedFor r up lo fs ls = (top bottom strands free low high many extended : List ℕ) (t c : ℕ)
        → Stands top bottom t c (state_of columns tracks drawn upper lower first last strands free low high many extended)
        → PlacesLate top bottom t c net column1 side1 column2 side2 r (state_of columns tracks drawn up lo fs ls strands free low high many extended)

    module _ {top bottom strands free low high many extended : List ℕ} {t c : ℕ}
        (S : Stands top bottom t c (state_of columns tracks drawn upper lower first last strands free low high many extended)) where
      -- the copies are the rows in 256 places, and their first n places the rows
      top_long : length top ≤ 256
      top_long = rows_short top bottom 256 S.arrays.accepted

      rows_same : length top ≡ length bottom
      rows_same = (rows_fit top bottom S.arrays.accepted).same

      top_n : n ≡ length top
      top_n = omega (arith, f.limit, S.columns, top_long)

      bottom_n : n ≡ length bottom
      bottom_n = top_n ∙ rows_same

      top_copy : upper ≡ padded top
      top_copy = S.arrays.tops

      bottom_copy : lower ≡ padded bottom
      bottom_copy = S.arrays.bottoms

      top_part : take n upper ≡ top
      top_part = ap (take n) top_copy ∙ padded-row top n top_n

      bottom_part : take n lower ≡ bottom
      bottom_part = ap (take n) bottom_copy ∙ padded-row bottom n bottom_n

      -- the answer of the placing is the channel's
      place-number : k ≡ place_refused top bottom c net column1 side1 column2 side2
      place-number =
          f.number ∙ ap₂ (λ (a b : List ℕ). place_refused a b drawn net column1 side1 column2 side2) top_part bottom_part
          ∙ ap (λ (z : ℕ). place_refused top bottom z net column1 side1 column2 side2) S.drawn

      -- it refuses
      refuses : k ≢ 0 → PlacesLate top bottom t c net column1 side1 column2 side2 k
          (state_of columns tracks drawn upper lower first last strands free low high many extended)
      unfolding late_refused
      refuses h = record {
        answer =
            let d : ℕ = pick (ltb t (density (placed_top top net column1 side1 column2 side2) (placed_bottom bottom net column1 side1 column2 side2))) 23 0 in
            sym (first_here k d h) ∙ ap (λ (z : ℕ). first_refusal z d) place-number;
        stands =
            subst (λ (a : List ℕ). Stands a (if_accepted k (placed_bottom bottom net column1 side1 column2 side2) bottom) t c
            (state_of columns tracks drawn upper lower first last strands free low high many extended)) (sym (accepted_old k _ top h))
            (subst (λ (b : List ℕ). Stands top b t c (state_of columns tracks drawn upper lower first last strands free low high many extended))
            (sym (accepted_old k _ bottom h)) S);
      }

      -- it does not: what it leaves are the rows with the net, which are accepted
      module _ (none : k ≡ 0) where
        abbrev top' : List ℕ
        top' = placed_top top net column1 side1 column2 side2

        abbrev bottom' : List ℕ
        bottom' = placed_bottom bottom net column1 side1 column2 side2

        free_there : place_refused top bottom c net column1 side1 column2 side2 ≡ 0
        free_there = sym place-number ∙ none

        placed_top_lem : xs' ≡ top'
        placed_top_lem = f.top ∙ accepted_new k _ (take n upper) none ∙ ap (λ (a : List ℕ). placed_top a net column1 side1 column2 side2) top_part

        placed_bottom_lem : ys' ≡ bottom'
        placed_bottom_lem = f.bottom ∙ accepted_new k _ (take n lower) none ∙ ap (λ (a : List ℕ). placed_bottom a net column1 side1 column2 side2) bottom_part

        fit_there : rows_refused top' bottom' 256 ≡ 0
        fit_there = placed_accepted top bottom c net column1 side1 column2 side2 S.arrays.accepted S.arrays.pairs free_there

        rows_there : refused_within (take n (xs' ++ drop n upper)) (take n (ys' ++ drop n lower)) 256 ≡ 0
        rows_there = ap₂ (λ (a b : List ℕ). refused_within a b 256) (above_is ∙ placed_top_lem) (below_is ∙ placed_bottom_lem) ∙ fit_there

        -- x are the facts of the nets
        module _ (x : NetFacts) (told : Ok x ≡ facts_check (take n (xs' ++ drop n upper)) (take n (ys' ++ drop n lower)) 256) where
          facts_there : x ≡ accepted_facts top' bottom'
          facts_there =
              (told_facts (take n (xs' ++ drop n upper)) (take n (ys' ++ drop n lower)) 256 (Ok x) x told refl).1
              ∙ ap₂ (λ (a b : List ℕ). accepted_facts a b) (above_is ∙ placed_top_lem) (below_is ∙ placed_bottom_lem)

          abbrev d : ℕ
          d = x.size.density

          density_there : d ≡ density top' bottom'
          density_there = ap (λ (z : NetFacts). z.size.density) facts_there

          late_number : (q : Bool) → ltb tracks d ≡ q → pick q 23 0 ≡ late_refused top bottom t c net column1 side1 column2 side2
          unfolding late_refused
          late_number q e =
              ap (λ (b : Bool). pick {A = ℕ} b 23 0) (sym e ∙ ap₂ ltb S.tracks density_there)
              ∙ ap (λ (z : ℕ). first_refusal z (pick (ltb t (density top' bottom')) 23 0)) (sym free_there)

          -- too dense
          dense : tracks < d → PlacesLate top bottom t c net column1 side1 column2 side2 23
              (state_of columns tracks drawn upper lower first last strands free low high many extended)
          dense h = record { answer = late_number true (lt-ltb tracks d h); stands = S }

          -- not too dense: the state with the rows and the tables stands for the channel with the net
          late_stands : d ≤ tracks → Stands top' bottom' t c
              (state_of columns tracks drawn (xs' ++ drop n upper) (ys' ++ drop n lower) x.first x.last strands free low high many extended)
          late_stands h =
              let ok = S.arrays.accepted in
              let two = S.arrays.pairs in
              let within = placed_within top bottom c net column1 side1 column2 side2 ok two free_there in
              let as_long = placed_length_top top bottom c net column1 side1 column2 side2 ok two free_there in
              let as-long-below = placed_length_bottom top bottom c net column1 side1 column2 side2 ok two free_there in
              record {
                columns = S.columns ∙ sym as_long;
                tracks = S.tracks;
                drawn = S.drawn;
                arrays =
                    standing_late top' bottom' (xs' ++ drop n upper) (ys' ++ drop n lower) x.first x.last S.arrays (omega (arith, within))
                    (omega (arith, within, as_long)) (sym (placed_before_top top bottom c net column1 side1 column2 side2 ok two free_there))
                    (sym (placed_before_bottom top bottom c net column1 side1 column2 side2 ok two free_there)) fit_there
                    (placed_pairs top bottom c net column1 side1 column2 side2 ok two free_there) (omega (arith, h, density_there, S.tracks))
                    (ap₂ (λ (a b : List ℕ). a ++ drop n b) placed_top_lem top_copy ∙ padded_other top top' n top_n as_long)
                    (ap₂ (λ (a b : List ℕ). a ++ drop n b) placed_bottom_lem bottom_copy ∙ padded_other bottom bottom' n bottom_n as-long-below)
                    (ap (λ (z : NetFacts). z.first) facts_there)
                    (ap (λ (z : NetFacts). z.last) facts_there);
              }

          late_placed : d ≤ tracks → PlacesLate top bottom t c net column1 side1 column2 side2 0
              (state_of columns tracks drawn (xs' ++ drop n upper) (ys' ++ drop n lower) x.first x.last strands free low high many extended)
          late_placed h = record { answer = late_number false (le-ltb tracks d h); stands = late_stands h }

    -- THE WAYS OUT OF THE CALL, r being the number of its answer: the placing refuses
    pub place-refused : (r : ℕ) → r ≡ k → k ≢ 0 → PlacedFor r upper lower first last
    place-refused r e h = subst (λ (j : ℕ). PlacedFor j upper lower first last) (sym e) (λ top bottom strands free low high many extended t c S. refuses S h)

    module _ (none : k ≡ 0) where
      -- the row check does, which it does in no state that stands for a channel
      pub place_fails : (r : ℕ) → r ≡ refused_within (take n (xs' ++ drop n upper)) (take n (ys' ++ drop n lower)) 256 → r ≢ 0
          → (j : ℕ) (above below starts ends : List ℕ) → PlacedFor j above below starts ends
      place_fails r e h j above below starts ends top bottom strands free low high many extended t c S = absurd (h (e ∙ rows_there S none))

      module _ (x : NetFacts) (told : Ok x ≡ facts_check (take n (xs' ++ drop n upper)) (take n (ys' ++ drop n lower)) 256) where
        -- the tracks are too few
        pub place_dense : tracks < x.size.density → PlacedFor 23 upper lower first last
        place_dense h top bottom strands free low high many extended t c S = dense S none x told h

        -- the net is placed
        pub place_done : x.size.density ≤ tracks → PlacedFor 0 (xs' ++ drop n upper) (ys' ++ drop n lower) x.first x.last
        place_done h top bottom strands free low high many extended t c S = late_placed S none x told h
