-- The laws of the one spelling. The rows are accepted: no number of document 01's table applies to them. Assumes nothing.
use Prim.Native.Nat.{ℕ, ◌≤◌}
use mathlib.Core.Path.{◌≡◌, refl, sym, ap, ap₂, ◌∙◌}
use mathlib.Core.Logic.{◌⊎◌, inl, inr, ◌↔◌}
use mathlib.Core.Bool.{not, ◌&&◌}
use mathlib.Core.List.{List, ◌++◌, map, map-map, map-id}
use native.Mathlib.Omega.{arith}
use lib.Dec.{eqb, ltb}
use lib.Seq.{take_at, drop_at}
use lib.ListN.{length, get_or, take, drop, length-map, length-append}
use Rattle.grid.specs.declared.Family.TheVariants.{TwoPin, ThreePin, ManyPin}
use Rattle.grid.specs.Channel.{pick, count, pins, pins_within, first_two_to, density, family, tracks_of, tracks, rows_refused}
use Rattle.grid.proofs.Rows.{RowsFit, rows_fit, rows_short}
use Rattle.std.specs.Prelude.{Ok}
use Rattle.record.specs.Record.{record_read, top_row, bottom_row, laid, record_of}
use Rattle.record.proofs.Words.{Small, record_read_lem, record_top, record_bottom}
use Rattle.canonical.specs.Renaming.{new_number, new_top, new_bottom, IsNet, Renames}
use Rattle.canonical.specs.Canonical.{canonical, record_size, bytes_after}
use Rattle.canonical.proofs.Order.{Terminal, top_terminal, bottom_terminal, pin_at_lem, renamed_at}
use Rattle.canonical.proofs.NewNumbers.{number_none, number_net, number_le, number_one, number_renames, net_numbered, net_numbered_lem}
use Rattle.canonical.proofs.Renamed.{map_same, same_top, same_bottom, renamed_accepted}
use Rattle.canonical.proofs.Answers.{canonical-length, bytes_new}
use Rattle.canonical.proofs.Figures.{density_grows, larger_le, first_two_to_lem}

-- THE BYTES READ BACK

module _ (top bottom : List ℕ) (fit : RowsFit top bottom) where
  row_small : (l : List ℕ) → Small (map (new_number top bottom) l)
  row_small l i =
      omega (arith, renamed_at (new_number top bottom) (number_none top bottom fit) l i, number_le top bottom fit (get_or l i 0))

  new_same : length (new_top top bottom) ≡ length (new_bottom top bottom)
  new_same = length-map top (new_number top bottom) ∙ fit.same ∙ sym (length-map bottom (new_number top bottom))

-- "Reading the bytes back gives the renamed channel"
pub reads_back_lem : (top bottom : List ℕ) → rows_refused top bottom 256 ≡ 0
    → (record_read (canonical top bottom) ≡ Ok (length top))
    × (top_row (canonical top bottom) ≡ new_top top bottom)
    × (bottom_row (canonical top bottom) ≡ new_bottom top bottom)
unfolding canonical
reads_back_lem top bottom e =
    let fit = rows_fit top bottom e in
    let m = new_same top bottom fit in
    let k : length (new_top top bottom) ≤ 256 = omega (arith, length-map top (new_number top bottom), rows_short top bottom 256 e) in
    let a = row_small top bottom fit top in
    let b = row_small top bottom fit bottom in (
      record_read_lem (new_top top bottom) (new_bottom top bottom) m k a b ∙ ap Ok (length-map top (new_number top bottom)),
      record_top (new_top top bottom) (new_bottom top bottom) m k a b,
      record_bottom (new_top top bottom) (new_bottom top bottom) m k a b,
    )

-- EQUAL BYTES

-- a renaming, with the rows written as mapped
mapped : {f : ℕ → ℕ} {top bottom top' bottom' : List ℕ} → Renames f top bottom top' bottom' → Renames f top bottom (map f top) (map f bottom)
mapped r = record { none = r.none; net = r.net; one = r.one; tops = refl; bottoms = refl }

-- a renamed channel has the same bytes
renamed_bytes : (top bottom top' bottom' : List ℕ) → rows_refused top bottom 256 ≡ 0 → (f : ℕ → ℕ) → Renames f top bottom top' bottom'
    → canonical top bottom ≡ canonical top' bottom'
unfolding canonical
renamed_bytes top bottom top' bottom' e f r =
    let fit = rows_fit top bottom e in
    sym (ap₂ canonical r.tops r.bottoms ∙ ap₂ record_of (same_top top bottom fit f (mapped r)) (same_bottom top bottom fit f (mapped r)))

module _ (top bottom top' bottom' : List ℕ) (fit : RowsFit top bottom) (fit' : RowsFit top' bottom')
    (tops : new_top top bottom ≡ new_top top' bottom') (bottoms : new_bottom top bottom ≡ new_bottom top' bottom') where
  -- the net of the other channel with the same new number
  pub turn : ℕ → ℕ
  turn v = net_numbered top' bottom' fit' (new_number top bottom v)

  -- it turns each row into the other channel's
  turn_row : (l l' : List ℕ) → map (new_number top bottom) l ≡ map (new_number top' bottom') l' → ((i : ℕ) → Terminal top' bottom' fit' (get_or l' i 0)) → l' ≡ map turn l
  unfolding turn
  turn_row l l' e t =
      sym
      (sym (map-map (net_numbered top' bottom' fit') (new_number top bottom) l)
      ∙ ap (map (net_numbered top' bottom' fit')) e
      ∙ map-map (net_numbered top' bottom' fit') (new_number top' bottom') l'
      ∙ map_same (λ v. net_numbered top' bottom' fit' (new_number top' bottom' v)) (λ v. v) l' (λ i. net_numbered_lem top' bottom' fit' (get_or l' i 0) (t i))
      ∙ map-id l')

  -- at each place the two channels have the same new number
  same_at : (l l' : List ℕ) → map (new_number top bottom) l ≡ map (new_number top' bottom') l' → (i : ℕ)
      → new_number top bottom (get_or l i 0) ≡ new_number top' bottom' (get_or l' i 0)
  same_at l l' e i =
      sym (renamed_at (new_number top bottom) (number_none top bottom fit) l i)
      ∙ ap (λ z. get_or z i 0) e
      ∙ renamed_at (new_number top' bottom') (number_none top' bottom' fit') l' i

  -- a net keeps its new number
  turn_at : (v : ℕ) → IsNet top bottom v → new_number top' bottom' (turn v) ≡ new_number top bottom v
  unfolding turn
  turn_at v net = let (i, l, t) = pin_at_lem top bottom fit.same v net.pinned in go i t
    where
      by : (w : ℕ) → Terminal top' bottom' fit' w → new_number top bottom v ≡ new_number top' bottom' w
          → new_number top' bottom' (net_numbered top' bottom' fit' (new_number top bottom v)) ≡ new_number top bottom v
      by w t e = ap (new_number top' bottom') (ap (net_numbered top' bottom' fit') e ∙ net_numbered_lem top' bottom' fit' w t) ∙ sym e

      go : (i : ℕ) → (get_or top i 0 ≡ v) ⊎ (get_or bottom i 0 ≡ v) → new_number top' bottom' (net_numbered top' bottom' fit' (new_number top bottom v)) ≡ new_number top bottom v
      go i (inl e) = by (get_or top' i 0) (top_terminal top' bottom' fit' i) (ap (new_number top bottom) (sym e) ∙ same_at top top' tops i)
      go i (inr e) = by (get_or bottom' i 0) (bottom_terminal top' bottom' fit' i) (ap (new_number top bottom) (sym e) ∙ same_at bottom bottom' bottoms i)

  turn_renames : Renames turn top bottom top' bottom'
  unfolding turn
  turn_renames =
      record {
        none = none;
        net = λ v net e. number_net top bottom fit v net (sym (turn_at v net) ∙ ap (new_number top' bottom') e ∙ number_none top' bottom' fit');
        one = λ u v p q e.
            number_one top bottom fit u v (inr p) (inr q) (sym (turn_at u p) ∙ ap (new_number top' bottom') e ∙ turn_at v q);
        tops = turn_row top top' tops (top_terminal top' bottom' fit');
        bottoms = turn_row bottom bottom' bottoms (bottom_terminal top' bottom' fit');
      }
    where
      none : turn 0 ≡ 0
      none = ap (net_numbered top' bottom' fit') (number_none top bottom fit)

-- "Two channels get equal bytes precisely when a one-to-one renaming of nets turns one into the other"
pub equal_bytes_lem : (top bottom top' bottom' : List ℕ) → rows_refused top bottom 256 ≡ 0 → rows_refused top' bottom' 256 ≡ 0
    → (canonical top bottom ≡ canonical top' bottom') ↔ ((f : ℕ → ℕ) × Renames f top bottom top' bottom')
equal_bytes_lem top bottom top' bottom' e e' = (there, λ t. renamed_bytes top bottom top' bottom' e t.0 t.1)
  where
    there : canonical top bottom ≡ canonical top' bottom' → (f : ℕ → ℕ) × Renames f top bottom top' bottom'
    there b =
        let (n, t, u) = reads_back_lem top bottom e in
        let (n', t', u') = reads_back_lem top' bottom' e' in
        let tops = sym t ∙ ap top_row b ∙ t' in
        let bottoms = sym u ∙ ap bottom_row b ∙ u' in (
          turn top bottom top' bottom' (rows_fit top bottom e) (rows_fit top' bottom' e') tops bottoms,
          turn_renames top bottom top' bottom' (rows_fit top bottom e) (rows_fit top' bottom' e') tops bottoms,
        )

-- WRITTEN AGAIN

-- the renamed channel is accepted
pub renamed_fit : (top bottom : List ℕ) → rows_refused top bottom 256 ≡ 0 → rows_refused (new_top top bottom) (new_bottom top bottom) 256 ≡ 0
renamed_fit top bottom e =
    let fit = rows_fit top bottom e in
    renamed_accepted top bottom fit (new_number top bottom) (number_renames top bottom fit) (rows_short top bottom 256 e) (number_le top bottom fit)

-- "and writing that again changes nothing"
pub written_again : (top bottom : List ℕ) → rows_refused top bottom 256 ≡ 0 → canonical (new_top top bottom) (new_bottom top bottom) ≡ canonical top bottom
written_again top bottom e =
    sym (renamed_bytes top bottom (new_top top bottom) (new_bottom top bottom) e (new_number top bottom) (number_renames top bottom (rows_fit top bottom e)))

-- THE SLICE

-- the record stands in the first 6 + 4n bytes of a slice that is long enough
pub bytes_in_front : (top bottom old : List ℕ) → rows_refused top bottom 256 ≡ 0 → record_size top bottom ≤ length old
    → take (record_size top bottom) (bytes_after top bottom old) ≡ canonical top bottom
bytes_in_front top bottom old e h =
    ap (take (record_size top bottom)) (bytes_new top bottom old e h)
    ∙ take_at (canonical top bottom) (drop (length (canonical top bottom)) old) (record_size top bottom) (canonical-length top bottom (rows_fit top bottom e).same)

-- "and writing that again changes nothing": not a byte of the slice
pub slice_again : (top bottom old : List ℕ) → rows_refused top bottom 256 ≡ 0 → record_size top bottom ≤ length old
    → bytes_after (new_top top bottom) (new_bottom top bottom) (bytes_after top bottom old) ≡ bytes_after top bottom old
slice_again top bottom old e h =
    let now = bytes_new top bottom old e h in
    let long = canonical-length top bottom (rows_fit top bottom e).same in
    ap (bytes_after (new_top top bottom) (new_bottom top bottom)) now
    ∙ bytes_new (new_top top bottom) (new_bottom top bottom) (laid (canonical top bottom) old) (renamed_fit top bottom e)
    (omega (arith, length-map top (new_number top bottom), long, length-append (canonical top bottom) (drop (length (canonical top bottom)) old)))
    ∙ ap (λ z. laid z (laid (canonical top bottom) old)) (written_again top bottom e)
    ∙ ap (λ z. canonical top bottom ++ z) (drop_at (canonical top bottom) (drop (length (canonical top bottom)) old) (length (canonical top bottom)) refl)
    ∙ sym now

-- DENSITY, FAMILY AND TRACKS

-- what the one channel has, the other has no less of
record NoMore (top bottom top' bottom' : List ℕ) : Type 0 where
  pub dense : density top bottom ≤ density top' bottom'
  pub larger : (k : ℕ) → count (λ v. ltb k (pins top bottom v)) 256 ≤ count (λ v. ltb k (pins top' bottom' v)) 256
  pub first_two : first_two_to top' bottom' (length top') ≡ first_two_to top bottom (length top)

no_more : (top bottom top' bottom' : List ℕ) → rows_refused top bottom 256 ≡ 0 → rows_refused top' bottom' 256 ≡ 0 → (f : ℕ → ℕ)
    → Renames f top bottom top' bottom' → NoMore top bottom top' bottom'
no_more top bottom top' bottom' e e' f r =
    let fit = rows_fit top bottom e in
    let fit' = rows_fit (map f top) (map f bottom) (sym (ap₂ (λ a b. rows_refused a b 256) r.tops r.bottoms) ∙ e') in
    record {
      dense = omega (arith, density_grows top bottom fit f (mapped r) fit', ap₂ density r.tops r.bottoms);
      larger = λ k. omega (arith, larger_le top bottom fit f (mapped r) fit' k, ap₂ (λ a b. count (λ v. ltb k (pins a b v)) 256) r.tops r.bottoms);
      first_two =
          ap₂ (λ a b. first_two_to a b (length a)) r.tops r.bottoms
          ∙ ap (first_two_to (map f top) (map f bottom)) (length-map top f)
          ∙ first_two_to_lem top bottom fit f (mapped r) fit' (length top);
    }

-- a one-to-one renaming keeps the density, the family and the tracks
same_figures : (top bottom top' bottom' : List ℕ) → rows_refused top bottom 256 ≡ 0 → rows_refused top' bottom' 256 ≡ 0 → (f : ℕ → ℕ)
    → Renames f top bottom top' bottom' → (density top' bottom' ≡ density top bottom) × (tracks top' bottom' ≡ tracks top bottom)
unfolding tracks family pins_within
same_figures top bottom top' bottom' e e' f r =
    let back = (equal_bytes_lem top' bottom' top bottom e' e).0 (sym (renamed_bytes top bottom top' bottom' e f r)) in
    let there = no_more top bottom top' bottom' e e' f r in
    let here = no_more top' bottom' top bottom e' e back.0 back.1 in
    let d : density top' bottom' ≡ density top bottom = omega (arith, there.dense, here.dense) in
    let two : count (λ v. ltb 2 (pins top' bottom' v)) 256 ≡ count (λ v. ltb 2 (pins top bottom v)) 256 = omega (arith, there.larger 2, here.larger 2) in
    let three : count (λ v. ltb 3 (pins top' bottom' v)) 256 ≡ count (λ v. ltb 3 (pins top bottom v)) 256 = omega (arith, there.larger 3, here.larger 3) in
    (d, ap₂ tracks_of (ap₂ (λ k l. pick (eqb k 0) TwoPin (pick l ThreePin ManyPin)) two (ap₂ (λ k b. eqb k 0 && not b) three there.first_two)) d)

-- so the renamed channel has them
pub renamed_figures : (top bottom : List ℕ) → rows_refused top bottom 256 ≡ 0
    → (density (new_top top bottom) (new_bottom top bottom) ≡ density top bottom) × (tracks (new_top top bottom) (new_bottom top bottom) ≡ tracks top bottom)
renamed_figures top bottom e =
    same_figures top bottom (new_top top bottom) (new_bottom top bottom) e (renamed_fit top bottom e) (new_number top bottom) (number_renames top bottom (rows_fit top bottom e))
