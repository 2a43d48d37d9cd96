-- The channel after changes: one of two_pin nets stays one, and as long as it was; the pins of a net that was added or dropped, and of the others; the board
-- that stands for it. Assumes nothing.
use Prim.Native.Nat.{ℕ, ◌≤◌}
use mathlib.Core.Path.{◌≡◌, refl, sym, ap, ap₂, subst, ◌∙◌}
use mathlib.Core.Logic.{◌≢◌, ◌⊎◌, inl, inr, ⊎_elim}
use mathlib.Core.Bool.{Bool, true, false, not, ◌&&◌, ◌||◌}
use mathlib.Core.List.{List, [], ◌∷◌}
use native.Mathlib.Omega.{arith}
use native.Mathlib.Decide.{ℕ_discrete}
use lib.Dec.{eqb, ltb}
use lib.ListN.{length, length-replicate}
use Rattle.grid.specs.declared.Family.TheVariants.{TwoPin}
use Rattle.grid.specs.Channel.{pick, pins, family, rows_refused}
use Rattle.grid.specs.Refusals.{if_accepted}
use Rattle.grid.proofs.Tests.{ltb-false, eqb-false, ne_eqb, le-ltb, or_false, pick_past}
use Rattle.grid.proofs.Rows.{RowsFit, rows_fit, rows_short, two_fit}
use Rattle.grid.proofs.Taken.{fit_accepted, two_pin_lem}
use Rattle.grid.proofs.Answers.{accepted_new, accepted_old}
use Rattle.placing.specs.Placing.{is_free, place_refused}
use Rattle.placing.proofs.Terminals.{Accepted, accepted_by}
use Rattle.placing.proofs.Pins.{both_length}
use Rattle.placing.proofs.Placed.{placed_pins, placed_others, placed_accepted, placed_pairs}
use Rattle.board.specs.Changes.{Channel, empty_channel, Change, Add, Drop, drop_refused, change_refused, changed, after_change, after_changes}
use Rattle.board.specs.Board.{Board, StandsFor, board_refused, start_channel, LeadsTo, stays, goes}
use Rattle.board.proofs.Without.{without_length, pins_others, pins_gone}
use Rattle.board.proofs.With.{without_top, without_bottom}
use Rattle.board.proofs.Stored.{empty_pins}

-- A CHANNEL of two_pin nets that the router takes
pub record TwoPins (ch : Channel) : Type 0 where
  pub accepted : rows_refused ch.top ch.bottom 256 ≡ 0
  pub pairs : family ch.top ch.bottom ≡ TwoPin

-- rows whose nets fit and have at most two pins are one
two_pins_by : (ch : Channel) → RowsFit ch.top ch.bottom → length ch.top ≤ 256 → ((v : ℕ) → 1 ≤ v → pins ch.top ch.bottom v ≤ 2) → TwoPins ch
two_pins_by ch fit short two = record { accepted = fit_accepted ch.top ch.bottom fit short; pairs = two_pin_lem ch.top ch.bottom two }

-- THE START

module _ (n : ℕ) where
  -- at most 256 columns
  start_most : if_accepted (board_refused n) n 0 ≤ 256
  start_most = go (ltb 256 n) refl
    where
      go : (q : Bool) → ltb 256 n ≡ q → if_accepted (pick q 5 0) n 0 ≤ 256
      go true e = omega arith
      go false e = ltb-false 256 n e

  pub start_columns : length (start_channel n).top ≡ if_accepted (board_refused n) n 0
  unfolding empty_channel
  start_columns = length-replicate {A = ℕ} (if_accepted (board_refused n) n 0) 0

  pub start_same : length (start_channel n).top ≡ length (start_channel n).bottom
  unfolding empty_channel
  start_same = refl

  pub start_short : length (start_channel n).top ≤ 256
  start_short = omega (arith, start_columns, start_most)

  pub start_pins : (v : ℕ) → v ≢ 0 → pins (start_channel n).top (start_channel n).bottom v ≡ 0
  unfolding empty_channel
  start_pins = empty_pins (if_accepted (board_refused n) n 0)

  pub start_two_pins : TwoPins (start_channel n)
  start_two_pins =
      two_pins_by (start_channel n)
      (record { same = start_same; small = λ v h. start_pins v (omega arith); lone = λ v h. omega (arith, start_pins v (omega arith)) }) start_short
      (λ v h. omega (arith, start_pins v (omega arith)))

-- A CHANGE

module _ (ch : Channel) (change : Change) where
  made : change_refused ch change ≡ 0 → after_change ch change ≡ changed ch change
  unfolding after_change
  made = accepted_new (change_refused ch change) (changed ch change) ch

  -- a refused one alters nothing
  pub change_refused_lem : change_refused ch change ≢ 0 → after_change ch change ≡ ch
  unfolding after_change
  change_refused_lem = accepted_old (change_refused ch change) (changed ch change) ch

  -- what holds of the channel, and of the changed one where the change is not refused, holds after it
  either_way : (P : Channel → Type 0) → P ch → (change_refused ch change ≡ 0 → P (changed ch change)) → P (after_change ch change)
  either_way P p f = go (ℕ_discrete (change_refused ch change) 0)
    where
      go : Dec (change_refused ch change ≡ 0) → P (after_change ch change)
      go (yes e) = subst P (sym (made e)) (f e)
      go (no n) = subst P (sym (change_refused_lem n)) p

-- the rows are as long as before
changed-length : (ch : Channel) (change : Change)
    → (length (changed ch change).top ≡ length ch.top) × (length (changed ch change).bottom ≡ length ch.bottom)
unfolding changed
changed-length ch (Add net column1 side1 column2 side2) =
    (both_length 0 ch.top net column1 side1 column2 side2, both_length 1 ch.bottom net column1 side1 column2 side2)
changed-length ch (Drop net) = (without_length net ch.top, without_length net ch.bottom)

change_length : (ch : Channel) (change : Change)
    → (length (after_change ch change).top ≡ length ch.top) × (length (after_change ch change).bottom ≡ length ch.bottom)
change_length ch change =
    either_way ch change (λ x. (length x.top ≡ length ch.top) × (length x.bottom ≡ length ch.bottom)) (refl, refl) (λ e. changed-length ch change)

-- the pins of a net are k then, and those of the others as before
abbrev pub PinsThen : (net k : ℕ) (before after : Channel) → Type 0
PinsThen net k ch ch' =
    (pins ch'.top ch'.bottom net ≡ k) × ((v : ℕ) → v ≢ 0 → v ≢ net → pins ch'.top ch'.bottom v ≡ pins ch.top ch.bottom v)

-- A DROPPED NET

-- one that is not refused
dropped_by : (top bottom : List ℕ) (net : ℕ) → drop_refused top bottom net ≡ 0 → (1 ≤ net) × (net ≤ 256)
unfolding drop_refused
dropped_by top bottom net e =
    let (a, e₁) = pick_past (eqb net 0 || ltb 256 net) 6 _ 0 (omega arith) e in
    let (z, m) = or_false (eqb net 0) (ltb 256 net) a in
    let n : net ≢ 0 = eqb-false net 0 z in
    (omega arith, ltb-false 256 net m)

-- a number that is allowed and has pins is not refused
drop_accepted : (top bottom : List ℕ) (net : ℕ) → 1 ≤ net → net ≤ 256 → pins top bottom net ≢ 0 → drop_refused top bottom net ≡ 0
unfolding drop_refused
drop_accepted top bottom net a b n = rw (ne_eqb net 0 (omega arith), le-ltb 256 net b, ne_eqb (pins top bottom net) 0 n) refl

-- one that is allowed and has no pin may be added: only its terminals may be a reason to refuse it
terminals_only : (top bottom : List ℕ) (net : ℕ) → 1 ≤ net → net ≤ 256 → pins top bottom net ≡ 0 → (column1 side1 column2 side2 : ℕ)
    → let k = place_refused top bottom 0 net column1 side1 column2 side2 in (k ≡ 0) ⊎ (k ≡ 22)
unfolding place_refused
terminals_only top bottom net a b z column1 side1 column2 side2 =
    go (eqb net 0) (ltb 256 net) (ltb 0 (pins top bottom net))
    (not (is_free top bottom 0 column1 side1 && is_free top bottom 0 column2 side2) || (eqb column1 column2 && eqb side1 side2))
    (ne_eqb net 0 (omega arith)) (le-ltb 256 net b) (le-ltb 0 (pins top bottom net) (omega arith))
  where
    go : (p q r s : Bool) → p ≡ false → q ≡ false → r ≡ false → let k : ℕ = pick (p || q) 6 (pick r 21 (pick s 22 0)) in (k ≡ 0) ⊎ (k ≡ 22)
    go p q r true x y z = inr (rw (x, y, z) refl)
    go p q r false x y z = inl (rw (x, y, z) refl)

module _ (ch : Channel) (net : ℕ) (e : change_refused ch (Drop net) ≡ 0) where
  drop-number : (1 ≤ net) × (net ≤ 256)
  unfolding change_refused
  drop-number = dropped_by ch.top ch.bottom net e

  -- it has no pin then
  drop-changed : PinsThen net 0 ch (changed ch (Drop net))
  unfolding changed
  drop-changed = (pins_gone net ch.top ch.bottom (omega (arith, drop-number.0)), pins_others net ch.top ch.bottom)

  pub dropped_pins : PinsThen net 0 ch (after_change ch (Drop net))
  dropped_pins = subst (PinsThen net 0 ch) (sym (made ch (Drop net) e)) drop-changed

  -- "A dropped number may be used again"
  pub used_again : (column1 side1 column2 side2 : ℕ)
      → let k = change_refused (after_change ch (Drop net)) (Add net column1 side1 column2 side2) in (k ≡ 0) ⊎ (k ≡ 22)
  unfolding change_refused
  used_again =
      let ch' = after_change ch (Drop net) in terminals_only ch'.top ch'.bottom net drop-number.0 drop-number.1 dropped_pins.0

-- IN A CHANNEL OF TWO-PIN NETS

module _ (ch : Channel) (t : TwoPins ch) where
  fit : RowsFit ch.top ch.bottom
  fit = rows_fit ch.top ch.bottom t.accepted

  -- with a net less it is still one
  module _ (net : ℕ) (e : change_refused ch (Drop net) ≡ 0) where
    abbrev less : Channel
    less = changed ch (Drop net)

    -- a net has as many pins as before, or none
    none_or_same : (v : ℕ) → 1 ≤ v → (pins less.top less.bottom v ≡ 0) ⊎ (pins less.top less.bottom v ≡ pins ch.top ch.bottom v)
    none_or_same v h = go (ℕ_discrete v net)
      where
        go : Dec (v ≡ net) → (pins less.top less.bottom v ≡ 0) ⊎ (pins less.top less.bottom v ≡ pins ch.top ch.bottom v)
        go (yes i) = inl (ap (pins less.top less.bottom) i ∙ (drop-changed ch net e).0)
        go (no n) = inr ((drop-changed ch net e).1 v (omega arith) n)

    dropped_fit : RowsFit less.top less.bottom
    dropped_fit = record {
      same = let (a, b) = changed-length ch (Drop net) in a ∙ fit.same ∙ sym b;
      small = λ v h. ⊎_elim (λ z. z) (λ s. s ∙ fit.small v h) (none_or_same v (omega arith));
      lone = λ v h. ⊎_elim (λ z. omega arith) (λ s. omega (arith, fit.lone v h)) (none_or_same v h);
    }

    dropped_two_pins : TwoPins less
    dropped_two_pins =
        two_pins_by less dropped_fit (omega (arith, (changed-length ch (Drop net)).0, rows_short ch.top ch.bottom 256 t.accepted))
        (λ v h. ⊎_elim (λ z. omega arith) (λ s. omega (arith, two_fit ch.top ch.bottom fit t.pairs v h)) (none_or_same v h))

  -- and with a net more
  module _ (net column1 side1 column2 side2 : ℕ) (e : change_refused ch (Add net column1 side1 column2 side2) ≡ 0) where
    abbrev add : Change
    add = Add net column1 side1 column2 side2

    accepted : Accepted ch.top ch.bottom 0 net column1 side1 column2 side2
    unfolding change_refused
    accepted = accepted_by ch.top ch.bottom 0 net column1 side1 column2 side2 e

    added_two_pins : TwoPins (changed ch add)
    unfolding change_refused changed
    added_two_pins = record {
      accepted = placed_accepted ch.top ch.bottom 0 net column1 side1 column2 side2 t.accepted t.pairs e;
      pairs = placed_pairs ch.top ch.bottom 0 net column1 side1 column2 side2 t.accepted t.pairs e;
    }

    -- it has two pins then
    add_changed : PinsThen net 2 ch (changed ch add)
    unfolding change_refused changed
    add_changed = (
      placed_pins ch.top ch.bottom 0 net column1 side1 column2 side2 t.accepted t.pairs e,
      placed_others ch.top ch.bottom 0 net column1 side1 column2 side2 t.accepted t.pairs e,
    )

    pub added-pins : PinsThen net 2 ch (after_change ch add)
    added-pins = subst (PinsThen net 2 ch) (sym (made ch add e)) add_changed

    -- dropped again, it leaves the channel as it was
    drop_again : change_refused (changed ch add) (Drop net) ≡ 0
    unfolding change_refused
    drop_again = drop_accepted (changed ch add).top (changed ch add).bottom net accepted.some accepted.most (omega (arith, add_changed.0))

    back : changed (changed ch add) (Drop net) ≡ ch
    unfolding changed
    back =
        ap₂ (λ (top bottom : List ℕ). record { top = top; bottom = bottom })
        (without_top ch.top ch.bottom net column1 side1 column2 side2 accepted)
        (without_bottom ch.top ch.bottom net column1 side1 column2 side2 accepted)

    pub added_dropped : after_change (after_change ch add) (Drop net) ≡ ch
    added_dropped = ap (λ (x : Channel). after_change x (Drop net)) (made ch add e) ∙ made (changed ch add) (Drop net) drop_again ∙ back

  changed_two_pins : (change : Change) → change_refused ch change ≡ 0 → TwoPins (changed ch change)
  changed_two_pins (Add net column1 side1 column2 side2) = added_two_pins net column1 side1 column2 side2
  changed_two_pins (Drop net) = dropped_two_pins net

-- after any change it is one
change_two_pins : (ch : Channel) (change : Change) → TwoPins ch → TwoPins (after_change ch change)
change_two_pins ch change t = either_way ch change TwoPins t (changed_two_pins ch t change)

-- AFTER ANY LIST OF CHANGES

-- what each change keeps, all keep
kept : (P : Channel → Type 0) → ((ch : Channel) (change : Change) → P ch → P (after_change ch change)) → (ch : Channel) (changes : List Change) → P ch
    → P (after_changes ch changes)
unfolding after_changes
kept P f ch [] p = p
kept P f ch (change ∷ changes) p = kept P f (after_change ch change) changes (f ch change p)

pub changes_two_pins : (ch : Channel) (changes : List Change) → TwoPins ch → TwoPins (after_changes ch changes)
changes_two_pins = kept TwoPins change_two_pins

-- "a fixed number of columns"
pub changes_columns : (ch : Channel) (changes : List Change) → length (after_changes ch changes).top ≡ length ch.top
changes_columns ch changes = kept (λ x. length x.top ≡ length ch.top) (λ x change e. (change_length x change).0 ∙ e) ch changes refl

-- calls that keep their promise: the board stands for the channel
pub changes_stand : (ch : Channel) (x y : Board) (changes : List Change) → StandsFor ch x → LeadsTo x changes y → StandsFor (after_changes ch changes) y
unfolding after_changes
changes_stand ch x y [] s (stays _) = s
changes_stand ch x y (change ∷ changes) s (goes _ x' _ _ r _ m l) =
    let (a, b) = change_length ch change in
    changes_stand (after_change ch change) x' y changes
    (record { same = a ∙ s.same ∙ sym b; short = omega (arith, s.short); board = (m.answers ch s).board }) l
