-- Document 02, Job 10: "a two-pin net may still be placed, if both its terminals are free, are distinct, and lie right of the last drawn column and within
-- the channel". A terminal is a column, counted from 1, and a side: 0 is the top, 1 the bottom. The columns 1 to `drawn` are drawn.
use Rattle.std.specs.Prelude.{ℕ, ◌-◌, Bool, not, ◌&&◌, ◌||◌, List, eqb, ltb, leb, length, get_or, set}
use Rattle.grid.specs.Channel.{pick, pins}

-- a column of a row lies "right of the last drawn column and within the channel", and has no pin there
abbrev pub is_free_in : (row : List ℕ) (drawn column : ℕ) → Bool
is_free_in row drawn column = ltb drawn column && (leb column (length row) && eqb (get_or row (column - 1) 0) 0)

module _ (top bottom : List ℕ) where
  -- a terminal that is free and allowed: its side is one of the two
  unfoldable pub is_free : (drawn column side : ℕ) → Bool
  is_free drawn column side = ltb side 2 && is_free_in (pick (eqb side 0) top bottom) drawn column

  -- The number of a net's refusal, 0 for none: "A net number of 0 or over 256 is a 6. (21: number in use; 22: a terminal not free or not allowed; … checked
  -- in that order after 6.)" The terminals "are distinct", or they are a 22
  unfoldable pub place_refused : (drawn net column1 side1 column2 side2 : ℕ) → ℕ
  place_refused drawn net column1 side1 column2 side2 =
      pick (eqb net 0 || ltb 256 net) 6
      (pick (ltb 0 (pins top bottom net)) 21
      (pick (not (is_free drawn column1 side1 && is_free drawn column2 side2) || (eqb column1 column2 && eqb side1 side2)) 22
      0))

-- the row of a side with a pin of a net at a terminal, if the terminal is of that side
unfoldable pub with_pin : (own : ℕ) (row : List ℕ) (net column side : ℕ) → List ℕ
with_pin own row net column side = pick (eqb side own) (set row (column - 1) net) row

-- with both pins of a net
abbrev pub with_pins : (own : ℕ) (row : List ℕ) (net column1 side1 column2 side2 : ℕ) → List ℕ
with_pins own row net column1 side1 column2 side2 = with_pin own (with_pin own row net column1 side1) net column2 side2

-- the rows of a channel in which a net is placed
abbrev pub placed_top : (top : List ℕ) (net column1 side1 column2 side2 : ℕ) → List ℕ
placed_top = with_pins 0

abbrev pub placed_bottom : (bottom : List ℕ) (net column1 side1 column2 side2 : ℕ) → List ℕ
placed_bottom = with_pins 1
