-- Document 01, "Refused, by place": the table itself, line by line, with what document 02 adds.
use Rattle.std.specs.Prelude.{ℕ, ◌+◌, ◌*◌, ◌-◌, ◌≤◌, ◌<◌, ◌≡◌, ◌≢◌, ◌⊎◌, List, length, get_or}
use Rattle.grid.specs.Channel.{pins, density, tracks}
use Rattle.router.specs.Answers.{width, formula_length}
use Rattle.checker.specs.Faults.{Strange, PinWrong, Unwired, Miswired, Unpinned, FaultAt, LeavesLast, Split, LooseEnd}
use Rattle.report.specs.declared.Drawing.{Drawing}
use Rattle.report.specs.declared.Drawing.TheVariants.{Absent, Given}
use Rattle.record.specs.Record.{word}
use Rattle.placing.specs.Placing.{placed_top, placed_bottom}

-- the lines of a table: number, and when it applies
pub data Table : Type 1 where
  end : Table
  line : (number : ℕ) (applies : Type 0) → Table → Table

-- "Checked from the top down": k is the first number that applies, 0 for none
unfoldable pub First : Table → ℕ → Type 0
First end k = k ≡ 0
First (line n A rest) k = (A × (k ≡ n)) ⊎ ((A → ⊥) × First rest k)

-- "The table lets a call through when no number at any place that the call has applies."
unfoldable pub LetsThrough : Table → Type 0
LetsThrough end = Unit {0}
LetsThrough (line n A rest) = (A → ⊥) × LetsThrough rest

-- RECORD, of a call's bytes
abbrev pub of_record : List ℕ → Table → Table
of_record s rest =
    -- "under 4 or over 1,030 bytes, or length field unequal to the bytes after it"
    line 1 ((length s < 4) ⊎ ((1030 < length s) ⊎ (word s 0 ≢ length s - 2)))
    -- "kind not 1"
    (line 2 (word s 2 ≢ 1)
    -- "body under 2 bytes, or not 2 + 4n bytes"
    (line 3 ((length s - 4 < 2) ⊎ (length s - 4 ≢ 2 + 4 * word s 4))
    rest))

-- a number of a row is over 256
abbrev pub Over : List ℕ → Type 0
Over row = (i : ℕ) × (i < length row) × (256 < get_or row i 0)

-- LENGTHS of rows that are not read, n and m, with a limit of columns
abbrev pub of_lengths : (n m most : ℕ) → Table → Table
of_lengths n m most rest =
    -- "lengths differ"
    line 4 (n ≢ m)
    -- "over 256 columns; in `knee` over 64"
    (line 5 (most < n)
    rest)

module _ (top bottom : List ℕ) where
  -- ROWS, with a limit of columns
  abbrev pub of_rows : (most : ℕ) → Table → Table
  of_rows most rest =
      -- "lengths differ"
      line 4 (length top ≢ length bottom)
      -- "over 256 columns; in `knee` over 64"
      (line 5 (most < length top)
      -- "a number over 256"
      (line 6 (Over top ⊎ Over bottom)
      -- "a net with one pin"
      (line 7 ((v : ℕ) × (v ≢ 0) × (pins top bottom v ≡ 1))
      rest)))

  -- LENT SLICE: document 02, Job 5, "the true one, w × (2t + 1) with the width that the sweep will reach, and 8 is given only below that"
  abbrev pub of_layout : (lent : ℕ) → Table
  of_layout lent = line 8 (lent < width top bottom * (2 * tracks top bottom + 1)) end

  -- the same in document 01: "layout shorter than (n + t/2 rounded down) × (2t + 1)"
  abbrev pub of_formula : (lent : ℕ) → Table
  of_formula lent = line 8 (lent < formula_length (length top) (tracks top bottom)) end

  -- OUTPUT SLICE of a record: document 02, Job 6, "18: output slice shorter than 6 + 4n bytes; checked after 9"
  abbrev pub of_output : (lent : ℕ) → Table
  of_output lent = line 18 (lent < 6 + 4 * length top) end

-- ROWS of a sweep that its caller drives: document 02, Job 10, "In this sweep 7 stands for any net without exactly two pins"
abbrev pub of_pair_rows : (top bottom : List ℕ) → Table → Table
of_pair_rows top bottom rest =
    line 4 (length top ≢ length bottom)
    (line 5 (256 < length top)
    (line 6 (Over top ⊎ Over bottom)
    (line 7 ((v : ℕ) × (v ≢ 0) × (pins top bottom v ≢ 0) × (pins top bottom v ≢ 2))
    rest)))

-- LENT SLICE of its steps: "this sweep needs the slice length of document 01's own formula"
abbrev pub of_step : (n t lent : ℕ) → Table
of_step n t lent = line 8 (lent < formula_length n t) end

-- a terminal that is "not free or not allowed": not "right of the last drawn column", not "within the channel", on neither side, or with a pin
abbrev pub Shut : (top bottom : List ℕ) (drawn column side : ℕ) → Type 0
Shut top bottom drawn column side =
    (column ≤ drawn)
    ⊎ ((length top < column)
    ⊎ ((1 < side)
    ⊎ (((side ≡ 0) × (get_or top (column - 1) 0 ≢ 0)) ⊎ ((side ≡ 1) × (get_or bottom (column - 1) 0 ≢ 0)))))

-- NEW NET of two pins: "(21: number in use; 22: a terminal not free or not allowed; … checked in that order after 6.)" The terminals "are distinct"
abbrev pub of_new_net : (top bottom : List ℕ) (drawn net column1 side1 column2 side2 : ℕ) → Table → Table
of_new_net top bottom drawn net column1 side1 column2 side2 rest =
    -- "A net number of 0 or over 256 is a 6"
    line 6 ((net ≡ 0) ⊎ (256 < net))
    (line 21 (pins top bottom net ≢ 0)
    (line 22 (Shut top bottom drawn column1 side1 ⊎ (Shut top bottom drawn column2 side2 ⊎ ((column1 ≡ column2) × (side1 ≡ side2))))
    rest))

-- LATE NET: "23: density over the tracks"
abbrev pub of_late_net : (top bottom : List ℕ) (t drawn net column1 side1 column2 side2 : ℕ) → Table
of_late_net top bottom t drawn net column1 side1 column2 side2 =
    of_new_net top bottom drawn net column1 side1 column2 side2
    (line 23 (t < density (placed_top top net column1 side1 column2 side2) (placed_bottom bottom net column1 side1 column2 side2))
    end)

-- BOARD: document 02, Job 11, "More than 256 columns is a 5"
abbrev pub of_board : (columns : ℕ) → Table
of_board columns = line 5 (256 < columns) end

-- ADDED NET: "An added net follows Job 10 with nothing drawn and no track limit"
abbrev pub of_added_net : (top bottom : List ℕ) (net column1 side1 column2 side2 : ℕ) → Table
of_added_net top bottom net column1 side1 column2 side2 = of_new_net top bottom 0 net column1 side1 column2 side2 end

-- DROPPED NET: "(24: dropping a net that is not there; checked after 6.)"
abbrev pub of_dropped_net : (top bottom : List ℕ) (net : ℕ) → Table
of_dropped_net top bottom net =
    line 6 ((net ≡ 0) ⊎ (256 < net))
    (line 24 (pins top bottom net ≡ 0)
    end)

-- LENT ROWS of the widest drawing: document 02, Job 12, "4 and 5 hold for them as for rows that are read". What they hold is not read, so 6 and 7 are no
-- question
abbrev pub of_lent_rows : (n m : ℕ) → Table
of_lent_rows n m = of_lengths n m 256 end

-- NET TABLE: "net table under 256 records"
abbrev pub of_net_table : (lent : ℕ) → Table → Table
of_net_table lent rest = line 9 (lent < 256) rest

-- some number is so
abbrev pub Some : (ℕ → Type 0) → Type 0
Some P = (p : ℕ) × P p

-- and this is the least that is
pub record Least (P : ℕ → Type 0) (p : ℕ) : Type 0 where
  pub is : P p
  pub least : (q : ℕ) → P q → p ≤ q

-- document 02, Job 8: "The lowest faulty position is still reported, and its fault chooses the number": p is that position and has this fault
abbrev pub LowestFault : (Fault : (row : List ℕ) (x e : ℕ) → Type 0) (top bottom : List ℕ) (w t : ℕ) (D : List ℕ) (p : ℕ) → Type 0
LowestFault Fault top bottom w t D p = Least (PinWrong top bottom w t D) p × FaultAt Fault top bottom w t D p

-- "pin edge wrong", one place for three numbers: "Keep 14 for a pin whose edge is 0. … 19: the edge of a pin carries another net; 20: a wire at a terminal
-- without a pin, or at either edge past column n; both stand with 14, before 15"
abbrev pub of_pins : (top bottom : List ℕ) (w t : ℕ) (D : List ℕ) → Table → Table
of_pins top bottom w t D rest =
    line 14 (Some (LowestFault Unwired top bottom w t D))
    (line 19 (Some (LowestFault Miswired top bottom w t D))
    (line 20 (Some (LowestFault Unpinned top bottom w t D))
    rest))

-- DRAWING
abbrev pub of_drawing : (top bottom : List ℕ) (w t : ℕ) (D : List ℕ) → Table
of_drawing top bottom w t D =
    -- "w under n or over 511"
    line 10 ((w < length top) ⊎ (511 < w))
    -- "t over 511"
    (line 11 (511 < t)
    -- "slice not w × (2t + 1) entries"
    (line 12 (length D ≢ w * (2 * t + 1))
    -- "entry neither 0 nor a net"
    (line 13 (Some (Strange top bottom D))
    -- "pin edge wrong"
    (of_pins top bottom w t D
    -- "horizontal edge in the last column"
    (line 15 (Some (LeavesLast w t D))
    -- "a net in more than one piece"
    (line 16 (Some (Split t D))
    -- document 02, Job 1: "17: loose end; checked after 16"
    (line 17 (Some (LooseEnd w t D))
    end)))))))

-- of a net report: those of its drawing, where it has one
abbrev pub of_reported : (top bottom : List ℕ) → Drawing → (D : List ℕ) → Table
of_reported top bottom Absent D = end
of_reported top bottom (Given w t) D = of_drawing top bottom w t D
