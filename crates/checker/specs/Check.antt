-- Document 01, "Refused, by place", and document 02, Jobs 1 and 8: the checker's number, "Checked from the top down", its place, column and row, for the
-- rows, the width w, the number of tracks t and the lent layout D. A position p is counted from 0; it lies in column p / (2t + 1), counted from 0, and is
-- entry p % (2t + 1) of it.
use Rattle.std.specs.Prelude.{ℕ, zero, suc, ◌+◌, ◌*◌, ◌/◌, ◌%◌, Bool, true, false, not, ◌&&◌, ◌||◌, List, length, get_or, eqb, ltb, Result, Ok, Err}
use Rattle.std.proofs.Common.{arith}
use Rattle.grid.specs.declared.refusals.Refusal.{Refusal}
use Rattle.grid.specs.Channel.{pick, pins, rows_refused}
use Rattle.grid.specs.Refusals.{first_refusal, number, refusal}
use Rattle.grid.specs.Grid.{vertical_of, horizontal_of, OnePiece, edges_at}
use Rattle.pieces.proofs.Whole.{whole?}
use Rattle.checker.specs.declared.Fault.{Fault}
use Rattle.checker.specs.declared.Told.{Told}

-- THE ANSWER: nothing for a drawing that passes, or the fault of a refused one
abbrev pub Checked : Type 0
Checked = Result (Unit {0}) Fault

-- THE ANSWER'S NUMBERS
-- "a definition gives this paper's number and values for each of the enum's cases": the number, "The number on acceptance is 0."
abbrev pub number_of : Checked → ℕ
number_of (Ok p) = 0
number_of (Err f) = number f.refusal

-- and the place: "its place is 0 otherwise"
abbrev pub place_of : Checked → ℕ
place_of (Ok p) = 0
place_of (Err f) = f.place

-- "two further numbers give the column and row … and are 0 in every other case": the column
abbrev pub fault_column : Checked → ℕ
fault_column (Ok p) = 0
fault_column (Err f) = f.column

-- and the row
abbrev pub fault_row : Checked → ℕ
fault_row (Ok p) = 0
fault_row (Err f) = f.row

-- all four of a fault, and of an answer
abbrev pub told : Fault → Told
told f = record { number = number f.refusal; place = f.place; column = f.column; row = f.row }

abbrev pub told_of : Checked → Told
told_of (Ok p) = record { number = 0; place = 0; column = 0; row = 0 }
told_of (Err f) = told f

-- of a refusal that is no loose end, the fault at a place: "zeros for … every other figure but the place"
abbrev pub fault_at : Refusal → (place : ℕ) → Fault
fault_at r p = record { refusal = r; place = p; column = 0; row = 0 }

-- the answer with a number, a place, a column and a row: "A refusal returns its number and zeros for … every other figure but the place."
abbrev pub checked_by : (number place column row : ℕ) → Checked
checked_by zero place column row = Ok tt
checked_by (suc k) place column row = Err (record { refusal = refusal (suc k); place = place; column = column; row = row })

-- THE LEAST
-- "the lowest entry position", "the lowest net number": the least number below n that passes a test, else n
unfoldable pub least : (n : ℕ) → (ℕ → Bool) → ℕ
least zero P = 0
least (suc n) P = pick (ltb (least n P) n) (least n P) (pick (P n) n (suc n))

-- some number below n passes a test
abbrev pub some : (n : ℕ) → (ℕ → Bool) → Bool
some n P = ltb (least n P) n

-- THE LINES OF THE TABLE
-- 10: "w under n or over 511"
abbrev pub wrong_width : (top : List ℕ) (w : ℕ) → Bool
wrong_width top w = ltb w (length top) || ltb 511 w

-- 11: "t over 511"
abbrev pub many_tracks : (t : ℕ) → Bool
many_tracks t = ltb 511 t

-- 12: "slice not w × (2t + 1) entries"
abbrev pub wrong_size : (w t : ℕ) (D : List ℕ) → Bool
wrong_size w t D = not (eqb (length D) (w * (2 * t + 1)))

-- 13: "entry neither 0 nor a net", at position p
abbrev pub strange : (top bottom D : List ℕ) (p : ℕ) → Bool
strange top bottom D p = not (eqb (get_or D p 0) 0) && eqb (pins top bottom (get_or D p 0)) 0

-- 14, 19 and 20: "pin edge wrong": an entry e, number i of a column with pins a and b, is the column's last vertical entry and not its top pin a, or its
-- first and not its bottom pin b
abbrev pub pin_wrong : (t a b e i : ℕ) → Bool
pin_wrong t a b e i = (eqb i 0 && not (eqb e b)) || (eqb i t && not (eqb e a))

-- at position p
abbrev pub mispinned : (top bottom : List ℕ) (t : ℕ) (D : List ℕ) (p : ℕ) → Bool
mispinned top bottom t D p =
    pin_wrong t (get_or top (p / (2 * t + 1)) 0) (get_or bottom (p / (2 * t + 1)) 0) (get_or D p 0) (p % (2 * t + 1))

-- the number of a wrong edge e at the terminal of column x, counted from 0, in a row of pins: 14 for "a pin whose edge is 0", "19: the edge of a pin
-- carries another net", "20: a wire at a terminal without a pin, or at either edge past column n"
abbrev pub terminal_fault : (row : List ℕ) (x e : ℕ) → ℕ
terminal_fault row x e = pick (ltb x (length row) && not (eqb (get_or row x 0) 0)) (pick (eqb e 0) 14 19) 20

-- of a wrong entry e, number i of column x: "With t = 0 the bottom pin is compared first, then the top."
abbrev pub column_fault : (top bottom : List ℕ) (x i e : ℕ) → ℕ
column_fault top bottom x i e = pick (eqb i 0 && not (eqb e (get_or bottom x 0))) (terminal_fault bottom x e) (terminal_fault top x e)

-- at position p: "its fault chooses the number"
unfoldable pub pin_fault : (top bottom : List ℕ) (t : ℕ) (D : List ℕ) (p : ℕ) → ℕ
pin_fault top bottom t D p = column_fault top bottom (p / (2 * t + 1)) (p % (2 * t + 1)) (get_or D p 0)

-- "The lowest faulty position"
abbrev pub first_mispinned : (top bottom : List ℕ) (t : ℕ) (D : List ℕ) → ℕ
first_mispinned top bottom t D = least (length D) (mispinned top bottom t D)

-- 15: "horizontal edge in the last column": an entry e, number i of column x, lies in the last column after the vertical entries and is an edge
abbrev pub last_edge : (w t x i e : ℕ) → Bool
last_edge w t x i e = eqb (suc x) w && (ltb t i && not (eqb e 0))

-- at position p
abbrev pub leaves_last : (w t : ℕ) (D : List ℕ) (p : ℕ) → Bool
leaves_last w t D p = last_edge w t (p / (2 * t + 1)) (p % (2 * t + 1)) (get_or D p 0)

-- no is a refusal
abbrev pub is_no : {A : Type 0} → Dec A → Bool
is_no (yes a) = false
is_no (no n) = true

-- 16: "a net in more than one piece", of net N: the answer to whether it is one piece is no; 0 is no net
unfoldable pub split : (t : ℕ) (D : List ℕ) (N : ℕ) → Bool
split t D zero = false
split t D (suc N) = is_no {A = OnePiece (vertical_of D t) (horizontal_of D t) (suc N)} (whole? D t (suc N) (omega arith))

-- 17: "loose end", of net N at the grid point of column x, counted from 0, on track j + 1: not "no edge or at least two"; 0 is no net
unfoldable pub loose_at : (t : ℕ) (D : List ℕ) (N x j : ℕ) → Bool
loose_at t D N x j = not (eqb N 0) && eqb (edges_at (vertical_of D t) (horizontal_of D t) N x j) 1

-- at some point of column x "on rows 1 to t"
unfoldable pub loose_in : (t : ℕ) (D : List ℕ) (N x : ℕ) → Bool
loose_in t D N x = some t (loose_at t D N x)

-- in some column
unfoldable pub loose_net : (w t : ℕ) (D : List ℕ) (N : ℕ) → Bool
loose_net w t D N = some w (loose_in t D N)

-- "that net's first such point, by column and then row": its column, counted from 0
unfoldable pub loose_column : (w t : ℕ) (D : List ℕ) (N : ℕ) → ℕ
loose_column w t D N = least w (loose_in t D N)

-- and its track, counted from 0
unfoldable pub loose_track : (w t : ℕ) (D : List ℕ) (N : ℕ) → ℕ
loose_track w t D N = least t (loose_at t D N (loose_column w t D N))

-- WHAT IT ANSWERS
module _ (top bottom : List ℕ) (w t : ℕ) (D : List ℕ) where
  -- the number, "Checked from the top down": of the entries, the pieces and the ends, 13 to 17, 19 and 20; "17: … checked after 16", "19: …;
  -- 20: …; both stand with 14, before 15"
  unfoldable pub entries_refused : ℕ
  entries_refused =
      pick (some (length D) (strange top bottom D)) 13
      (pick (some (length D) (mispinned top bottom t D)) (pin_fault top bottom t D (first_mispinned top bottom t D))
      (pick (some (length D) (leaves_last w t D)) 15
      (pick (some 257 (split t D)) 16
      (pick (some 257 (loose_net w t D)) 17
      0))))

  -- of the drawing, 10 to 17, 19 and 20
  unfoldable pub drawing_refused : ℕ
  drawing_refused =
      pick (wrong_width top w) 10
      (pick (many_tracks t) 11
      (pick (wrong_size w t D) 12
      entries_refused))

  -- of the whole table: the rows' 4 to 7, with 5 "over 256 columns", then the drawing's; "The number on acceptance is 0."
  unfoldable pub refused : ℕ
  refused = first_refusal (rows_refused top bottom 256) drawing_refused

  -- the place that goes with a number: "For 13 to 15 the checker adds the lowest entry position, from 0; for 16 the lowest net number; its place is 0
  -- otherwise."; for 17 "The place is the lowest net number with a loose end"; for 19 and 20 as for 14, "The lowest faulty position is still reported"
  unfoldable pub place : (number : ℕ) → ℕ
  place k =
      pick (eqb k 13) (least (length D) (strange top bottom D))
      (pick (eqb k 14 || (eqb k 19 || eqb k 20)) (first_mispinned top bottom t D)
      (pick (eqb k 15) (least (length D) (leaves_last w t D))
      (pick (eqb k 16) (least 257 (split t D))
      (pick (eqb k 17) (least 257 (loose_net w t D))
      0))))

  -- the column that goes with it: of that net's first loose end, counted from 1
  unfoldable pub column : (number : ℕ) → ℕ
  column k = pick (eqb k 17) (suc (loose_column w t D (place k))) 0

  -- and the row: track 1 is row 1
  unfoldable pub row : (number : ℕ) → ℕ
  row k = pick (eqb k 17) (suc (loose_track w t D (place k))) 0

  -- the checker's answer, by its number and what goes with it
  unfoldable pub checked : Checked
  checked = checked_by refused (place refused) (column refused) (row refused)
