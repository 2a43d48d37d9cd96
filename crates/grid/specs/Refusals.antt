-- Document 01, "Refused, by place": the refusals with their numbers, and what a call does by the number of its refusal. "The number on acceptance is 0."
use Rattle.std.specs.Prelude.{ℕ, zero, suc, List, [], ◌∷◌, get_or, Result, Ok, Err}
use Rattle.grid.specs.declared.refusals.Refusal.{Refusal}
use Rattle.grid.specs.declared.refusals.Refusal.TheVariants.{RecordLength, RecordKind, RecordBody, RowLengths, TooManyColumns, NetNumber, SinglePin, LayoutTooShort, TableTooShort, Width, Tracks, DrawingLength}
use Rattle.grid.specs.declared.refusals.Refusal.TheVariants.{Entry, UnwiredPin, LastColumn, Pieces, LooseEnd, OutputTooShort, MiswiredPin, UnpinnedWire, NumberInUse, TerminalTaken, OverTracks, AbsentNet}

-- "Checked from the top down": the first number that applies, of a place and of the places after it; 0 for none
abbrev pub first_refusal : (here later : ℕ) → ℕ
first_refusal zero later = later
first_refusal (suc k) later = suc k

-- one of two values by the number: on acceptance the first, on refusal the second, as "zeros" for a figure and the old contents for a lent slice
abbrev pub if_accepted : {A : Type 0} → (number : ℕ) → A → A → A
if_accepted zero a b = a
if_accepted (suc k) a b = b

-- the number of each refusal
abbrev pub number : Refusal → ℕ
number RecordLength = 1
number RecordKind = 2
number RecordBody = 3
number RowLengths = 4
number TooManyColumns = 5
number NetNumber = 6
number SinglePin = 7
number LayoutTooShort = 8
number TableTooShort = 9
number Width = 10
number Tracks = 11
number DrawingLength = 12
number Entry = 13
number UnwiredPin = 14
number LastColumn = 15
number Pieces = 16
number LooseEnd = 17
number OutputTooShort = 18
number MiswiredPin = 19
number UnpinnedWire = 20
number NumberInUse = 21
number TerminalTaken = 22
number OverTracks = 23
number AbsentNet = 24

-- all of them, by their numbers
abbrev pub refusals : List Refusal
refusals =
    RecordLength ∷ RecordKind ∷ RecordBody ∷ RowLengths ∷ TooManyColumns ∷ NetNumber ∷ SinglePin ∷ LayoutTooShort
    ∷ TableTooShort ∷ Width ∷ Tracks ∷ DrawingLength ∷ Entry ∷ UnwiredPin ∷ LastColumn ∷ Pieces
    ∷ LooseEnd ∷ OutputTooShort ∷ MiswiredPin ∷ UnpinnedWire ∷ NumberInUse ∷ TerminalTaken ∷ OverTracks ∷ AbsentNet ∷ []

-- the refusal with a number; 0 is that of none
abbrev pub refusal : ℕ → Refusal
refusal zero = AbsentNet
refusal (suc k) = get_or refusals k AbsentNet

-- the number of an answer
abbrev pub number_of : {A : Type 0} → Result A Refusal → ℕ
number_of (Ok a) = 0
number_of (Err r) = number r

-- its figures, zeros on refusal
abbrev pub figures_or : {A : Type 0} → (zeros : A) → Result A Refusal → A
figures_or zeros (Ok a) = a
figures_or zeros (Err r) = zeros

-- the answer with a number and figures
abbrev pub answer_of : {A : Type 0} → (number : ℕ) → A → Result A Refusal
answer_of zero a = Ok a
answer_of (suc k) a = Err (refusal (suc k))
