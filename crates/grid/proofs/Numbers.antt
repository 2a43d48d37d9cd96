-- Refusals and their numbers, and answers made by a number. Assumes nothing.
use Prim.Native.Nat.{ℕ, zero, suc, ◌+◌, ◌≤◌, ◌<◌}
use mathlib.Core.Path.{◌≡◌, refl, sym, ap, ◌∙◌}
use mathlib.Core.Logic.{◌≢◌}
use mathlib.Core.Bool.{Bool, true, false}
use native.Mathlib.Omega.{arith}
use Rattle.std.specs.Prelude.{Result, Ok, Err, IsErrAnd}
use Rattle.std.proofs.lemmas.Result.{err_from_is_err_and}
use Rattle.grid.specs.declared.refusals.Refusal.{Refusal}
use Rattle.grid.specs.declared.refusals.Refusal.TheVariants.{RecordLength, RecordKind, RecordBody, RowLengths, TooManyColumns, NetNumber, SinglePin, LayoutTooShort, TableTooShort, Width, Tracks, DrawingLength}
use Rattle.grid.specs.declared.refusals.Refusal.TheVariants.{Entry, UnwiredPin, LastColumn, Pieces, LooseEnd, OutputTooShort, MiswiredPin, UnpinnedWire, NumberInUse, TerminalTaken, OverTracks, AbsentNet}
use lib.ListN.{length, get_or}
use mathlib.Core.List.{List, [], ◌∷◌}
use Rattle.grid.specs.Channel.{pick}
use Rattle.grid.specs.Refusals.{first_refusal, if_accepted, number, refusals, refusal, number_of, figures_or, answer_of}

-- THE TABLE

-- refusals have the numbers from n on
abbrev CountFrom : ℕ → List Refusal → Type 0
CountFrom n [] = Unit {0}
CountFrom n (r ∷ rs) = (number r ≡ n) × CountFrom (suc n) rs

-- so the one at a place has its number
number_at : (n : ℕ) (rs : List Refusal) (i : ℕ) → CountFrom n rs → i < length rs → number (get_or rs i AbsentNet) ≡ n + i
number_at n [] i c l = absurd (omega arith)
number_at n (r ∷ rs) zero (e, c) l = e ∙ omega arith
number_at n (r ∷ rs) (suc i) (e, c) l = number_at (suc n) rs i c (omega arith) ∙ omega arith

in_order : CountFrom 1 refusals
in_order = (refl, (refl, (refl, (refl, (refl, (refl, (refl, (refl, (refl, (refl, (refl, (refl, (refl, (refl, (refl, (refl, (refl, (refl, (refl, (refl, (refl, (refl, (refl, (refl, tt))))))))))))))))))))))))

-- each number of the table is that of its refusal
pub number_refusal : (k : ℕ) → k ≢ 0 → k ≤ 24 → number (refusal k) ≡ k
number_refusal zero n l = absurd (n refl)
number_refusal (suc k) n l = number_at 1 refusals k in_order (omega arith) ∙ omega arith

-- and each refusal that of its number
pub refusal_number : (r : Refusal) → refusal (number r) ≡ r
refusal_number RecordLength = refl
refusal_number RecordKind = refl
refusal_number RecordBody = refl
refusal_number RowLengths = refl
refusal_number TooManyColumns = refl
refusal_number NetNumber = refl
refusal_number SinglePin = refl
refusal_number LayoutTooShort = refl
refusal_number TableTooShort = refl
refusal_number Width = refl
refusal_number Tracks = refl
refusal_number DrawingLength = refl
refusal_number Entry = refl
refusal_number UnwiredPin = refl
refusal_number LastColumn = refl
refusal_number Pieces = refl
refusal_number LooseEnd = refl
refusal_number OutputTooShort = refl
refusal_number MiswiredPin = refl
refusal_number UnpinnedWire = refl
refusal_number NumberInUse = refl
refusal_number TerminalTaken = refl
refusal_number OverTracks = refl
refusal_number AbsentNet = refl

-- no number is 0
pub number_positive : (r : Refusal) → 0 < number r
number_positive RecordLength = omega arith
number_positive RecordKind = omega arith
number_positive RecordBody = omega arith
number_positive RowLengths = omega arith
number_positive TooManyColumns = omega arith
number_positive NetNumber = omega arith
number_positive SinglePin = omega arith
number_positive LayoutTooShort = omega arith
number_positive TableTooShort = omega arith
number_positive Width = omega arith
number_positive Tracks = omega arith
number_positive DrawingLength = omega arith
number_positive Entry = omega arith
number_positive UnwiredPin = omega arith
number_positive LastColumn = omega arith
number_positive Pieces = omega arith
number_positive LooseEnd = omega arith
number_positive OutputTooShort = omega arith
number_positive MiswiredPin = omega arith
number_positive UnpinnedWire = omega arith
number_positive NumberInUse = omega arith
number_positive TerminalTaken = omega arith
number_positive OverTracks = omega arith
number_positive AbsentNet = omega arith

pub number_nonzero : (r : Refusal) → number r ≢ 0
number_nonzero r e = absurd (let p = number_positive r in omega arith)

-- a choice of two numbers of the table is one
pub pick_within : (b : Bool) (k m : ℕ) → k ≤ 24 → m ≤ 24 → pick b k m ≤ 24
pick_within true k m p q = p
pick_within false k m p q = q

-- and the first of two
pub first_within : (k m : ℕ) → k ≤ 24 → m ≤ 24 → first_refusal k m ≤ 24
first_within zero m p q = q
first_within (suc k) m p q = p

-- ANSWERS by a number

module _ {A : Type 0} where
  -- the number of one
  pub number_answer : (k : ℕ) (a : A) → k ≤ 24 → number_of (answer_of k a) ≡ k
  number_answer zero a l = refl
  number_answer (suc k) a l = number_refusal (suc k) (omega arith) l

  -- its figures
  pub figures_answer : (z : A) (k : ℕ) (a : A) → figures_or z (answer_of k a) ≡ if_accepted k a z
  figures_answer z zero a = refl
  figures_answer z (suc k) a = refl

  -- an accepted one
  pub accepted_by : (k : ℕ) (a b : A) → Ok b ≡ answer_of k a → (k ≡ 0) × (b ≡ a)
  accepted_by zero a b e = (refl, (cc))
  accepted_by (suc k) a b e = absurd (cc)

  -- a refused one: its number
  pub refused_by : (k : ℕ) (a : A) (r : Refusal) → k ≤ 24 → Err r ≡ answer_of k a → number r ≡ k
  refused_by zero a r l e = absurd (cc)
  refused_by (suc k) a r l e =
      let f : r ≡ refusal (suc k) = cc in
      ap number f ∙ number_refusal (suc k) (omega arith) l

  -- a refusal is the answer with its number
  pub refused_is : (k : ℕ) (a : A) (r : Refusal) → number r ≡ k → Err r ≡ answer_of k a
  refused_is zero a r e = absurd (let p = number_positive r in omega arith)
  refused_is (suc k) a r e = ap Err (sym (refusal_number r) ∙ ap refusal e)

  -- and a value that with 0
  pub accepted_is : (k : ℕ) (a b : A) → k ≡ 0 → b ≡ a → Ok b ≡ answer_of k a
  accepted_is zero a b z e = ap Ok e
  accepted_is (suc k) a b z e = absurd (omega arith)

-- PASSED ON by `?`: the same error
pub passed_on : {A E : Type 0} (r : Result A E) (e : E) → IsErrAnd r (λ d. d ≡ e) → r ≡ Err e
passed_on r e i =
    let p = err_from_is_err_and r i in
    p.1 ∙ ap Err p.2
