-- The numbers of the lent rows by their lengths, and what holds of each answer. Assumes nothing.
use Prim.Native.Nat.{ℕ, ◌/◌, ◌%◌, ◌≤◌, ◌<◌}
use mathlib.Core.Path.{◌≡◌, sym, ap, ◌∙◌}
use mathlib.Core.Logic.{◌≢◌}
use mathlib.Core.Bool.{not}
use mathlib.Core.List.{List}
use native.Mathlib.Omega.{arith}
use lib.Dec.{eqb, ltb}
use lib.ListN.{length}
use Rattle.std.specs.Prelude.{Result}
use Rattle.std.proofs.Common.{rules}
use Rattle.grid.specs.declared.refusals.Refusal.{Refusal}
use Rattle.grid.specs.Refusals.{if_accepted, number_of, answer_of}
use Rattle.grid.proofs.Numbers.{pick_within, number_answer, figures_answer}
use Rattle.grid.proofs.Tests.{eq-eqb, ne_eqb, lt-ltb, le-ltb, ltb-false, pick_past}
use Rattle.widest.specs.Widest.{top_of, bottom_of, widest_top, widest_bottom, columns_of, refused, answer, top_after, bottom_after}

-- THE NUMBERS
module _ (n m : ℕ) where
  pub refused_4 : n ≢ m → refused n m ≡ 4
  unfolding refused
  refused_4 d = rw (ne_eqb n m d)

  pub refused_5 : n ≡ m → 256 < n → refused n m ≡ 5
  unfolding refused
  refused_5 e p = rw (eq-eqb n m e, lt-ltb 256 n p)

  pub refused_none : n ≡ m → n ≤ 256 → refused n m ≡ 0
  unfolding refused
  refused_none e p = rw (eq-eqb n m e, le-ltb 256 n p)

  -- rows that are not refused have 256 columns at most
  pub refused_short : refused n m ≡ 0 → n ≤ 256
  unfolding refused
  refused_short e =
      let (a, f) = pick_past (not (eqb n m)) 4 _ 0 (omega arith) e in
      ltb-false 256 n (pick_past (ltb 256 n) 5 0 0 (omega arith) f).0

-- THE ANSWER: its number, which is one of the table, and its columns, which are 0 on refusal
module _ (n m : ℕ) where
  numbers_within : refused n m ≤ 24
  unfolding refused
  numbers_within = search (rules, pick_within) depth 12

  pub answer-number : number_of (answer n m) ≡ refused n m
  unfolding answer
  answer-number = number_answer _ _ numbers_within

  pub answer-columns : columns_of (answer n m) ≡ if_accepted (refused n m) (n / 2) 0
  unfolding answer
  answer-columns = figures_answer 0 (refused n m) (n / 2)

-- THE ROWS that are written
pub top_written : (n : ℕ) (s : List ℕ) → s ≡ top_of (n % 2) (n / 2) → s ≡ widest_top n
unfolding widest_top
top_written n s e = e

pub bottom_written : (n m : ℕ) (s : List ℕ) → n ≡ m → s ≡ bottom_of (m % 2) (m / 2) → s ≡ widest_bottom n
unfolding widest_bottom
bottom_written n m s e f = f ∙ ap (λ (k : ℕ). bottom_of (k % 2) (k / 2)) (sym e)

-- WHAT THE CALL PROMISES for the rows xs and ys: r is its answer, and the rows it leaves are above and below
abbrev pub Promise : (xs ys above below : List ℕ) (r : Result ℕ Refusal) → Type 0
Promise xs ys above below r = record {
  answer : r ≡ answer (length xs) (length ys);
  number : number_of r ≡ refused (length xs) (length ys);
  columns : columns_of r ≡ if_accepted (number_of r) (length xs / 2) 0;
  top : above ≡ top_after xs ys;
  bottom : below ≡ bottom_after xs ys;
}

-- the number is k
module _ (top bottom : List ℕ) (k : ℕ) (e : refused (length top) (length bottom) ≡ k) where
  promised : (r : Result ℕ Refusal) → r ≡ answer (length top) (length bottom)
      → (number_of r ≡ refused (length top) (length bottom)) × (columns_of r ≡ if_accepted (number_of r) (length top / 2) 0)
  promised r f =
      let number = ap number_of f ∙ answer-number (length top) (length bottom) in
      (number, ap columns_of f ∙ answer-columns (length top) (length bottom) ∙ ap (λ (j : ℕ). if_accepted j (length top / 2) 0) (sym number))

  pub promise_met : (above below : List ℕ) (r : Result ℕ Refusal) → r ≡ answer_of k (length top / 2) → above ≡ if_accepted k (widest_top (length top)) top
      → below ≡ if_accepted k (widest_bottom (length top)) bottom → Promise top bottom above below r
  unfolding answer top_after bottom_after
  promise_met above below r f g h =
      let by = f ∙ ap (λ (j : ℕ). answer_of j (length top / 2)) (sym e) in
      let (number, columns) = promised r by in
      record {
        answer = by;
        number = number;
        columns = columns;
        top = g ∙ ap (λ (j : ℕ). if_accepted j (widest_top (length top)) top) (sym e);
        bottom = h ∙ ap (λ (j : ℕ). if_accepted j (widest_bottom (length top)) bottom) (sym e);
      }
