-- The checker's answer at each way out of the code, its number and its place.
use Prim.Native.Nat.{ℕ, zero, suc, ◌+◌, ◌*◌, ◌≤◌, ◌<◌}
use mathlib.Core.Path.{◌≡◌, refl, sym, ◌∙◌, ap}
use mathlib.Core.Logic.{◌≢◌, ⊎_elim, by_cases, ◌⊎◌, inl}
use mathlib.Core.Bool.{Bool, true, false, not, ◌||◌}
use mathlib.Core.List.{List}
use lib.ListN.{length, get_or, get_or-eq_default}
use lib.Dec.{eqb, ltb}
use native.Mathlib.Omega.{arith}
use native.Mathlib.Decide.{dec_le, dec_lt}
use Rattle.std.specs.Prelude.{Some, None, Ok, Err}
use Rattle.std.proofs.Common.{rules}
use Rattle.grid.specs.declared.NetFacts.{NetFacts}
use Rattle.grid.specs.declared.refusals.Refusal.{Refusal}
use Rattle.grid.specs.Channel.{pick, over, count, pins, rows_refused}
use Rattle.grid.specs.Refusals.{first_refusal, number}
use Rattle.grid.specs.Answers.{facts_check}
use Rattle.grid.proofs.Tests.{eq-eqb, ne_eqb, lt-ltb, le-ltb}
use Rattle.grid.proofs.Rows.{rows_fit}
use Rattle.grid.proofs.Tables.{table-length, table_at}
use Rattle.grid.proofs.Numbers.{number_refusal, refusal_number, number_nonzero, pick_within, first_within}
use Rattle.grid.proofs.Answers.{first_here, rows_within, told_facts}
use Rattle.checker.specs.Check.{Checked, number_of, place_of, fault_column, fault_row, checked_by, least, some, strange, mispinned, leaves_last, split, loose_net}
use Rattle.checker.specs.Check.{fault_at, pin_fault, first_mispinned, entries_refused, drawing_refused, refused, place, column, row, checked}
use Rattle.checker.specs.declared.ends.Loose.{Loose}
use Rattle.checker.specs.Working.{fault_of_end, refused_at, first_below, answer_with, entries_checked, drawing_checked, PinTable, Within, LowestEnd}
use Rattle.checker.proofs.Least.{of_none, first_is, first_no}
use Rattle.checker.proofs.entries.Nets.{strange_not}
use Rattle.checker.proofs.Terminals.{PinFault, is_14, is_19, is_20, pin_fault_by}

-- the numbers of an answer made of them, where all are 0 on acceptance
made_of :
    (k p c r : ℕ) → k ≤ 24 → (k ≡ 0 → (p ≡ 0) × (c ≡ 0) × (r ≡ 0))
    → (number_of (checked_by k p c r) ≡ k) × (place_of (checked_by k p c r) ≡ p) × (fault_column (checked_by k p c r) ≡ c) × (fault_row (checked_by k p c r) ≡ r)
made_of zero p c r l z = let (a, b, d) = z refl in (refl, sym a, sym b, sym d)
made_of (suc k) p c r l z = (number_refusal (suc k) (omega arith) l, refl, refl, refl)

-- the table has a wrong pin edge's
fault_within : (top bottom : List ℕ) (t : ℕ) (D : List ℕ) (p : ℕ) → pin_fault top bottom t D p ≤ 24
fault_within top bottom t D p = go _ (pin_fault_by top bottom t D p)
  where
    go : (k : ℕ) → PinFault k → k ≤ 24
    go k is_14 = omega arith
    go k is_19 = omega arith
    go k is_20 = omega arith

module _ (top bottom : List ℕ) (w t : ℕ) (D : List ℕ) where
  -- the table has the drawing's
  pub drawing_within : drawing_refused top bottom w t D ≤ 24
  unfolding drawing_refused entries_refused
  drawing_within = search (rules, pick_within, fault_within) depth 12

  -- and the whole call's
  refused_within : refused top bottom w t D ≤ 24
  unfolding refused
  refused_within = first_within (rows_refused top bottom 256) _ (rows_within top bottom 256) drawing_within

  -- only 13 to 17, 19 and 20 have a place
  pub no_place_else : (k : ℕ) → (k < 13) ⊎ ((k ≡ 18) ⊎ (20 < k)) → place top bottom w t D k ≡ 0
  unfolding place
  no_place_else k o =
      rw (off 13 (omega arith), off 14 (omega arith), off 19 (omega arith), off 20 (omega arith))
      (rw (off 15 (omega arith), off 16 (omega arith), off 17 (omega arith)) refl)
    where
      off : (j : ℕ) → (13 ≤ j) × ((j ≤ 20) × (j ≢ 18)) → eqb k j ≡ false
      off j (a, (b, n)) =
          ne_eqb k j (λ e. ⊎_elim (λ (l : k < 13). omega (arith, e)) (λ h. ⊎_elim (λ (i : k ≡ 18). n (sym e ∙ i)) (λ (l : 20 < k). omega (arith, e)) h) o)

  -- the three numbers of a wrong pin edge have one place
  pub fault_place : (k : ℕ) → PinFault k → place top bottom w t D k ≡ first_mispinned top bottom t D
  unfolding place
  fault_place k is_14 = refl
  fault_place k is_19 = refl
  fault_place k is_20 = refl

  -- only 17 has a column and a row
  pub no_point_else : (k : ℕ) → k ≢ 17 → (column top bottom w t D k ≡ 0) × (row top bottom w t D k ≡ 0)
  unfolding column row
  no_point_else k n = rw (ne_eqb k 17 n) (refl, refl)

  -- the number of the checker's answer, its place, column and row
  pub check_parts :
      (number_of (checked top bottom w t D) ≡ refused top bottom w t D)
      × (place_of (checked top bottom w t D) ≡ place top bottom w t D (refused top bottom w t D))
      × (fault_column (checked top bottom w t D) ≡ column top bottom w t D (refused top bottom w t D))
      × (fault_row (checked top bottom w t D) ≡ row top bottom w t D (refused top bottom w t D))
  unfolding checked
  check_parts =
      let k = refused top bottom w t D in
      made_of k (place top bottom w t D k) (column top bottom w t D k) (row top bottom w t D k) refused_within
      (λ e. let (c, r) = no_point_else k (omega arith) in (no_place_else k (inl (omega arith)), c, r))

  -- what the checker promises of them
  pub check_promise :
      (r : Checked) → r ≡ checked top bottom w t D
      → record {
        answer : r ≡ checked top bottom w t D;
        number : number_of r ≡ refused top bottom w t D;
        place : place_of r ≡ place top bottom w t D (number_of r);
        column : fault_column r ≡ column top bottom w t D (number_of r);
        row : fault_row r ≡ row top bottom w t D (number_of r);
      }
  check_promise r e =
      let (a, b, c, d) = check_parts in
      let n = ap number_of e ∙ a in
      record {
        answer = e;
        number = n;
        place = ap place_of e ∙ b ∙ ap (λ (k : ℕ). place top bottom w t D k) (sym n);
        column = ap fault_column e ∙ c ∙ ap (λ (k : ℕ). column top bottom w t D k) (sym n);
        row = ap fault_row e ∙ d ∙ ap (λ (k : ℕ). row top bottom w t D k) (sym n);
      }

  -- one number, one answer
  same_answer : (k n : ℕ) (r : Checked) → n ≡ k → r ≡ answer_with top bottom w t D k → r ≡ answer_with top bottom w t D n
  same_answer k n r e is = is ∙ ap (λ (k : ℕ). answer_with top bottom w t D k) (sym e)

  -- a refusal with the place of its number, no loose end
  at_place :
      (k n p : ℕ) (r : Checked) → k ≢ 16 → n ≡ suc k → p ≡ place top bottom w t D (suc k) → r ≡ refused_at (suc k) p
      → r ≡ answer_with top bottom w t D n
  at_place k n p r o e q is = same_answer (suc k) n r e (is ∙ rw (q, (no_point_else (suc k) (omega arith)).0, (no_point_else (suc k) (omega arith)).1))

  -- one of a wrong pin edge
  at_fault :
      (k n p : ℕ) (r : Checked) → PinFault k → n ≡ k → p ≡ first_mispinned top bottom t D → r ≡ refused_at k p → r ≡ answer_with top bottom w t D n
  at_fault k n p r is_14 e q is = at_place 13 n p r (omega arith) e (q ∙ sym (fault_place 14 is_14)) is
  at_fault k n p r is_19 e q is = at_place 18 n p r (omega arith) e (q ∙ sym (fault_place 19 is_19)) is
  at_fault k n p r is_20 e q is = at_place 19 n p r (omega arith) e (q ∙ sym (fault_place 20 is_20)) is

  -- one with the place 0
  no_place : (k n : ℕ) (r : Checked) → k ≤ 11 → n ≡ suc k → r ≡ refused_at (suc k) 0 → r ≡ answer_with top bottom w t D n
  no_place k n r l e is = at_place k n 0 r (omega arith) e (sym (no_place_else (suc k) (inl (omega arith)))) is

module _ (top bottom : List ℕ) (w t : ℕ) (D : List ℕ) (r : Checked) where
  -- 10: too narrow
  pub narrow : w < length top → r ≡ refused_at 10 0 → r ≡ drawing_checked top bottom w t D
  unfolding drawing_refused
  narrow l is = no_place top bottom w t D 9 (drawing_refused top bottom w t D) r (omega arith) (rw (lt-ltb w (length top) l)) is

  module _ (a : length top ≤ w) where
    -- 10: too wide
    pub too_wide : 511 < w → r ≡ refused_at 10 0 → r ≡ drawing_checked top bottom w t D
    unfolding drawing_refused
    too_wide l is =
        no_place top bottom w t D 9 (drawing_refused top bottom w t D) r (omega arith) (rw (le-ltb w (length top) a, lt-ltb 511 w l)) is

    module _ (b : w ≤ 511) where
      -- 11
      pub too_high : 511 < t → r ≡ refused_at 11 0 → r ≡ drawing_checked top bottom w t D
      unfolding drawing_refused
      too_high l is =
          no_place top bottom w t D 10 (drawing_refused top bottom w t D) r (omega arith)
          (rw (le-ltb w (length top) a, le-ltb 511 w b, lt-ltb 511 t l)) is

      module _ (c : t ≤ 511) where
        -- 12
        pub wrong_size_lem : length D ≢ w * (2 * t + 1) → r ≡ refused_at 12 0 → r ≡ drawing_checked top bottom w t D
        unfolding drawing_refused
        wrong_size_lem n is =
            no_place top bottom w t D 11 (drawing_refused top bottom w t D) r (omega arith)
            (rw (le-ltb w (length top) a, le-ltb 511 w b, le-ltb 511 t c, ne_eqb (length D) (w * (2 * t + 1)) n)) is

        -- none of these
        pub sized : length D ≡ w * (2 * t + 1) → r ≡ entries_checked top bottom w t D → r ≡ drawing_checked top bottom w t D
        unfolding drawing_refused
        sized d is =
            same_answer top bottom w t D (entries_refused top bottom w t D) (drawing_refused top bottom w t D) r
            (rw (le-ltb w (length top) a, le-ltb 511 w b, le-ltb 511 t c, eq-eqb (length D) (w * (2 * t + 1)) d)) is

module _ (top bottom : List ℕ) (w t : ℕ) (D : List ℕ) where
  -- 13
  pub entry_at : (e : ℕ) (r : Checked) → Some e ≡ first_below (length D) (strange top bottom D) → r ≡ refused_at 13 e → r ≡ entries_checked top bottom w t D
  unfolding entries_refused place
  entry_at e r x is =
      let (s, o) = first_is _ _ e x in
      at_place top bottom w t D 12 (entries_refused top bottom w t D) e r (omega arith) (rw s) o is

  module _ (x : None ≡ first_below (length D) (strange top bottom D)) where
    -- past 13
    no_entry : some (length D) (strange top bottom D) ≡ false
    no_entry = first_no _ _ x

    -- the entries are nets, so they are at most 256
    pub within : (table : List ℕ) → PinTable top bottom table → length D ≡ w * (2 * t + 1) → w ≤ 511 → t ≤ 511 → Within D w t
    within table K d b c = record { size = d; width_fits = b; high = c; nets = small }
      where
        small : (i : ℕ) → get_or D i 0 ≤ 256
        small i =
            by_cases (dec_lt i (length D))
            (λ l.
            by_cases (dec_le (get_or D i 0) 256) (λ k. k)
            (λ k.
            ⊎_elim (λ (z : get_or D i 0 ≡ 0). omega arith)
            (λ (z : 0 < pins top bottom (get_or D i 0)). omega (arith, K.none (get_or D i 0) (omega arith)))
            (strange_not top bottom D i (of_none (length D) (strange top bottom D) no_entry i l))))
            (λ l. omega (arith, get_or-eq_default D 0 {n = i} (omega arith)))

    -- 14, 19 or 20
    pub pin_at_lem :
        (p k : ℕ) (r : Checked) → Some p ≡ first_below (length D) (mispinned top bottom t D) → k ≡ pin_fault top bottom t D p → r ≡ refused_at k p
        → r ≡ entries_checked top bottom w t D
    unfolding entries_refused
    pin_at_lem p k r y f is =
        let (s, o) = first_is _ _ p y in
        at_fault top bottom w t D k (entries_refused top bottom w t D) p r (rw f (pin_fault_by top bottom t D p)) (rw (no_entry, s, ← o, f)) o is

    module _ (y : None ≡ first_below (length D) (mispinned top bottom t D)) where
      -- past these
      no_pin_lem : some (length D) (mispinned top bottom t D) ≡ false
      no_pin_lem = first_no _ _ y

      -- 15
      pub last_at : (q : ℕ) (r : Checked) → Some q ≡ first_below (length D) (leaves_last w t D) → r ≡ refused_at 15 q → r ≡ entries_checked top bottom w t D
      unfolding entries_refused place
      last_at q r z is =
          let (s, o) = first_is _ _ q z in
          at_place top bottom w t D 14 (entries_refused top bottom w t D) q r (omega arith) (rw (no_entry, no_pin_lem, s)) o is

      module _ (z : None ≡ first_below (length D) (leaves_last w t D)) where
        -- past 15
        no_last : some (length D) (leaves_last w t D) ≡ false
        no_last = first_no _ _ z

        -- 16
        pub pieces_at : (n : ℕ) (r : Checked) → Some n ≡ first_below 257 (split t D) → r ≡ refused_at 16 n → r ≡ entries_checked top bottom w t D
        unfolding entries_refused place
        pieces_at n r x is =
            let (s, o) = first_is _ _ n x in
            at_place top bottom w t D 15 (entries_refused top bottom w t D) n r (omega arith) (rw (no_entry, no_pin_lem, no_last, s)) o is

        module _ (s : None ≡ first_below 257 (split t D)) where
          -- past 16
          no_piece : some 257 (split t D) ≡ false
          no_piece = first_no _ _ s

          -- 17
          pub ends_at : (o : Loose) → LowestEnd w t D o → Err (fault_of_end o) ≡ entries_checked top bottom w t D
          unfolding entries_refused place column row
          ends_at o f =
              same_answer top bottom w t D 17 (entries_refused top bottom w t D) (Err (fault_of_end o))
              (rw (no_entry, no_pin_lem, no_last, no_piece, lt-ltb (least 257 (loose_net w t D)) 257 (omega (arith, f.lowest, f.is_net))))
              (rw (f.column, f.row, f.lowest))

          -- none
          pub all_passed : some 257 (loose_net w t D) ≡ false → Ok tt ≡ entries_checked top bottom w t D
          unfolding entries_refused
          all_passed l =
              same_answer top bottom w t D 0 (entries_refused top bottom w t D) (Ok tt)
              (rw (no_entry, no_pin_lem, no_last, no_piece, l)) refl

-- the rows' numbers are at most 7
pub rows_low : (top bottom : List ℕ) (most : ℕ) → rows_refused top bottom most ≤ 7
unfolding rows_refused
rows_low top bottom most =
    go (not (eqb (length top) (length bottom))) (ltb most (length top)) (over top || over bottom)
    (not (eqb (count (λ v. eqb (pins top bottom v) 1) 256) 0))
  where
    go : (a b c d : Bool) → pick a 4 (pick b 5 (pick c 6 (pick d 7 0))) ≤ 7
    go true b c d = omega arith
    go false true c d = omega arith
    go false false true d = omega arith
    go false false false true = omega arith
    go false false false false = omega arith

module _ (top bottom : List ℕ) where
  -- 4 to 7
  pub refused-checked :
      (w t : ℕ) (D : List ℕ) (r : Checked) (e : Refusal) → number e ≡ rows_refused top bottom 256 → r ≡ Err (fault_at e 0) → r ≡ checked top bottom w t D
  unfolding checked refused
  refused-checked w t D r e n is = go (number e) n (is ∙ ap (λ (e : Refusal). Err (fault_at e 0)) (sym (refusal_number e)))
    where
      not_zero : rows_refused top bottom 256 ≢ 0
      not_zero z = number_nonzero e (n ∙ z)

      go :
          (k : ℕ) → k ≡ rows_refused top bottom 256 → r ≡ refused_at k 0
          → r ≡ answer_with top bottom w t D (first_refusal (rows_refused top bottom 256) (drawing_refused top bottom w t D))
      go zero o i = absurd (not_zero (sym o))
      go (suc k) o i =
          no_place top bottom w t D k (first_refusal (rows_refused top bottom 256) (drawing_refused top bottom w t D)) r
          (omega (arith, rows_low top bottom 256))
          (first_here (rows_refused top bottom 256) (drawing_refused top bottom w t D) not_zero ∙ sym o) i

  module _ (f : NetFacts) (e : Ok f ≡ facts_check top bottom 256) where
    -- the rows are accepted
    accepted_rows : rows_refused top bottom 256 ≡ 0
    accepted_rows = (told_facts top bottom 256 (Ok f) f e refl).0

    -- accepted rows: the drawing is checked
    pub accepted_checked : (w t : ℕ) (D : List ℕ) (r : Checked) → r ≡ drawing_checked top bottom w t D → r ≡ checked top bottom w t D
    unfolding checked refused
    accepted_checked w t D r is =
        same_answer top bottom w t D (drawing_refused top bottom w t D) (first_refusal (rows_refused top bottom 256) (drawing_refused top bottom w t D)) r
        (ap (λ (k : ℕ). first_refusal k (drawing_refused top bottom w t D)) accepted_rows) is

    -- with the table of their pins
    pub known : PinTable top bottom f.pins
    known =
        rw (ap (λ (f : NetFacts). f.pins) (told_facts top bottom 256 (Ok f) f e refl).1)
        (record {
          figures = record { size = table-length (pins top bottom); at = table_at (pins top bottom) };
          none = (rows_fit top bottom accepted_rows).small;
        })
