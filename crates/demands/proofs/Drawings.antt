-- The lines of a drawing in the table, 10 to 17, 19 and 20, by the checker's tests, and its places. Assumes nothing.
use Prim.Native.Nat.{ℕ, zero, suc, ◌+◌, ◌*◌, ◌≤◌, ◌<◌}
use mathlib.Core.Path.{◌≡◌, refl, sym, subst, ap, ◌∙◌}
use mathlib.Core.Logic.{◌≢◌, ◌↔◌, ◌⊎◌, inl, inr, ⊎_elim, by_cases}
use mathlib.Core.Bool.{Bool, true, false, ◌||◌}
use mathlib.Core.List.{List}
use native.Mathlib.Omega.{arith}
use native.Mathlib.Decide.{dec_lt, ℕ_discrete}
use native.Mathlib.Nat.{mul-le-mul_right, suc-mul}
use lib.Dec.{eqb, ltb}
use lib.ListN.{length, get_or}
use Rattle.grid.specs.Channel.{pick, pins, rows_refused}
use Rattle.grid.specs.Refusals.{first_refusal}
use Rattle.grid.proofs.Tests.{ltb-true, eqb-true, not-false, not_both, pick_past}
use Rattle.grid.proofs.Counting.{at_below}
use Rattle.grid.proofs.Rows.{rows_fit}
use Rattle.checker.specs.Check.{least, some, wrong_width, many_tracks, wrong_size, strange, mispinned, leaves_last, split, loose_net}
use Rattle.checker.specs.Check.{pin_fault, first_mispinned, entries_refused, drawing_refused, refused, place, column, row}
use Rattle.checker.proofs.Answers.{rows_low, fault_place}
use Rattle.checker.proofs.Terminals.{FaultNumber, unwired_14, miswired_19, unpinned_20, PinFault, is_14, is_19, is_20, pin_fault_by}
use Rattle.checker.proofs.Least.{least-words, none_words}
use Rattle.checker.proofs.Passes.{over_whole, over_ends}
use Rattle.checker.specs.Faults.{Strange, PinWrong, LeavesLast, Split, LooseEnd, FirstLoose}
use Rattle.demands.specs.Table.{Table, First, Some, Least, LowestFault, of_pins, of_drawing}
use Rattle.demands.proofs.Table.{by_test, at_end}
use Rattle.demands.proofs.Lines.{either, neither, less, unequal, equal}
use Rattle.checker.proofs.Places.{strange_at, pin_wrong_at, fault_number, fault_words, leaves_last_at, split_at, loose_at_lem, loose_first}

-- A TEST OF THE NUMBERS BELOW n, in words that hold of none past them
module _ (n : ℕ) (P : ℕ → Bool) (W : ℕ → Type 0) (words : (q : ℕ) → q < n → (P q ≡ true) ↔ W q) (inside : (q : ℕ) → W q → q < n) where
  found : some n P ≡ true → Some W
  found e = (least n P, (least-words n P W words e).0)

  not_found : some n P ≡ false → Some W → ⊥
  not_found e (q, x) = none_words n P W words e q (inside q x) x

  least_found : some n P ≡ true → Least W (least n P)
  least_found e = let (x, l, m) = least-words n P W words e in record { is = x; least = λ q y. m q (inside q y) y }

-- THE TESTS
module _ (top bottom : List ℕ) (w t : ℕ) (D : List ℕ) where
  -- 13
  strange_inside : (p : ℕ) → Strange top bottom D p → p < length D
  strange_inside p (n, z) = at_below D p (get_or D p 0) n refl

  strange-words : (p : ℕ) → p < length D → (strange top bottom D p ≡ true) ↔ Strange top bottom D p
  strange-words p l = strange_at top bottom D p

  module _ (size : length D ≡ w * (2 * t + 1)) where
    -- 14, 19 and 20
    pin_inside : (p : ℕ) → PinWrong top bottom w t D p → p < length D
    pin_inside p (x, l, c) =
        let m = mul-le-mul_right (2 * t + 1) l in
        ⊎_elim (λ a. omega (arith, a.0, m, size, suc-mul x (2 * t + 1))) (λ a. omega (arith, a.0, m, size, suc-mul x (2 * t + 1))) c

    -- 15
    last_inside : (p : ℕ) → LeavesLast w t D p → p < length D
    last_inside p (x, j, e, l, o, n) = let m : suc x * (2 * t + 1) ≡ w * (2 * t + 1) = ap (λ (k : ℕ). k * (2 * t + 1)) e in omega (arith, l, o, m, size, suc-mul x (2 * t + 1))

  -- where the rows are accepted and no entry is strange
  module _ (ok : rows_refused top bottom 256 ≡ 0) (known : Some (Strange top bottom D) → ⊥) where
    -- an entry is 0 or a net
    nets : (p : ℕ) → p < length D → (get_or D p 0 ≡ 0) ⊎ (0 < pins top bottom (get_or D p 0))
    nets p l =
        by_cases (ℕ_discrete (get_or D p 0) 0) (λ z. inl z) (λ a.
        by_cases (dec_lt 0 (pins top bottom (get_or D p 0))) (λ h. inr h) (λ h. absurd (known (p, (a, omega (arith, h))))))

    -- 16
    split_inside : (N : ℕ) → Split t D N → N < 257
    split_inside N (n, s) =
        by_cases (dec_lt N 257) (λ l. l) (λ l. absurd (s (over_whole top bottom t D (rows_fit top bottom ok) nets N (omega (arith, l)))))

    -- 17
    loose_inside : (N : ℕ) → LooseEnd w t D N → N < 257
    loose_inside N (x, j, (n, l, k, e)) =
        by_cases (dec_lt N 257) (λ i. i)
        (λ i. absurd (over_ends top bottom t D (rows_fit top bottom ok) nets N (omega (arith, i)) w x j l k e))

  -- THE NUMBERS OF A WRONG PIN EDGE
  module _ (size : length D ≡ w * (2 * t + 1)) where
    -- the lowest
    lowest_pin : some (length D) (mispinned top bottom t D) ≡ true → Least (PinWrong top bottom w t D) (first_mispinned top bottom t D)
    lowest_pin =
        least_found (length D) (mispinned top bottom t D) (PinWrong top bottom w t D) (λ p. pin_wrong_at top bottom w t D p size) (pin_inside size)

    -- has the fault of its number
    lowest_fault :
        {Fault : (row : List ℕ) (x e : ℕ) → Type 0} {n : ℕ} → FaultNumber Fault n → some (length D) (mispinned top bottom t D) ≡ true
        → pin_fault top bottom t D (first_mispinned top bottom t D) ≡ n → LowestFault Fault top bottom w t D (first_mispinned top bottom t D)
    lowest_fault F s e = (lowest_pin s, fault_words top bottom w t D _ F (lowest_pin s).is e)

    -- and no other
    fault_lowest :
        {Fault : (row : List ℕ) (x e : ℕ) → Type 0} {n : ℕ} → FaultNumber Fault n → some (length D) (mispinned top bottom t D) ≡ true
        → Some (LowestFault Fault top bottom w t D) → pin_fault top bottom t D (first_mispinned top bottom t D) ≡ n
    fault_lowest F s (p, (L, f)) =
        let M = lowest_pin s in
        let q : first_mispinned top bottom t D ≡ p = omega (arith, M.least p L.is, L.least _ M.is) in
        ap (pin_fault top bottom t D) q ∙ fault_number top bottom w t D p F f

    -- where none is wrong there is no lowest
    none_wrong : some (length D) (mispinned top bottom t D) ≡ false → (p : ℕ) → Least (PinWrong top bottom w t D) p → ⊥
    none_wrong s p L =
        not_found (length D) (mispinned top bottom t D) (PinWrong top bottom w t D) (λ p. pin_wrong_at top bottom w t D p size) (pin_inside size) s (p, L.is)

    -- the three lines
    pin_lines :
        (s : Bool) → some (length D) (mispinned top bottom t D) ≡ s → (k : ℕ) (rest : Table) → (s ≡ false → First rest k)
        → First (of_pins top bottom w t D rest) (pick s (pin_fault top bottom t D (first_mispinned top bottom t D)) k)
    unfolding First
    pin_lines false s k rest h =
        let none = none_wrong s in
        inr (λ a. none a.0 a.1.0, inr (λ a. none a.0 a.1.0, inr (λ a. none a.0 a.1.0, h refl)))
    pin_lines true s k rest h = go (pin_fault top bottom t D (first_mispinned top bottom t D)) (pin_fault_by top bottom t D _) refl
      where
        go : (n : ℕ) → PinFault n → pin_fault top bottom t D (first_mispinned top bottom t D) ≡ n → First (of_pins top bottom w t D rest) n
        go n is_14 e = inl ((_, lowest_fault unwired_14 s e), refl)
        go n is_19 e = inr (λ a. omega (arith, e, fault_lowest unwired_14 s a), inl ((_, lowest_fault miswired_19 s e), refl))
        go n is_20 e =
            inr (
              λ a. omega (arith, e, fault_lowest unwired_14 s a),
              inr (λ a. omega (arith, e, fault_lowest miswired_19 s a), inl ((_, lowest_fault unpinned_20 s e), refl)),
            )

  -- no entry is strange
  none_strange : some (length D) (strange top bottom D) ≡ false → Some (Strange top bottom D) → ⊥
  none_strange = not_found (length D) (strange top bottom D) (Strange top bottom D) strange-words strange_inside

  -- THE LINES
  pub drawing_lines : rows_refused top bottom 256 ≡ 0 → First (of_drawing top bottom w t D) (drawing_refused top bottom w t D)
  unfolding drawing_refused entries_refused
  drawing_lines ok =
      by_test (wrong_width top w) 10 _ _ (either (ltb w (length top)) (ltb 511 w) (ltb-true w (length top)) (ltb-true 511 w))
      (neither (ltb w (length top)) (ltb 511 w) (less w (length top)) (less 511 w)) (λ a.
      by_test (many_tracks t) 11 _ _ (ltb-true 511 t) (less 511 t) (λ b.
      by_test (wrong_size w t D) 12 _ _ (unequal (length D) (w * (2 * t + 1))) (equal (length D) (w * (2 * t + 1))) (λ c.
      let size = eqb-true (length D) (w * (2 * t + 1)) (not-false _ c) in
      by_test (some (length D) (strange top bottom D)) 13 _ _
      (found (length D) (strange top bottom D) (Strange top bottom D) strange-words strange_inside) none_strange (λ d.
      pin_lines size (some (length D) (mispinned top bottom t D)) refl _ _ (λ e.
      by_test (some (length D) (leaves_last w t D)) 15 _ _
      (found (length D) (leaves_last w t D) (LeavesLast w t D) (λ p l. leaves_last_at w t D p) (last_inside size))
      (not_found (length D) (leaves_last w t D) (LeavesLast w t D) (λ p l. leaves_last_at w t D p) (last_inside size)) (λ f.
      by_test (some 257 (split t D)) 16 _ _
      (found 257 (split t D) (Split t D) (λ N l. split_at t D N) (split_inside ok (none_strange d)))
      (not_found 257 (split t D) (Split t D) (λ N l. split_at t D N) (split_inside ok (none_strange d))) (λ g.
      by_test (some 257 (loose_net w t D)) 17 _ _
      (found 257 (loose_net w t D) (LooseEnd w t D) (λ N l. loose_at_lem w t D N) (loose_inside ok (none_strange d)))
      (not_found 257 (loose_net w t D) (LooseEnd w t D) (λ N l. loose_at_lem w t D N) (loose_inside ok (none_strange d))) (λ h.
      at_end))))))))

  -- THE PLACES
  -- the test of the entries that goes with a number
  abbrev test_of : ℕ → Bool
  test_of n =
      pick (eqb n 13) (some (length D) (strange top bottom D))
      (pick (eqb n 14 || (eqb n 19 || eqb n 20)) (some (length D) (mispinned top bottom t D))
      (pick (eqb n 15) (some (length D) (leaves_last w t D))
      (pick (eqb n 16) (some 257 (split t D))
      (pick (eqb n 17) (some 257 (loose_net w t D))
      (eqb n 0)))))

  -- of the numbers of a wrong pin edge
  pin_test : (n : ℕ) → PinFault n → (13 < n) × (test_of n ≡ some (length D) (mispinned top bottom t D))
  pin_test n is_14 = (omega arith, refl)
  pin_test n is_19 = (omega arith, refl)
  pin_test n is_20 = (omega arith, refl)

  -- it holds of their number
  tested : test_of (entries_refused top bottom w t D) ≡ true
  unfolding entries_refused
  tested =
      go (some (length D) (strange top bottom D)) refl (some (length D) (mispinned top bottom t D)) refl (some (length D) (leaves_last w t D)) refl
      (some 257 (split t D)) refl (some 257 (loose_net w t D)) refl
    where
      go :
          (a : Bool) → some (length D) (strange top bottom D) ≡ a → (b : Bool) → some (length D) (mispinned top bottom t D) ≡ b
          → (c : Bool) → some (length D) (leaves_last w t D) ≡ c → (d : Bool) → some 257 (split t D) ≡ d → (f : Bool) → some 257 (loose_net w t D) ≡ f
          → test_of (pick a 13 (pick b (pin_fault top bottom t D (first_mispinned top bottom t D)) (pick c 15 (pick d 16 (pick f 17 0))))) ≡ true
      go true e b h c i d j f k = e
      go false e true h c i d j f k = (pin_test _ (pin_fault_by top bottom t D (first_mispinned top bottom t D))).1 ∙ h
      go false e false h true i d j f k = i
      go false e false h false i true j f k = j
      go false e false h false i false j true k = k
      go false e false h false i false j false k = refl

  -- a number from 13 on is one of the entries, of accepted rows and a slice of the right size; its test holds
  record Reached (n : ℕ) : Type 0 where
    rows : rows_refused top bottom 256 ≡ 0
    size : length D ≡ w * (2 * t + 1)
    number : entries_refused top bottom w t D ≡ n
    test : test_of n ≡ true

  reached : (n : ℕ) → 13 ≤ n → refused top bottom w t D ≡ n → Reached n
  unfolding refused drawing_refused
  reached n l e = go (rows_refused top bottom 256) refl e
    where
      go : (k : ℕ) → rows_refused top bottom 256 ≡ k → first_refusal k (drawing_refused top bottom w t D) ≡ n → Reached n
      go zero z h =
          let (a, h₁) = pick_past (wrong_width top w) 10 _ n (omega arith) h in
          let (b, h₂) = pick_past (many_tracks t) 11 _ n (omega arith) h₁ in
          let (c, h₃) = pick_past (wrong_size w t D) 12 _ n (omega arith) h₂ in
          record {
            rows = z;
            size = eqb-true (length D) (w * (2 * t + 1)) (not-false _ c);
            number = h₃;
            test = subst (λ (k : ℕ). test_of k ≡ true) h₃ tested;
          }
      go (suc k) z h = absurd (omega (arith, z, h, rows_low top bottom 256))

  -- past 13 no entry is strange
  past_strange : (n : ℕ) → n ≢ 13 → Reached n → Some (Strange top bottom D) → ⊥
  unfolding entries_refused
  past_strange n o r = none_strange (pick_past (some (length D) (strange top bottom D)) 13 _ n (λ z. o (sym z)) r.number).0

  -- a pin edge is wrong, and the lowest has the number
  pin_reached :
      (n : ℕ) → PinFault n → refused top bottom w t D ≡ n
      → (length D ≡ w * (2 * t + 1)) × (some (length D) (mispinned top bottom t D) ≡ true) × (pin_fault top bottom t D (first_mispinned top bottom t D) ≡ n)
  unfolding entries_refused
  pin_reached n k e =
      let (l, same) = pin_test n k in
      let r = reached n (omega arith) e in
      let s : some (length D) (mispinned top bottom t D) ≡ true = sym same ∙ r.test in
      (r.size, s, taken _ _ _ n s (pick_past (some (length D) (strange top bottom D)) 13 _ n (omega arith) r.number).1)
    where
      taken : (q : Bool) (m rest n : ℕ) → q ≡ true → pick q m rest ≡ n → m ≡ n
      taken true m rest n e h = h
      taken false m rest n e h = absurd (not_both e refl)

  module _ (p : ℕ) where
    -- the place that goes with a number
    placed : (n : ℕ) → refused top bottom w t D ≡ n → p ≡ place top bottom w t D (refused top bottom w t D) → place top bottom w t D n ≡ p
    placed n e q = ap (place top bottom w t D) (sym e) ∙ sym q

    pub strange-least : refused top bottom w t D ≡ 13 → p ≡ place top bottom w t D (refused top bottom w t D) → Least (Strange top bottom D) p
    unfolding place
    strange-least e q =
        subst (Least (Strange top bottom D)) (placed 13 e q)
        (least_found (length D) (strange top bottom D) (Strange top bottom D) strange-words strange_inside (reached 13 (omega arith) e).test)

    -- of the three numbers of a wrong pin edge
    pub fault_least :
        {Fault : (row : List ℕ) (x e : ℕ) → Type 0} {n : ℕ} → FaultNumber Fault n → PinFault n → refused top bottom w t D ≡ n
        → p ≡ place top bottom w t D (refused top bottom w t D) → LowestFault Fault top bottom w t D p
    fault_least {Fault} {n} F k e q =
        let (size, s, f) = pin_reached n k e in
        subst (LowestFault Fault top bottom w t D) (sym (fault_place top bottom w t D n k) ∙ placed n e q) (lowest_fault size F s f)

    pub last-least : refused top bottom w t D ≡ 15 → p ≡ place top bottom w t D (refused top bottom w t D) → Least (LeavesLast w t D) p
    unfolding place
    last-least e q =
        let r = reached 15 (omega arith) e in
        subst (Least (LeavesLast w t D)) (placed 15 e q)
        (least_found (length D) (leaves_last w t D) (LeavesLast w t D) (λ p l. leaves_last_at w t D p) (last_inside r.size) r.test)

    pub split-least : refused top bottom w t D ≡ 16 → p ≡ place top bottom w t D (refused top bottom w t D) → Least (Split t D) p
    unfolding place
    split-least e q =
        let r = reached 16 (omega arith) e in
        subst (Least (Split t D)) (placed 16 e q)
        (least_found 257 (split t D) (Split t D) (λ N l. split_at t D N) (split_inside r.rows (past_strange 16 (omega arith) r)) r.test)

    pub loose_least : refused top bottom w t D ≡ 17 → p ≡ place top bottom w t D (refused top bottom w t D) → Least (LooseEnd w t D) p
    unfolding place
    loose_least e q =
        let r = reached 17 (omega arith) e in
        subst (Least (LooseEnd w t D)) (placed 17 e q)
        (least_found 257 (loose_net w t D) (LooseEnd w t D) (λ N l. loose_at_lem w t D N) (loose_inside r.rows (past_strange 17 (omega arith) r)) r.test)

    -- its column and row are those of the first
    pub loose_point :
        refused top bottom w t D ≡ 17 → p ≡ place top bottom w t D (refused top bottom w t D) → (c r : ℕ)
        → c ≡ column top bottom w t D (refused top bottom w t D) → r ≡ row top bottom w t D (refused top bottom w t D) → FirstLoose w t D p c r
    unfolding column row
    loose_point e q c r i k =
        let z : loose_net w t D p ≡ true = (loose_at_lem w t D p).1 (loose_least e q).is in
        rw (i, k, e, placed 17 e q) (loose_first w t D p z)
