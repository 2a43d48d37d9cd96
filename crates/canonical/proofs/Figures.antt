-- A renaming keeps the density, the family and so the tracks. Assumes nothing.
use Prim.Native.Nat.{ℕ, zero, suc, ◌+◌, ◌-◌, ◌≤◌, ◌<◌}
use mathlib.Core.Path.{◌≡◌, refl, sym, ap, ap₂, ◌∙◌}
use mathlib.Core.Logic.{inl, inr, ◌≢◌}
use mathlib.Core.Bool.{Bool, true, false, not, ◌&&◌, ◌||◌}
use mathlib.Core.List.{List, [], ◌∷◌, map}
use native.Mathlib.Omega.{arith}
use native.Mathlib.Decide.{dec_lt}
use lib.Dec.{eqb, ltb}
use lib.ListN.{length, get_or, take, drop, length-map}
use Rattle.grid.specs.Channel.{pick, bit, times, sum, count, pins, left, right, is_open, open_at, largest, density, first_two_at, first_two_to}
use Rattle.grid.proofs.Tests.{ltb-true, ne_eqb, Same, same, diff, same_by}
use Rattle.grid.proofs.Sums.{sum_same}
use Rattle.grid.proofs.Rows.{RowsFit, left-right, open_sides}
use Rattle.canonical.specs.Renaming.{IsNet, Renames}
use Rattle.canonical.proofs.Ranks.{same_test, times-map}
use Rattle.canonical.proofs.Order.{Terminal, terminal_by, top_terminal, bottom_terminal, renamed_at}
use Rattle.canonical.proofs.Renamed.{one_to_one, same_pins}

-- A COUNT THAT IS CARRIED ELSEWHERE

-- a test that fails at x
abbrev but : (ℕ → Bool) → ℕ → ℕ → Bool
but q x v = pick (eqb x v) false (q v)

-- one of 1 to m that passes, taken out
count_but : (q : ℕ → Bool) (x m : ℕ) → 1 ≤ x → x ≤ m → q x ≡ true → count q m ≡ suc (count (but q x) m)
unfolding count sum
count_but q x zero a b t = absurd (omega arith)
count_but q x (suc m) a b t = go (eqb x (suc m)) (same_by x (suc m)) (λ l. count_but q x m a l t)
  where
    go : (p : Bool) → Same x (suc m) p → (x ≤ m → sum (λ v. bit (q v)) m ≡ suc (sum (λ v. bit (but q x v)) m))
        → sum (λ v. bit (q v)) m + bit (q (suc m)) ≡ suc (sum (λ v. bit (but q x v)) m + bit (pick p false (q (suc m))))
    go true (same e) ih =
        let s = sum_same (λ v. bit (q v)) (λ v. bit (but q x v)) m (λ v c d. sym (ap (λ p. bit (pick p false (q v))) (ne_eqb x v (λ y. let u : ⊥ = omega arith in u)))) in
        let k = ap bit (ap q (sym e) ∙ t) in
        omega arith
    go false (diff n) ih = omega (arith, ih (omega arith))

-- numbers 1 to k that pass p, each carried by f to one of 1 to m that passes q, no two to one: they are no more
count_into : (f : ℕ → ℕ) (p q : ℕ → Bool) (k m : ℕ)
    → ((v : ℕ) → 1 ≤ v → v ≤ k → p v ≡ true → (1 ≤ f v) × (f v ≤ m) × (q (f v) ≡ true))
    → ((u v : ℕ) → p u ≡ true → p v ≡ true → f u ≡ f v → u ≡ v) → count p k ≤ count q m
unfolding count sum
count_into f p q zero m into one = omega arith
count_into f p q (suc k) m into one = go (p (suc k)) refl (λ q' h. count_into f p q' k m h one)
  where
    rest : p (suc k) ≡ true → (v : ℕ) → 1 ≤ v → v ≤ k → p v ≡ true → (1 ≤ f v) × (f v ≤ m) × (but q (f (suc k)) (f v) ≡ true)
    rest t v a b s =
        let (c, d, e) = into v a (omega arith) s in
        (c, d, ap (λ z. pick z false (q (f v))) (ne_eqb (f (suc k)) (f v) (λ y. let w = one (suc k) v t s y in let u : ⊥ = omega arith in u)) ∙ e)

    go : (b : Bool) → p (suc k) ≡ b
        → ((q' : ℕ → Bool) → ((v : ℕ) → 1 ≤ v → v ≤ k → p v ≡ true → (1 ≤ f v) × (f v ≤ m) × (q' (f v) ≡ true))
        → sum (λ v. bit (p v)) k ≤ sum (λ v. bit (q' v)) m)
        → sum (λ v. bit (p v)) k + bit (p (suc k)) ≤ sum (λ v. bit (q v)) m
    go true t ih =
        let (c, d, e) = into (suc k) (omega arith) (omega arith) t in
        omega (arith, ih (but q (f (suc k))) (rest t), ap bit t, count_but q (f (suc k)) m c d e)
    go false t ih = omega (arith, ap bit t, ih q (λ v a b s. into v a (omega arith) s))

-- PARTS OF A RENAMED ROW

take-map : (f : ℕ → ℕ) (c : ℕ) (l : List ℕ) → take c (map f l) ≡ map f (take c l)
take-map f zero l = refl
take-map f (suc c) [] = refl
take-map f (suc c) (x ∷ xs) = ap (λ z. f x ∷ z) (take-map f c xs)

drop-map : (f : ℕ → ℕ) (c : ℕ) (l : List ℕ) → drop c (map f l) ≡ map f (drop c l)
drop-map f zero l = refl
drop-map f (suc c) [] = refl
drop-map f (suc c) (x ∷ xs) = drop-map f c xs

-- what holds of each number of a row, and of 0, holds of those of a part
take_all_of : (P : ℕ → Type 0) (c : ℕ) (l : List ℕ) → P 0 → ((i : ℕ) → P (get_or l i 0)) → (i : ℕ) → P (get_or (take c l) i 0)
take_all_of P zero l z h i = z
take_all_of P (suc c) [] z h i = z
take_all_of P (suc c) (x ∷ xs) z h zero = h 0
take_all_of P (suc c) (x ∷ xs) z h (suc i) = take_all_of P c xs z (λ j. h (suc j)) i

drop_all_of : (P : ℕ → Type 0) (c : ℕ) (l : List ℕ) → P 0 → ((i : ℕ) → P (get_or l i 0)) → (i : ℕ) → P (get_or (drop c l) i 0)
drop_all_of P zero l z h i = h i
drop_all_of P (suc c) [] z h i = z
drop_all_of P (suc c) (x ∷ xs) z h i = drop_all_of P c xs z (λ j. h (suc j)) i

-- THE OPEN NETS

module _ (top bottom : List ℕ) (fit : RowsFit top bottom) (f : ℕ → ℕ) (r : Renames f top bottom (map f top) (map f bottom))
    (fit' : RowsFit (map f top) (map f bottom)) where
  one : (u v : ℕ) → Terminal top bottom fit u → Terminal top bottom fit v → f u ≡ f v → u ≡ v
  one = one_to_one top bottom fit f r

  -- the pins of a renamed net in a part of the rows
  part_same : (part : List ℕ → List ℕ) → ((l : List ℕ) → part (map f l) ≡ map f (part l))
      → ((l : List ℕ) → ((i : ℕ) → Terminal top bottom fit (get_or l i 0)) → (i : ℕ) → Terminal top bottom fit (get_or (part l) i 0))
      → (v : ℕ) → Terminal top bottom fit v → times (f v) (part (map f top)) + times (f v) (part (map f bottom)) ≡ times v (part top) + times v (part bottom)
  part_same part moves keeps v t =
      ap₂ ◌+◌
      (ap (times (f v)) (moves top) ∙ times-map f v (part top) (λ i. one _ _ (keeps top (top_terminal top bottom fit) i) t))
      (ap (times (f v)) (moves bottom) ∙ times-map f v (part bottom) (λ i. one _ _ (keeps bottom (bottom_terminal top bottom fit) i) t))

  left_same : (c v : ℕ) → Terminal top bottom fit v → left (map f top) (map f bottom) c (f v) ≡ left top bottom c v
  unfolding left
  left_same c v t = part_same (take c) (take-map f c) (λ l h. take_all_of (Terminal top bottom fit) c l (inl refl) h) v t

  right_same : (c v : ℕ) → Terminal top bottom fit v → right (map f top) (map f bottom) c (f v) ≡ right top bottom c v
  unfolding right
  right_same c v t = part_same (drop c) (drop-map f c) (λ l h. drop_all_of (Terminal top bottom fit) c l (inl refl) h) v t

  -- an open net is open after the renaming
  open_same : (c v : ℕ) → Terminal top bottom fit v → is_open (map f top) (map f bottom) c (f v) ≡ is_open top bottom c v
  unfolding is_open
  open_same c v t = ap₂ (λ a b. ltb 0 a && ltb 0 b) (left_same c v t) (right_same c v t)

  -- an open net has pins
  open_net : (c v : ℕ) → v ≢ 0 → is_open top bottom c v ≡ true → IsNet top bottom v
  open_net c v n e = record { number = n; pinned = omega (arith, (open_sides top bottom c v e).0, left-right top bottom v c) }

  open_terminal : (c v : ℕ) → is_open top bottom c v ≡ true → Terminal top bottom fit v
  open_terminal c v e = terminal_by top bottom fit v (λ n. open_net c v n e)

  -- the number of a renamed net is one of 1 to 256
  renamed_small : (v : ℕ) → IsNet top bottom v → (1 ≤ f v) × (f v ≤ 256)
  renamed_small v net = (positive (f v) (r.net v net), within (dec_lt 256 (f v)))
    where
      positive : (w : ℕ) → w ≢ 0 → 1 ≤ w
      positive w n = omega arith

      within : Dec (256 < f v) → f v ≤ 256
      within (yes h) = absurd (omega (arith, net.pinned, same_pins top bottom fit f r v (inr net), fit'.small (f v) h))
      within (no h) = omega arith

  -- so no fewer nets are open
  open_le : (c : ℕ) → open_at top bottom c ≤ open_at (map f top) (map f bottom) c
  unfolding open_at
  open_le c =
      count_into f (is_open top bottom c) (is_open (map f top) (map f bottom) c) 256 256
      (λ v a b e. let net = open_net c v (λ z. let x : ⊥ = omega arith in x) e in let s = renamed_small v net in (s.0, s.1, open_same c v (inr net) ∙ e))
      (λ u v p q e. one u v (open_terminal c u p) (open_terminal c v q) e)

  largest_grows : (k : ℕ) → largest top bottom k ≤ largest (map f top) (map f bottom) k
  unfolding largest
  largest_grows zero = omega arith
  largest_grows (suc k) = omega (arith, largest_grows k, open_le (suc k))

  pub density_grows : density top bottom ≤ density (map f top) (map f bottom)
  unfolding density
  density_grows = omega (arith, largest_grows (length top - 1), ap (λ n. largest (map f top) (map f bottom) (n - 1)) (length-map top f))

  -- and no fewer nets have more than k pins
  pub larger_le : (k : ℕ) → count (λ v. ltb k (pins top bottom v)) 256 ≤ count (λ v. ltb k (pins (map f top) (map f bottom) v)) 256
  larger_le k =
      count_into f (λ v. ltb k (pins top bottom v)) (λ v. ltb k (pins (map f top) (map f bottom) v)) 256 256
      (λ v a b e.
      let net = larger_net v (λ z. let x : ⊥ = omega arith in x) e in
      let s = renamed_small v net in
      (s.0, s.1, ap (ltb k) (same_pins top bottom fit f r v (inr net)) ∙ e))
      (λ u v p q e. one u v (larger_terminal u p) (larger_terminal v q) e)
    where
      larger_net : (v : ℕ) → v ≢ 0 → ltb k (pins top bottom v) ≡ true → IsNet top bottom v
      larger_net v n e = record { number = n; pinned = omega (arith, ltb-true k (pins top bottom v) e) }

      larger_terminal : (v : ℕ) → ltb k (pins top bottom v) ≡ true → Terminal top bottom fit v
      larger_terminal v e = terminal_by top bottom fit v (λ n. larger_net v n e)

  -- the same columns have the first two pins of a net of three
  first_two_same : (c : ℕ) → first_two_at (map f top) (map f bottom) c ≡ first_two_at top bottom c
  unfolding first_two_at
  first_two_same c =
      let v = get_or top c 0 in
      let w = get_or bottom c 0 in
      let t = top_terminal top bottom fit c in
      let b = bottom_terminal top bottom fit c in
      ap₂ first_two (renamed_at f r.none top c) (renamed_at f r.none bottom c)
      ∙ ap (λ q. not q && (eqb (f v) (f w) && (eqb (pins (map f top) (map f bottom) (f v)) 3 && eqb (left (map f top) (map f bottom) c (f v)) 0)))
      (ap (eqb (f v)) (sym r.none) ∙ same_test f v 0 (one v 0 t (inl refl)))
      ∙ ap (λ q. not (eqb v 0) && (q && (eqb (pins (map f top) (map f bottom) (f v)) 3 && eqb (left (map f top) (map f bottom) c (f v)) 0)))
      (same_test f v w (one v w t b))
      ∙ ap₂ (λ m n. not (eqb v 0) && (eqb v w && (eqb m 3 && eqb n 0))) (same_pins top bottom fit f r v t) (left_same c v t)
    where
      first_two : ℕ → ℕ → Bool
      first_two u v = not (eqb u 0) && (eqb u v && (eqb (pins (map f top) (map f bottom) u) 3 && eqb (left (map f top) (map f bottom) c u) 0))

  pub first_two_to_lem : (c : ℕ) → first_two_to (map f top) (map f bottom) c ≡ first_two_to top bottom c
  unfolding first_two_to
  first_two_to_lem zero = refl
  first_two_to_lem (suc c) = ap₂ ◌||◌ (first_two_to_lem c) (first_two_same c)
