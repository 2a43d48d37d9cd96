-- How many free tracks a column asks for, and that they are there.
use Prim.Native.Nat.{ℕ, suc, ◌+◌, ◌*◌, ◌-◌, ◌≤◌, ◌<◌, zero-le}
use mathlib.Core.Path.{◌≡◌, refl, sym, ap, ◌∙◌, subst}
use mathlib.Core.Logic.{◌⊎◌, inl, inr, ◌≢◌, ⊎_elim}
use mathlib.Core.Bool.{Bool, true, false, not, ◌&&◌, ◌||◌}
use mathlib.Core.List.{List}
use native.Mathlib.Omega.{arith}
use native.Mathlib.Nat.{mul-le-mul_left, mul-one}
use native.Mathlib.Decide.{ℕ_discrete}
use lib.Dec.{T, eqb, ltb}
use lib.ListN.{length, get_or}
use Rattle.grid.specs.declared.Family.TheVariants.{TwoPin}
use Rattle.grid.specs.Channel.{pick, bit, times, sum, count, left, right, is_open, open_at, density, family}
use Rattle.grid.proofs.Tests.{Same, same, same_by, Below, eq_bit, eqb-true, eqb-false, ltb-false, eq-eqb, ne_eqb, not-false, or_false}
use Rattle.grid.proofs.Counting.{sum_plus, sum_le, sum_scale, sum_one, length-times}
use Rattle.grid.proofs.Rows.{RowsFit, two_fit, HasPin, left_suc, right_suc, left-right, pin_step, pin_right, pin_left, pin_small, open_bit, open_density}
use Rattle.sweep.specs.declared.Pin.{Pin}
use Rattle.sweep.specs.declared.Joint.{Joint}
use Rattle.sweep.specs.Rules.{Kind, none, starts, continues, ends, kind_of}
use Rattle.sweep.specs.Drawing.{later, pin_at, joint_of, extended_net, net_to_join}
use Rattle.sweep.proofs.Gaps.Held.{Held, single, no_more}
use Rattle.sweep.proofs.Gaps.Pins.{On, Met, Stays, Pinned, pinned, top-later, of_true, both_on}
use Rattle.sweep.proofs.Gaps.Joints.{extended_calm, to_join_calm, to_join_few}

-- THE PINS' NETS by the tests of the rules

-- one net with both pins, where not both are none
pub not_none : (a b : ℕ) → (eqb a 0 && eqb b 0) ≡ false → a ≡ b → a ≢ 0
not_none a b i e z = subst T (rw (eq-eqb a 0 z, eq-eqb b 0 (sym e ∙ z)) at i) tt

-- another net at the bottom than the one at the top, where one has not both pins
pub not_one : (a b : ℕ) → (not (eqb a 0) && eqb a b) ≡ false → a ≢ 0 → b ≢ a
not_one a b i n e = subst T (rw (ne_eqb a 0 n, eq-eqb a b (sym e)) at i) tt

-- WHAT A COLUMN ASKS FOR

-- by its pins' kinds, where rule 2 does not fit
unfoldable pub asks_kinds : (A B : Pin) → Kind → Kind → ℕ
asks_kinds A B starts none = 1
asks_kinds A B none starts = 1
asks_kinds A B starts starts = 2
asks_kinds A B continues starts = 1
asks_kinds A B starts continues = 1
asks_kinds A B continues continues = pick (ltb B.low A.high) 0 (pick (eqb A.many 2) 0 (pick (eqb B.many 2) 0 1))
asks_kinds A B none none = 0
asks_kinds A B none continues = 0
asks_kinds A B continues none = 0
asks_kinds A B none ends = 0
asks_kinds A B starts ends = 0
asks_kinds A B continues ends = 0
asks_kinds A B ends none = 0
asks_kinds A B ends starts = 0
asks_kinds A B ends continues = 0
asks_kinds A B ends ends = 0

-- where rule 2 fits, none; nor where a net has both pins, unless it starts here, has later pins, and rule 2 does not fit
unfoldable pub asks_two : (A B : Pin) → Joint → ℕ
asks_two A B N = pick (not (eqb A.net 0) && eqb A.net B.net) 0 (pick (eqb N.net 0) (asks_kinds A B (kind_of A.kind) (kind_of B.kind)) 0)

unfoldable pub asks_many : (A B : Pin) → Joint → (later : Bool) → ℕ
asks_many A B N later =
    pick (eqb A.net 0 && eqb B.net 0) 0
    (pick (eqb A.net B.net) (pick (ltb 0 A.many || not later) 0 (pick (eqb N.net 0) 1 0))
    (pick (eqb N.net 0) (asks_kinds A B (kind_of A.kind) (kind_of B.kind)) 0))

-- a choice of what is small enough is small enough
pick_le : (b : Bool) {x y : ℕ} (z : ℕ) → (b ≡ true → x ≤ z) → (b ≡ false → y ≤ z) → pick b x y ≤ z
pick_le true z f g = f refl
pick_le false z f g = g refl

-- e for one number
sum_spot : (e x k : ℕ) → x ≢ 0 → x ≤ k → sum (λ v. e * bit (eqb x v)) k ≡ e
sum_spot e x k n p = sum_scale e (λ v. bit (eqb x v)) k ∙ ap (λ (z : ℕ). e * z) (sum_one x k n p) ∙ mul-one e

module _ {t : ℕ} (top bottom : List ℕ) (fit : RowsFit top bottom) (c : ℕ) (inside : c < length top) (tr : List ℕ) (h : Held t top bottom c tr) where
  -- A CALM GAP: rule 2 does not fit, and no pin ends its net. The tracks hold m strands at most for each open net
  module _ (m : ℕ) (cap : (v : ℕ) → v ≢ 0 → 0 < right top bottom c v → times v tr ≤ m) (calm : (v : ℕ) → v ≢ 0 → right top bottom c v ≡ 0 → times v tr ≡ 0)
      (goes_on : (v : ℕ) → v ≢ 0 → HasPin top bottom v c → On top bottom c v) where
    -- each net's strands are m at most for an open net
    base : (v : ℕ) → v ≢ 0 → times v tr ≤ m * bit (is_open top bottom (suc c) v)
    base v n = go (ℕ_discrete (right top bottom (suc c) v) 0) (ℕ_discrete (left top bottom (suc c) v) 0)
      where
        quiet : right top bottom (suc c) v ≡ 0 → right top bottom c v ≡ 0
        quiet z =
            ⊎_elim (λ d. absurd (omega (arith, goes_on v n (inl d.0)))) (λ d.
            ⊎_elim (λ e. absurd (omega (arith, goes_on v n (inr e.0)))) (λ e. omega (arith, right_suc top bottom v c n))
            (eq_bit (get_or bottom c 0) v)) (eq_bit (get_or top c 0) v)

        go : Dec (right top bottom (suc c) v ≡ 0) → Dec (left top bottom (suc c) v ≡ 0) → times v tr ≤ m * bit (is_open top bottom (suc c) v)
        go (yes z) y = omega (arith, calm v n (quiet z))
        go (no z) (yes y) = omega (arith, h.few v n, left_suc top bottom v c n)
        go (no z) (no y) =
            subst (λ (q : ℕ). times v tr ≤ m * q) (sym (open_bit top bottom (suc c) v (omega arith) (omega arith)))
            (omega (arith, cap v n (omega (arith, right_suc top bottom v c n))))

    -- two of the column's nets may have e and g strands fewer, and these tracks are free
    space : (e g a b : ℕ) → a ≢ 0 → b ≢ 0 → HasPin top bottom a c → HasPin top bottom b c → (a ≢ b) ⊎ (g ≡ 0) → times a tr + e ≤ m → times b tr + g ≤ m
        → t + (e + g) ≤ times 0 tr + m * density top bottom
    unfolding open_at count
    space e g a b n k at_a at_b o p q =
        omega (
          arith,
          h.size,
          length-times tr 256 (no_more top bottom fit c tr h),
          all,
          sum_plus (λ v. times v tr) (λ v. e * bit (eqb a v) + g * bit (eqb b v)) 256,
          sum_plus (λ v. e * bit (eqb a v)) (λ v. g * bit (eqb b v)) 256,
          sum_spot e a 256 n (pin_small top bottom fit a c n at_a),
          sum_spot g b 256 k (pin_small top bottom fit b c k at_b),
          sum_scale m (λ v. bit (is_open top bottom (suc c) v)) 256,
          mul-le-mul_left m (open_density top bottom (suc c) (omega (arith, fit.same)) (omega arith) inside),
        )
      where
        full : (v : ℕ) → v ≢ 0 → HasPin top bottom v c → (x : ℕ) → times v tr + x ≤ m → times v tr + x ≤ m * bit (is_open top bottom (suc c) v)
        full v n here x r = subst (λ (z : ℕ). times v tr + x ≤ m * z) (sym (open_bit top bottom (suc c) v (pin_left top bottom v c n here) (goes_on v n here)))
            (omega arith)

        at : (v : ℕ) → times (suc v) tr + (e * bit (eqb a (suc v)) + g * bit (eqb b (suc v))) ≤ m * bit (is_open top bottom (suc c) (suc v))
        at v = go (eqb a (suc v)) (same_by a (suc v)) (eqb b (suc v)) (same_by b (suc v))
          where
            go : (i : Bool) → Same a (suc v) i → (j : Bool) → Same b (suc v) j
                → times (suc v) tr + (e * bit i + g * bit j) ≤ m * bit (is_open top bottom (suc c) (suc v))
            go true (same x) true (same y) = ⊎_elim (λ d. absurd (d (x ∙ sym y))) (λ z. let w = rw x at (full a n at_a e p) in omega arith) o
            go true (same x) false y = let w = rw x at (full a n at_a e p) in omega arith
            go false x true (same y) = let w = rw y at (full b k at_b g q) in omega arith
            go false x false y = omega (arith, base (suc v) (omega arith))

        all : sum (λ v. times v tr + (e * bit (eqb a v) + g * bit (eqb b v))) 256 ≤ sum (λ v. m * bit (is_open top bottom (suc c) v)) 256
        all = sum_le (λ v. times v tr + (e * bit (eqb a v) + g * bit (eqb b v))) (λ v. m * bit (is_open top bottom (suc c) v)) 256 at

  module _ (A B : Pin) (p : Pinned top bottom c tr A B) where
    -- the top pin's net has a pin here
    at_a : HasPin top bottom A.net c
    at_a = inl p.above.net

    -- and the bottom pin's
    at_b : HasPin top bottom B.net c
    at_b = inr p.below.net

    -- THE SIXTEEN PAIRS OF KINDS. m strands at most for each open net; one starting net leaves m free, two 2m
    module _ (d : B.net ≢ A.net) (m : ℕ) (cap : (v : ℕ) → v ≢ 0 → 0 < right top bottom c v → times v tr ≤ m)
        (calm : (v : ℕ) → v ≢ 0 → right top bottom c v ≡ 0 → times v tr ≡ 0) where
      -- a net that starts has no strand yet
      one_starts : (k l : Kind) → Met top bottom c tr A k → Met top bottom c tr B l → Stays k → Stays l → (v : ℕ) → v ≢ 0 → HasPin top bottom v c
          → left top bottom c v ≡ 0
          → t + m ≤ times 0 tr + m * density top bottom
      one_starts k l a b s r v n here z =
          let w = h.few v n in
          let x = space m cap calm (both_on top bottom fit c tr A B p d k l a b s r) m 0 v v n n here here (inr refl) (omega arith) (omega arith) in
          omega arith

      -- two nets that start
      both_start_lem : Met top bottom c tr A starts → Met top bottom c tr B starts → t + (m + m) ≤ times 0 tr + m * density top bottom
      both_start_lem a b =
          let w = h.few A.net a.0 in
          let x = h.few B.net b.0 in
          space m cap calm (both_on top bottom fit c tr A B p d starts starts a b tt tt) m m A.net B.net a.0 b.0 at_a at_b (inl (λ i. d (sym i)))
          (omega (arith, a.1)) (omega (arith, b.1))

      -- by the kinds
      kinds_room : (t + m ≤ times 0 tr + m * density top bottom → 1 ≤ times 0 tr)
          → (t + (m + m) ≤ times 0 tr + m * density top bottom → 2 ≤ times 0 tr)
          → (Met top bottom c tr A continues → Met top bottom c tr B continues → asks_kinds A B continues continues ≤ times 0 tr)
          → (k l : Kind) → Met top bottom c tr A k → Met top bottom c tr B l → asks_kinds A B k l ≤ times 0 tr
      unfolding asks_kinds
      kinds_room one two cross none none a b = zero-le
      kinds_room one two cross none starts a b = one (one_starts none starts a b tt tt B.net b.0 at_b b.1)
      kinds_room one two cross none continues a b = zero-le
      kinds_room one two cross none ends a b = zero-le
      kinds_room one two cross starts none a b = one (one_starts starts none a b tt tt A.net a.0 at_a a.1)
      kinds_room one two cross starts starts a b = two (both_start_lem a b)
      kinds_room one two cross starts continues a b = one (one_starts starts continues a b tt tt A.net a.0 at_a a.1)
      kinds_room one two cross starts ends a b = zero-le
      kinds_room one two cross continues none a b = zero-le
      kinds_room one two cross continues starts a b = one (one_starts continues starts a b tt tt B.net b.0 at_b b.1)
      kinds_room one two cross continues continues a b = cross a b
      kinds_room one two cross continues ends a b = zero-le
      kinds_room one two cross ends none a b = zero-le
      kinds_room one two cross ends starts a b = zero-le
      kinds_room one two cross ends continues a b = zero-le
      kinds_room one two cross ends ends a b = zero-le

    -- no pins ask for nothing
    idle : (k l : Kind) → Met top bottom c tr A k → Met top bottom c tr B l → A.net ≡ 0 → B.net ≡ 0 → asks_kinds A B k l ≤ times 0 tr
    unfolding asks_kinds
    idle none none a b x y = zero-le
    idle none starts a b x y = absurd (b.0 y)
    idle none continues a b x y = zero-le
    idle none ends a b x y = zero-le
    idle starts l a b x y = absurd (a.0 x)
    idle continues l a b x y = absurd (a.0.some x)
    idle ends l a b x y = absurd (a.0.some x)

    -- CHANNELS OF TWO-PIN NETS: an open net has one strand
    module _ (e : family top bottom ≡ TwoPin) where
      -- no pin continues
      pub never : (C : Pin) → HasPin top bottom C.net c → Met top bottom c tr C continues → ⊥
      never C here a = omega (
        arith,
        two_fit top bottom fit e C.net (omega (arith, a.0.some)),
        left-right top bottom C.net c,
        pin_step top bottom C.net c a.0.some here,
        a.1,
        a.2,
      )

      -- what a column asks for is there
      two_room : density top bottom ≤ t → (N : Joint) → (N.net ≡ 0 → (v : ℕ) → v ≢ 0 → right top bottom c v ≡ 0 → times v tr ≡ 0) → asks_two A B N ≤ times 0 tr
      unfolding asks_two
      two_room big N calm =
          pick_le (not (eqb A.net 0) && eqb A.net B.net) (times 0 tr) (λ i. zero-le) (λ i.
          pick_le (eqb N.net 0) (times 0 tr) (λ j. go i (calm (eqb-true N.net 0 j)) (ℕ_discrete B.net A.net) (ℕ_discrete A.net 0))
          (λ j. zero-le))
        where
          go : (not (eqb A.net 0) && eqb A.net B.net) ≡ false → ((v : ℕ) → v ≢ 0 → right top bottom c v ≡ 0 → times v tr ≡ 0) → Dec (B.net ≡ A.net)
              → Dec (A.net ≡ 0)
              → asks_kinds A B (kind_of A.kind) (kind_of B.kind) ≤ times 0 tr
          go i q (no d) z =
              kinds_room d 1 (single top bottom fit c tr h e) q (λ x. omega (arith, big)) (λ x. omega (arith, big)) (λ a b. absurd (never A at_a a))
              (kind_of A.kind) (kind_of B.kind) p.above.met p.below.met
          go i q (yes x) (yes z) = idle (kind_of A.kind) (kind_of B.kind) p.above.met p.below.met z (x ∙ z)
          go i q (yes x) (no z) = absurd (not_one A.net B.net i z x)

    -- CHANNELS WITH A NET OF THREE OR MORE PINS: an open net has two strands at most
    module _ (big : 2 * density top bottom - 1 ≤ t) (N : Joint) (later : Bool) (told : A.net ≢ 0 → Below 0 (right top bottom (suc c) A.net) later)
        (calm : N.net ≡ 0 → (v : ℕ) → v ≢ 0 → right top bottom c v ≡ 0 → times v tr ≡ 0)
        (few : N.net ≡ 0 → (v : ℕ) → v ≢ 0 → 0 < right top bottom c v → times v tr ≤ 2) where
      -- a net that starts with both pins here
      both_room : N.net ≡ 0 → A.net ≢ 0 → A.net ≡ B.net → times A.net tr ≡ 0 → On top bottom c A.net → 1 ≤ times 0 tr
      both_room z n x y r =
          let w = space 2 (few z) (calm z) on_here 2 0 A.net A.net n n at_a at_a (inr refl) (omega arith) (omega arith) in
          omega (arith, big)
        where
          on_here : (v : ℕ) → v ≢ 0 → HasPin top bottom v c → On top bottom c v
          on_here v m (inl i) = subst (On top bottom c) (sym p.above.net ∙ i) r
          on_here v m (inr i) = subst (On top bottom c) (x ∙ sym p.below.net ∙ i) r

      -- two continuing pins, of nets with one strand each
      cross_room : N.net ≡ 0 → B.net ≢ A.net → Met top bottom c tr A continues → Met top bottom c tr B continues
          → asks_kinds A B continues continues ≤ times 0 tr
      unfolding asks_kinds
      cross_room z d a b =
          pick_le (ltb B.low A.high) (times 0 tr) (λ i. zero-le) (λ i.
          pick_le (eqb A.many 2) (times 0 tr) (λ j. zero-le) (λ j.
          pick_le (eqb B.many 2) (times 0 tr) (λ k. zero-le) (λ k.
          let n = a.0.some in
          let m = b.0.some in
          let x = eqb-false A.many 2 j in
          let y = eqb-false B.many 2 k in
          let w = space 2 (few z) (calm z) (both_on top bottom fit c tr A B p d continues continues a b tt tt) 1 1 A.net B.net n m at_a at_b
          (inl (λ x. d (sym x)))
          (omega (arith, a.0.count, few z A.net n (pin_right top bottom A.net c n at_a)))
          (omega (arith, b.0.count, few z B.net m (pin_right top bottom B.net c m at_b))) in
          omega (arith, big))))

      -- what a column asks for is there
      many_room : asks_many A B N later ≤ times 0 tr
      unfolding asks_many
      many_room =
          pick_le (eqb A.net 0 && eqb B.net 0) (times 0 tr) (λ i. zero-le) (λ i.
          pick_le (eqb A.net B.net) (times 0 tr)
          (λ j. pick_le (ltb 0 A.many || not later) (times 0 tr) (λ k. zero-le) (λ k. pick_le (eqb N.net 0) (times 0 tr)
          (λ l.
          let o = or_false (ltb 0 A.many) (not later) k in
          let x = eqb-true A.net B.net j in
          let n = not_none A.net B.net i x in
          both_room (eqb-true N.net 0 l) n x (omega (arith, p.above.some n, ltb-false 0 A.many o.0)) (of_true (told n) (not-false later o.1)))
          (λ l. zero-le)))
          (λ j. pick_le (eqb N.net 0) (times 0 tr)
          (λ l. let z = eqb-true N.net 0 l in let d : B.net ≢ A.net = λ x. eqb-false A.net B.net j (sym x) in
          kinds_room d 2 (few z) (calm z) (λ x. omega (arith, big)) (λ x. omega (arith, big)) (cross_room z d)
          (kind_of A.kind) (kind_of B.kind) p.above.met p.below.met)
          (λ l. zero-le)))

  -- THE ROOM: the free tracks that a column asks for are there
  abbrev A : Pin
  A = pin_at top bottom c tr (get_or top c 0)

  abbrev B : Pin
  B = pin_at top bottom c tr (get_or bottom c 0)

  -- in two-pin channels
  pub two_pin_room : family top bottom ≡ TwoPin → density top bottom ≤ t → asks_two A B (joint_of top bottom c tr (extended_net top bottom c tr)) ≤ times 0 tr
  two_pin_room e big = two_room A B (pinned top bottom c tr h) e big (joint_of top bottom c tr (extended_net top bottom c tr)) (extended_calm top bottom c tr h)

  -- in many-pin channels
  pub many_pin_room : 2 * density top bottom - 1 ≤ t
      → asks_many A B (joint_of top bottom c tr (net_to_join top bottom c tr)) (later top bottom (suc c) (get_or top c 0)) ≤ times 0 tr
  many_pin_room big =
      many_room A B (pinned top bottom c tr h) big (joint_of top bottom c tr (net_to_join top bottom c tr)) (later top bottom (suc c) (get_or top c 0))
      (top-later top bottom c tr h (pinned top bottom c tr h).above)
      (to_join_calm top bottom c tr h) (to_join_few top bottom c tr h)
