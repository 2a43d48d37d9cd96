-- Whatever action the rules of a sweep choose is good.
use Prim.Native.Nat.{ℕ, suc, ◌*◌, ◌-◌, ◌≤◌, ◌<◌}
use mathlib.Core.Path.{◌≡◌, refl, sym, ap, ◌∙◌, subst, subst₂}
use mathlib.Core.Logic.{◌⊎◌, inl, inr, ◌≢◌, ⊎_elim}
use mathlib.Core.Bool.{Bool, true, false, not, ◌&&◌, ◌||◌}
use mathlib.Core.List.{List}
use native.Mathlib.Omega.{arith}
use native.Mathlib.Decide.{ℕ_discrete}
use lib.Dec.{eqb, ltb}
use lib.ListN.{length, get_or}
use Rattle.grid.specs.declared.Family.TheVariants.{TwoPin, ManyPin}
use Rattle.grid.specs.Channel.{pick, bit, times, right, density, family}
use Rattle.grid.proofs.Tests.{Below, eqb-true, eqb-false, ltb-true, ltb-false, eq-eqb, and_true, or_false, not-true, not-false}
use Rattle.grid.proofs.Rows.{RowsFit, two_fit, HasPin, left-right, right_suc, pin_right}
use Rattle.sweep.specs.declared.Action.{Action}
use Rattle.sweep.specs.declared.Pin.{Pin}
use Rattle.sweep.specs.declared.Free.{Free}
use Rattle.sweep.specs.declared.Joint.{Joint}
use Rattle.sweep.specs.Rules.{Kind, none, starts, continues, ends, kind_of, straight, full, join_net, top_takes_free, bottom_takes_free, both_take_free}
use Rattle.sweep.specs.Rules.{top_ends, bottom_ends, both_end, lies_below}
use Rattle.sweep.specs.TwoPin
use Rattle.sweep.specs.TwoPin.{join_or, choose_two}
use Rattle.sweep.specs.ManyPin
use Rattle.sweep.specs.ManyPin.{top_continues, bottom_continues, both_continue, both_pins, choose_many}
use Rattle.sweep.specs.Drawing.{free_of, later, pin_at, joint_of, extended_net, net_to_join, move_of}
use Rattle.sweep.proofs.Tracks.Strands.{Strand}
use Rattle.sweep.proofs.Columns.Sound.{Grant, grant_idle, grant_free, grant_old}
use Rattle.sweep.specs.Working.{top_net}
use Rattle.sweep.proofs.Gaps.Held.{Held}
use Rattle.sweep.proofs.Gaps.Pins.{Reaches, LowestFree, lowest-free, On, Off, Met, Placed, Pinned, pinned, Stays, begun, both_on, top-later, true_of}
use Rattle.sweep.proofs.Gaps.Pins.{false_of, of_true}
use Rattle.sweep.proofs.Gaps.Joints.{Joins, extended_joins, to_join_joins, to_join_few}
use Rattle.sweep.proofs.Rules.Room.{asks_kinds, asks_two, asks_many, never, not_none, not_one, two_pin_room, many_pin_room}
use Rattle.sweep.proofs.Actions.Good.{Good, BothOn, Begun}
use Rattle.sweep.proofs.Actions.Free.{straight_good, full_good, top_takes_free_good, bottom_takes_free_good, both_take_free_good}
use Rattle.sweep.proofs.Actions.Ends.{top_ends_good, bottom_ends_good, both_join_good}
use Rattle.sweep.proofs.Actions.Continues.{top_direct_good, bottom_direct_good, both_direct_good, top_goes_good, bottom_goes_good, top_joins_good}
use Rattle.sweep.proofs.Actions.Continues.{bottom_joins_good, top_moves_good, bottom_moves_good}
use Rattle.sweep.proofs.Actions.Joins.{join_net_good}

-- an action or a move chosen by a test
pub by : {X : Type 0} (F : X → Type 0) (b : Bool) {x y : X} → (b ≡ true → F x) → (b ≡ false → F y) → F (pick b x y)
by F true f g = f refl
by F false f g = g refl

-- and with it the free tracks asked for
by_room : (F : Action → Type 0) (z : ℕ) (b : Bool) {x y : Action} {m n : ℕ} → pick b m n ≤ z → (b ≡ true → m ≤ z → F x) → (b ≡ false → n ≤ z → F y)
    → F (pick b x y)
by_room F z true p f g = f refl p
by_room F z false p f g = g refl p

-- the pins' nets by the rows
pub by_rows : {top bottom : List ℕ} {c t : ℕ} {tr : List ℕ} {A B : Pin} {x : Action} → Pinned top bottom c tr A B
    → Good top bottom c t tr A.net B.net x → Good top bottom c t tr (get_or top c 0) (get_or bottom c 0) x
by_rows {top} {bottom} {c} {t} {tr} {x = x} pin g =
    subst₂ (λ (p q : ℕ). Good top bottom c t tr p q x) (sym pin.above.net) (sym pin.below.net) g

module _ (top bottom : List ℕ) (fit : RowsFit top bottom) (c t : ℕ) (tr : List ℕ) (size : length tr ≡ t) (A B : Pin) (pin : Pinned top bottom c tr A B)
    (f : Free) (free : LowestFree tr f.first f.second) where
  -- good for the column's pins
  abbrev pub Fine : Action → Type 0
  Fine x = Good top bottom c t tr A.net B.net x

  -- no pins
  pub no_pins : A.net ≡ 0 → B.net ≡ 0 → Fine straight
  no_pins a b = subst₂ (λ (p q : ℕ). Good top bottom c t tr p q straight) (sym a) (sym b) (straight_good top bottom c t tr size)

  -- one net has both pins
  pub full_here : (y : ℕ) → A.net ≢ 0 → A.net ≡ B.net → Grant A.net A.net A.net tr y A.net → (On top bottom c A.net → (u : ℕ) × Strand u tr y)
      → (Off top bottom c A.net → y ≡ 0)
      → Fine (full t A.net y)
  full_here y n e g s z = subst (λ (q : ℕ). Good top bottom c t tr A.net q (full t A.net y)) e (full_good top bottom c t tr size A.net y n g s z)

  -- TWO PINS THAT ARE NOT OF ONE NET
  module _ (d : B.net ≢ A.net) where
    -- the pins as the rows have them
    pub here : (v : ℕ) → (A.net ≡ v) ⊎ (B.net ≡ v) → HasPin top bottom v c
    here v (inl i) = inl (pin.above.net ∙ i)
    here v (inr i) = inr (pin.below.net ∙ i)

    -- a net with its last pin here has pins before
    pub started : Begun top bottom c t tr A.net B.net
    started v n o = begun top bottom fit c tr A B pin d v n (here v o)

    -- nets whose pins do not end go on
    go_on : (k l : Kind) → Met top bottom c tr A k → Met top bottom c tr B l → Stays k → Stays l → BothOn top bottom c t tr A.net B.net
    go_on k l a b s r v n o = both_on top bottom fit c tr A B pin d k l a b s r v n (here v o)

    -- one pin starts
    pub top_alone : (a : Met top bottom c tr A starts) (b : Met top bottom c tr B none) → 1 ≤ times 0 tr → Fine (top_takes_free f A.net)
    top_alone a b p =
        subst (λ (q : ℕ). Good top bottom c t tr A.net q (top_takes_free f A.net)) (sym b)
        (top_takes_free_good top bottom c t tr size f A.net (free.first_is p)
        (subst (λ (q : ℕ). BothOn top bottom c t tr A.net q) b (go_on starts none a b tt tt)))

    pub bottom_alone : (a : Met top bottom c tr A none) (b : Met top bottom c tr B starts) → 1 ≤ times 0 tr → Fine (bottom_takes_free f B.net)
    bottom_alone a b p =
        subst (λ (q : ℕ). Good top bottom c t tr q B.net (bottom_takes_free f B.net)) (sym a)
        (bottom_takes_free_good top bottom c t tr size f B.net (free.first_is p)
        (subst (λ (q : ℕ). BothOn top bottom c t tr q B.net) a (go_on none starts a b tt tt)))

    -- both start
    pub both_start : Met top bottom c tr A starts → Met top bottom c tr B starts → 2 ≤ times 0 tr → Fine (both_take_free f A.net B.net)
    both_start a b p = both_take_free_good top bottom c t tr size f A.net B.net (free.first_is (omega arith)) (free.second_is p) (free.order p)
        (go_on starts starts a b tt tt)

    -- a pin ends its net
    pub top_ends_here : Met top bottom c tr A ends → Fine (top_ends A B)
    top_ends_here a = top_ends_good top bottom c t tr size A B d a.0 a.2 started

    pub bottom_ends_here : Met top bottom c tr B ends → Fine (bottom_ends A B)
    bottom_ends_here b = bottom_ends_good top bottom c t tr size A B d b.0 b.2 started

    -- both end
    both_end_here : Met top bottom c tr A ends → Met top bottom c tr B ends → Fine (both_end A B)
    unfolding both_end
    both_end_here a b =
        by Fine (lies_below A B)
        (λ e. both_join_good top bottom c t tr size A B d a.0 b.0 a.2 b.2 (omega (arith, ltb-true)))
        (λ e. top_ends_here a)

    module _ (few_a : A.many ≤ 2) (few_b : B.many ≤ 2) where
      -- a pin that continues, with a free track
      pub top_continues_here : BothOn top bottom c t tr A.net B.net → Reaches tr A → 1 ≤ times 0 tr → Fine (top_continues A B f)
      unfolding top_continues
      top_continues_here o a p =
          by Fine (ltb f.first A.high)
          (λ e. top_goes_good top bottom c t tr size A B o f a (free.first_is p) (ltb-true f.first A.high e))
          (λ e. top_moves_good top bottom c t tr size A B o d f a few_a (free.first_is p) (ltb-false f.first A.high e))

      pub bottom_continues_here : BothOn top bottom c t tr A.net B.net → Reaches tr B → 1 ≤ times 0 tr → Fine (bottom_continues A B f)
      unfolding bottom_continues
      bottom_continues_here o b p =
          by Fine (ltb B.low f.first)
          (λ e. bottom_goes_good top bottom c t tr size A B o f b (free.first_is p) (ltb-true B.low f.first e))
          (λ e. bottom_moves_good top bottom c t tr size A B o d f b few_b (free.first_is p) (ltb-false B.low f.first e))

      -- both continue
      both_continue_here : Met top bottom c tr A continues → Met top bottom c tr B continues → asks_kinds A B continues continues ≤ times 0 tr
          → Fine (both_continue A B f)
      unfolding both_continue asks_kinds
      both_continue_here a b p =
          let o = go_on continues continues a b tt tt in
          by_room Fine (times 0 tr) (ltb B.low A.high) p (λ e q. both_direct_good top bottom c t tr size A B o a.0 b.0
          (ltb-true B.low A.high e)) (λ e q.
          by_room Fine (times 0 tr) (eqb A.many 2) q (λ i r. top_joins_good top bottom c t tr size A B o d a.0 (omega (arith, eqb-true A.many 2 i)))
          (λ i r.
          by_room Fine (times 0 tr) (eqb B.many 2) r (λ j s. bottom_joins_good top bottom c t tr size A B o d b.0 (omega (arith, eqb-true B.many 2 j)))
          (λ j s.
          top_continues_here o a.0 s)))

      -- THE SIXTEEN PAIRS OF KINDS, many-pin channels
      many_kinds : (k l : Kind) → Met top bottom c tr A k → Met top bottom c tr B l → asks_kinds A B k l ≤ times 0 tr → Fine (ManyPin.by_kinds A B f k l)
      unfolding ManyPin.by_kinds asks_kinds
      many_kinds none none a b p = no_pins a b
      many_kinds none starts a b p = bottom_alone a b p
      many_kinds none continues a b p = bottom_direct_good top bottom c t tr size A B (go_on none continues a b tt tt) b.0 a
      many_kinds none ends a b p = bottom_ends_here b
      many_kinds starts none a b p = top_alone a b p
      many_kinds starts starts a b p = both_start a b p
      many_kinds starts continues a b p = bottom_continues_here (go_on starts continues a b tt tt) b.0 p
      many_kinds starts ends a b p = bottom_ends_here b
      many_kinds continues none a b p = top_direct_good top bottom c t tr size A B (go_on continues none a b tt tt) a.0 b
      many_kinds continues starts a b p = top_continues_here (go_on continues starts a b tt tt) a.0 p
      many_kinds continues continues a b p = both_continue_here a b p
      many_kinds continues ends a b p = bottom_ends_here b
      many_kinds ends none a b p = top_ends_here a
      many_kinds ends starts a b p = top_ends_here a
      many_kinds ends continues a b p = top_ends_here a
      many_kinds ends ends a b p = both_end_here a b

  module _ (N : Joint) (joins : Joins top bottom c tr N) where
    -- rule 2
    pub join_here : N.net ≢ 0 → Begun top bottom c t tr A.net B.net → Fine (join_net N A.net B.net)
    join_here n o = join_net_good top bottom c t tr size N A.net B.net (joins.bound n) (joins.told n) o

    -- CHANNELS WITH A NET OF THREE OR MORE PINS
    module _ (later : Bool) (told : A.net ≢ 0 → Below 0 (right top bottom (suc c) A.net) later) where
      -- rule 1, one net with both pins here
      both_pins_here : A.net ≢ 0 → A.net ≡ B.net → pick (ltb 0 A.many || not later) 0 (pick (eqb N.net 0) 1 0) ≤ times 0 tr
          → Fine (both_pins t A f N later)
      unfolding both_pins
      both_pins_here n e p =
          by_room Fine (times 0 tr) (ltb 0 A.many || not later) p
          (λ i q. full_here (pick later A.low 0) n e (leaves later i) (λ z. (A.net, stays i (true_of (told n) z)))
          (λ z. ap (λ (b : Bool). pick b A.low 0) (false_of (told n) (omega arith))))
          (λ i q. let o = of_true (told n) (not-false later (or_false (ltb 0 A.many) (not later) i).1) in
          by_room Fine (times 0 tr) (eqb N.net 0) q
          (λ j r. full_here f.first n e (grant_free (free.first_is r) (top_net refl)) (λ z. (0, free.first_is r)) (λ z. absurd (omega arith)))
          (λ j r. subst (λ (q : ℕ). Fine (join_net N A.net q)) (sym e)
          (join_here (eqb-false N.net 0 j) (λ v m h z. absurd (⊎_elim (λ x. omega (arith, subst (On top bottom c) x o))
          (λ x. omega (arith, subst (On top bottom c) (e ∙ x) o)) h)))))
        where
          low : (ltb 0 A.many || false) ≡ true → Strand A.net tr A.low
          low i = pin.above.low_is n (ltb-true 0 A.many (or_none (ltb 0 A.many) i))
            where
              or_none : (b : Bool) → (b || false) ≡ true → b ≡ true
              or_none true i = refl
              or_none false i = i

          leaves : (l : Bool) → (ltb 0 A.many || not l) ≡ true → Grant A.net A.net A.net tr (pick l A.low 0) A.net
          leaves true i = grant_old (low i) (top_net refl)
          leaves false i = grant_idle (top_net refl)

          stays : (ltb 0 A.many || not later) ≡ true → later ≡ true → Strand A.net tr (pick later A.low 0)
          stays i x = rw x (low (rw x at i))

      -- all rules of many-pin channels
      many_good : (N.net ≡ 0 → A.many ≤ 2) → (N.net ≡ 0 → B.many ≤ 2) → asks_many A B N later ≤ times 0 tr → Fine (choose_many t A B f N later)
      unfolding choose_many asks_many
      many_good few_a few_b p =
          by_room Fine (times 0 tr) (eqb A.net 0 && eqb B.net 0) p
          (λ i q. let z = and_true (eqb A.net 0) (eqb B.net 0) i in no_pins (eqb-true A.net 0 z.0) (eqb-true B.net 0 z.1))
          (λ i q. by_room Fine (times 0 tr) (eqb A.net B.net) q
          (λ j r. let e = eqb-true A.net B.net j in both_pins_here (not_none A.net B.net i e) e r)
          (λ j r. let d : B.net ≢ A.net = λ x. eqb-false A.net B.net j (sym x) in
          by_room Fine (times 0 tr) (eqb N.net 0) r
          (λ k s. let z = eqb-true N.net 0 k in many_kinds d (few_a z) (few_b z) (kind_of A.kind) (kind_of B.kind) pin.above.met pin.below.met s)
          (λ k s. join_here (eqb-false N.net 0 k) (started d))))

    -- CHANNELS OF TWO-PIN NETS
    join_or_here : B.net ≢ A.net → {x : Action} → (N.net ≡ 0 → Fine x) → Fine (join_or N A.net B.net x)
    unfolding join_or
    join_or_here d g = by Fine (eqb N.net 0) (λ k. g (eqb-true N.net 0 k)) (λ k. join_here (eqb-false N.net 0 k) (started d))

    module _ (top_never : Met top bottom c tr A continues → ⊥) (bottom_never : Met top bottom c tr B continues → ⊥) where
      -- THE SIXTEEN PAIRS OF KINDS, two-pin channels
      two_kinds : (A.net ≢ 0 → B.net ≢ A.net) → (k l : Kind) → Met top bottom c tr A k → Met top bottom c tr B l
          → (N.net ≡ 0 → asks_kinds A B k l ≤ times 0 tr)
          → Fine (TwoPin.by_kinds A B f N k l)
      unfolding TwoPin.by_kinds asks_kinds
      two_kinds d none none a b p = no_pins a b
      two_kinds d none starts a b p = let e : B.net ≢ A.net = λ i. b.0 (i ∙ a) in join_or_here e (λ z. bottom_alone e a b (p z))
      two_kinds d none ends a b p = bottom_ends_here (λ i. b.0.some (i ∙ a)) b
      two_kinds d starts none a b p = join_or_here (d a.0) (λ z. top_alone (d a.0) a b (p z))
      two_kinds d starts starts a b p = join_or_here (d a.0) (λ z. both_start (d a.0) a b (p z))
      two_kinds d starts ends a b p = bottom_ends_here (d a.0) b
      two_kinds d ends none a b p = top_ends_here (d a.0.some) a
      two_kinds d ends starts a b p = top_ends_here (d a.0.some) a
      two_kinds d ends ends a b p = both_end_here (d a.0.some) a b
      two_kinds d none continues a b p = absurd (bottom_never b)
      two_kinds d starts continues a b p = absurd (bottom_never b)
      two_kinds d ends continues a b p = absurd (bottom_never b)
      two_kinds d continues none a b p = absurd (top_never a)
      two_kinds d continues starts a b p = absurd (top_never a)
      two_kinds d continues continues a b p = absurd (top_never a)
      two_kinds d continues ends a b p = absurd (top_never a)

      -- all rules of two-pin channels
      two_good : (A.net ≡ B.net → A.net ≢ 0 → Off top bottom c A.net) → asks_two A B N ≤ times 0 tr → Fine (choose_two t A B f N)
      unfolding choose_two asks_two
      two_good both p =
          by_room Fine (times 0 tr) (not (eqb A.net 0) && eqb A.net B.net) p
          (λ i q.
          let z = and_true (not (eqb A.net 0)) (eqb A.net B.net) i in
          let n = eqb-false A.net 0 (not-true (eqb A.net 0) z.0) in
          let e = eqb-true A.net B.net z.1 in
          full_here 0 n e (grant_idle (top_net refl)) (λ o. absurd (omega (arith, both e n))) (λ o. refl))
          (λ i q. two_kinds (not_one A.net B.net i) (kind_of A.kind) (kind_of B.kind)
          pin.above.met pin.below.met
          (λ z. rw (eq-eqb N.net 0 z) at q))

-- THE ACTION OF A COLUMN IS GOOD
module _ {t : ℕ} (top bottom : List ℕ) (fit : RowsFit top bottom) (c : ℕ) (inside : c < length top) (tr : List ℕ) (h : Held t top bottom c tr)
    (m : List ℕ) where
  -- its pins
  abbrev A : Pin
  A = pin_at top bottom c tr (get_or top c 0)

  abbrev B : Pin
  B = pin_at top bottom c tr (get_or bottom c 0)

  pin : Pinned top bottom c tr A B
  pin = pinned top bottom c tr h

  -- both pins of a two-pin net are all
  both : family top bottom ≡ TwoPin → A.net ≡ B.net → A.net ≢ 0 → Off top bottom c A.net
  both e i n =
      omega (
        arith,
        two_fit top bottom fit e A.net (omega arith),
        left-right top bottom A.net c,
        right_suc top bottom A.net c n,
        eqb_one (get_or top c 0) A.net pin.above.net,
        eqb_one (get_or bottom c 0) A.net (pin.below.net ∙ sym i),
      )
    where
      eqb_one : (x v : ℕ) → x ≡ v → bit (eqb x v) ≡ 1
      eqb_one x v e = rw (eq-eqb x v e)

  -- where rule 2 does not fit, a pin's net has two strands at most
  few_pins : (joint_of top bottom c tr (net_to_join top bottom c tr)).net ≡ 0 → {v : ℕ} {C : Pin} → HasPin top bottom v c → Placed top bottom c tr v C
      → C.many ≤ 2
  few_pins z {v} {C} here p = go (ℕ_discrete C.net 0)
    where
      go : Dec (C.net ≡ 0) → C.many ≤ 2
      go (yes e) = omega (arith, p.none e)
      go (no n) = omega (arith, p.some n, to_join_few top bottom c tr h z C.net n (pin_right top bottom C.net c n (rw p.net at here)))

  -- whatever the rules of two-pin channels choose
  pub two_move_good : family top bottom ≡ TwoPin → density top bottom ≤ t
      → Good top bottom c t tr (get_or top c 0) (get_or bottom c 0) (move_of t top bottom TwoPin c tr m).action
  unfolding move_of
  two_move_good e big = by_rows pin
      (two_good top bottom fit c t tr h.size A B pin (free_of tr) (lowest-free tr)
      (joint_of top bottom c tr (extended_net top bottom c tr)) (extended_joins top bottom c tr h)
      (never top bottom fit c inside tr h A B pin e A (inl pin.above.net)) (never top bottom fit c inside tr h A B pin e B (inr pin.below.net))
      (both e) (two_pin_room top bottom fit c inside tr h e big))

  -- and those of many-pin channels
  pub many_move_good : 2 * density top bottom - 1 ≤ t → Good top bottom c t tr (get_or top c 0) (get_or bottom c 0) (move_of t top bottom ManyPin c tr m).action
  unfolding move_of
  many_move_good big = by_rows pin
      (many_good top bottom fit c t tr h.size A B pin (free_of tr) (lowest-free tr) (joint_of top bottom c tr (net_to_join top bottom c tr))
      (to_join_joins top bottom c tr h)
      (later top bottom (suc c) (get_or top c 0)) (top-later top bottom c tr h pin.above) (λ z. few_pins z (inl refl) pin.above)
      (λ z. few_pins z (inr refl) pin.below) (many_pin_room top bottom fit c inside tr h big))
