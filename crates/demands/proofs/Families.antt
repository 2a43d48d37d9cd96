-- The kinds of channels that the third demand names are the families that the sweeps test. Assumes nothing.
use Prim.Native.Nat.{ℕ, zero, suc, ◌≤◌, ◌<◌}
use mathlib.Core.Path.{◌≡◌, refl, sym}
use mathlib.Core.Logic.{◌≢◌, ◌⊎◌, inl, inr, ⊎_elim}
use mathlib.Core.Bool.{Bool, true, false, not, ◌&&◌}
use mathlib.Core.List.{List}
use native.Mathlib.Omega.{arith}
use native.Mathlib.Decide.{ℕ_discrete}
use lib.Dec.{eqb, ltb}
use lib.ListN.{length, get_or}
use Rattle.grid.specs.declared.Family.{Family}
use Rattle.grid.specs.declared.Family.TheVariants.{TwoPin, ThreePin, ManyPin}
use Rattle.grid.specs.Channel.{pick, count, pins, left, pins_within, first_two_at, first_two_to, family}
use Rattle.grid.proofs.Tests.{ltb-true, eqb-true, eqb-false, eq-eqb, ne_eqb, not-true, and_true, not_both}
use Rattle.grid.proofs.Counting.{at_below}
use Rattle.grid.proofs.Rows.{RowsFit, two_fit, three_fit, three_apart}
use Rattle.demands.specs.Tracks.{PairsOnly, FirstTwo, ThreesAtMost, Others, four, first_two}
use Rattle.demands.proofs.Lines.{either, count-some}

module _ (top bottom : List ℕ) where
  -- THE TESTS IN WORDS
  -- a net has more than k pins
  pub larger_some : (k : ℕ) → pins_within top bottom k ≡ false → (v : ℕ) × (v ≢ 0) × (k < pins top bottom v)
  unfolding pins_within
  larger_some k e =
      let (v, n, q) = count-some (λ v. ltb k (pins top bottom v)) 256 (eqb-false (count (λ v. ltb k (pins top bottom v)) 256) 0 e) in
      (v, n, ltb-true k (pins top bottom v) q)

  -- a net of three pins has its first two in one column
  at_first_two : (c : ℕ) → first_two_at top bottom c ≡ true → (v : ℕ) × (v ≢ 0) × FirstTwo top bottom v c
  unfolding first_two_at
  at_first_two c e =
      let v = get_or top c 0 in
      let (n, e₁) = and_true (not (eqb v 0)) (eqb v (get_or bottom c 0) && (eqb (pins top bottom v) 3 && eqb (left top bottom c v) 0)) e in
      let (b, e₂) = and_true (eqb v (get_or bottom c 0)) (eqb (pins top bottom v) 3 && eqb (left top bottom c v) 0) e₁ in
      let (p, l) = and_true (eqb (pins top bottom v) 3) (eqb (left top bottom c v) 0) e₂ in
      let h : FirstTwo top bottom v c = (eqb-true (pins top bottom v) 3 p, refl, sym (eqb-true v (get_or bottom c 0) b), eqb-true (left top bottom c v) 0 l) in
      (v, eqb-false v 0 (not-true (eqb v 0) n), h)

  -- and then the test passes
  first_two_at_lem : (v c : ℕ) → v ≢ 0 → FirstTwo top bottom v c → first_two_at top bottom c ≡ true
  unfolding first_two_at
  first_two_at_lem v c n (p, t, b, l) = rw (t, ne_eqb v 0 n, b, eq-eqb v v refl, p, l) refl

  -- a test of the columns 1 to c that passes finds such a net
  first_two-some : (c : ℕ) → first_two_to top bottom c ≡ true → Others top bottom
  unfolding first_two_to
  first_two-some zero e = absurd (not_both e refl)
  first_two-some (suc c) e =
      ⊎_elim (λ o. o) (λ o. o)
      (either (first_two_to top bottom c) (first_two_at top bottom c) (first_two-some c) (λ q. let (v, n, h) = at_first_two c q in first_two v c n h) e)

  -- THE KINDS
  -- what the demand says of the channels of each family
  abbrev pub OfFamily : Family → Type 0
  OfFamily TwoPin = PairsOnly top bottom
  OfFamily ThreePin = ThreesAtMost top bottom
  OfFamily ManyPin = Others top bottom

  -- where each net has two pins, none has more
  pairs_most : PairsOnly top bottom → (v : ℕ) → v ≢ 0 → pins top bottom v ≤ 2
  pairs_most p v n = ⊎_elim (λ (e : pins top bottom v ≡ 0). omega arith) (λ (e : pins top bottom v ≡ 2). omega arith) (p v n)

  -- so its largest net has not three
  not_threes : PairsOnly top bottom → ThreesAtMost top bottom → ⊥
  not_threes p t = let (v, n, e) = t.three in omega (arith, pairs_most p v n, e)

  -- and the channel is none of the others
  not_others : PairsOnly top bottom → Others top bottom → ⊥
  not_others p (four v n l) = omega (arith, pairs_most p v n, l)
  not_others p (first_two v c n h) = omega (arith, pairs_most p v n, h.0)

  -- nor is it where the largest net has three
  threes_not_others : ThreesAtMost top bottom → Others top bottom → ⊥
  threes_not_others t (four v n l) = omega (arith, t.most v n, l)
  threes_not_others t (first_two v c n h) = t.apart v c n h

  -- a channel is of one kind only
  same_kind : (f g : Family) → OfFamily f → OfFamily g → f ≡ g
  same_kind TwoPin TwoPin x y = refl
  same_kind TwoPin ThreePin x y = absurd (not_threes x y)
  same_kind TwoPin ManyPin x y = absurd (not_others x y)
  same_kind ThreePin TwoPin x y = absurd (not_threes y x)
  same_kind ThreePin ThreePin x y = refl
  same_kind ThreePin ManyPin x y = absurd (threes_not_others x y)
  same_kind ManyPin TwoPin x y = absurd (not_others y x)
  same_kind ManyPin ThreePin x y = absurd (threes_not_others y x)
  same_kind ManyPin ManyPin x y = refl

module _ (top bottom : List ℕ) (fit : RowsFit top bottom) where
  -- in a channel of two-pin nets, each net has two pins
  pub of_two : family top bottom ≡ TwoPin → PairsOnly top bottom
  of_two e v n = go (ℕ_discrete (pins top bottom v) 0)
    where
      go : Dec (pins top bottom v ≡ 0) → (pins top bottom v ≡ 0) ⊎ (pins top bottom v ≡ 2)
      go (yes z) = inl z
      go (no z) = inr (omega (arith, two_fit top bottom fit e v (omega arith), fit.lone v (omega arith)))

  -- in a three-pin channel the largest net has three, and none of these its first two in one column
  of_three : family top bottom ≡ ThreePin → pins_within top bottom 2 ≡ false → ThreesAtMost top bottom
  of_three e x =
      record {
        three = let (v, n, l) = larger_some top bottom 2 x in (v, n, omega (arith, l, three_fit top bottom fit e v (omega arith)));
        most = λ v n. three_fit top bottom fit e v (omega arith);
        apart = λ v c n h. not_both (first_two_at_lem top bottom v c n h) (three_apart top bottom fit e c (at_below top c v n h.1));
      }

  -- the kind by the tests of the family
  by_tests : (a b c : Bool) → pins_within top bottom 2 ≡ a → pins_within top bottom 3 ≡ b → first_two_to top bottom (length top) ≡ c
      → OfFamily top bottom (pick a TwoPin (pick (b && not c) ThreePin ManyPin))
  unfolding family
  by_tests true b c x y z = of_two (rw x refl)
  by_tests false true false x y z = of_three (rw (x, y, z) refl) x
  by_tests false true true x y z = first_two-some top bottom (length top) z
  by_tests false false c x y z = let (v, n, l) = larger_some top bottom 3 y in four v n l

  -- a channel is of the kind of its family
  kind_of_lem : OfFamily top bottom (family top bottom)
  unfolding family
  kind_of_lem = by_tests (pins_within top bottom 2) (pins_within top bottom 3) (first_two_to top bottom (length top)) refl refl refl

  -- and so of the family of its kind
  pub family_of : (f : Family) → OfFamily top bottom f → family top bottom ≡ f
  family_of f k = same_kind top bottom (family top bottom) f kind_of_lem k

  -- it is of one of the three
  pub one_kind : PairsOnly top bottom ⊎ (ThreesAtMost top bottom ⊎ Others top bottom)
  one_kind = go (family top bottom) kind_of_lem
    where
      go : (f : Family) → OfFamily top bottom f → PairsOnly top bottom ⊎ (ThreesAtMost top bottom ⊎ Others top bottom)
      go TwoPin k = inl k
      go ThreePin k = inr (inl k)
      go ManyPin k = inr (inr k)
