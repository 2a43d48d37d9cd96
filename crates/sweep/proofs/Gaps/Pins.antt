-- The pins of a column: what a pin's kind says of its net, and which nets go on after the column.
use Prim.Native.Nat.{ℕ, suc, ◌+◌, ◌≤◌, ◌<◌}
use mathlib.Core.Path.{◌≡◌, refl, sym, ◌∙◌, subst}
use mathlib.Core.Logic.{◌⊎◌, inl, inr, ◌≢◌, ⊎_elim}
use mathlib.Core.Bool.{Bool, true, false}
use mathlib.Core.List.{List}
use native.Mathlib.Omega.{arith}
use native.Mathlib.Decide.{ℕ_discrete}
use lib.Dec.{T, eqb, ltb}
use lib.ListN.{get_or}
use Rattle.grid.specs.Channel.{bit, times, left, right}
use Rattle.grid.proofs.Tests.{Below, below, above, below_by, eq_bit, eq-eqb, ne_eqb}
use Rattle.grid.proofs.Counting.{at_below}
use Rattle.grid.proofs.Rows.{RowsFit, HasPin, left-right, right_suc, pin_right}
use Rattle.sweep.specs.declared.Pin.{Pin}
use Rattle.sweep.specs.Tracks.{lowest, highest, many}
use Rattle.sweep.specs.Rules.{Kind, none, starts, continues, ends, kind_of}
use Rattle.sweep.specs.Drawing.{kind_by, free_of, later, pin_at}
use Rattle.sweep.proofs.Tracks.Strands.{Strand, lowest_is, highest_is, second_is_lem, lowest<second, lowest<highest, many-times, between, two_strands}
use Rattle.sweep.proofs.Tracks.Strands.{lone_strand}
use Rattle.sweep.proofs.Gaps.Held.{Held}

-- A TEST AND ITS FACT, either way round
module _ {x v : ℕ} where
  pub true_of : {q : Bool} → Below x v q → x < v → q ≡ true
  true_of (below p) h = refl
  true_of (above p) h = absurd (omega arith)

  pub false_of : {q : Bool} → Below x v q → v ≤ x → q ≡ false
  false_of (below p) h = absurd (omega arith)
  false_of (above p) h = refl

  pub of_true : {q : Bool} → Below x v q → q ≡ true → x < v
  of_true (below p) e = p
  of_true (above p) e = absurd (subst T (sym e) tt)

  pub of_false : {q : Bool} → Below x v q → q ≡ false → v ≤ x
  of_false (below p) e = absurd (subst T e tt)
  of_false (above p) e = p

-- FREE TRACKS

-- the two lowest free tracks, where there are as many
pub record LowestFree (tr : List ℕ) (first second : ℕ) : Type 0 where
  pub first_is : 1 ≤ times 0 tr → Strand 0 tr first
  pub second_is : 2 ≤ times 0 tr → Strand 0 tr second
  pub order : 2 ≤ times 0 tr → first < second

-- those of the tracks
pub lowest-free : (tr : List ℕ) → LowestFree tr (free_of tr).first (free_of tr).second
unfolding free_of
lowest-free tr = record { first_is = lowest_is 0 tr; second_is = second_is_lem 0 tr; order = lowest<second 0 tr }

-- ONE PIN

-- a pin whose net has strands
pub record Reaches (tr : List ℕ) (A : Pin) : Type 0 where
  pub some : A.net ≢ 0
  pub count : A.many ≡ times A.net tr
  pub low_is : Strand A.net tr A.low
  pub high_is : Strand A.net tr A.high
  pub ordered : A.low ≤ A.high
  pub span : (j : ℕ) → get_or tr j 0 ≡ A.net → (A.low ≤ suc j) × (suc j ≤ A.high)
  pub spread : A.many ≢ 1 → A.low < A.high
  pub lone : A.many ≡ 1 → (j : ℕ) → get_or tr j 0 ≡ A.net → (suc j ≡ A.low) × (suc j ≡ A.high)
  pub pair : A.many ≤ 2 → (j : ℕ) → get_or tr j 0 ≡ A.net → (suc j ≡ A.low) ⊎ (suc j ≡ A.high)

module _ (top bottom : List ℕ) (c : ℕ) where
  -- net v has pins after column c + 1, or none
  abbrev pub On : ℕ → Type 0
  On v = 0 < right top bottom (suc c) v

  abbrev pub Off : ℕ → Type 0
  Off v = right top bottom (suc c) v ≡ 0

  -- what a pin's kind says of its net
  abbrev pub Met : (tr : List ℕ) (A : Pin) → Kind → Type 0
  Met tr A none = A.net ≡ 0
  Met tr A starts = (A.net ≢ 0) × (left top bottom c A.net ≡ 0)
  Met tr A continues = Reaches tr A × (0 < left top bottom c A.net) × On A.net
  Met tr A ends = Reaches tr A × (0 < left top bottom c A.net) × Off A.net

  -- whether a net has later pins, with the fact
  pub later_by : (v : ℕ) → v ≢ 0 → Below 0 (right top bottom c v) (later top bottom c v)
  unfolding later
  later_by v n = rw (ne_eqb v 0 n) (below_by 0 (right top bottom c v))

-- A is the pin of net v
pub record Placed (top bottom : List ℕ) (c : ℕ) (tr : List ℕ) (v : ℕ) (A : Pin) : Type 0 where
  pub net : v ≡ A.net
  pub met : Met top bottom c tr A (kind_of A.kind)
  -- how many strands its net has
  pub none : A.net ≡ 0 → A.many ≡ 0
  pub some : A.net ≢ 0 → A.many ≡ times A.net tr
  pub low_is : A.net ≢ 0 → 0 < A.many → Strand A.net tr A.low

module _ {t : ℕ} (top bottom : List ℕ) (c : ℕ) (tr : List ℕ) (h : Held t top bottom c tr) (v : ℕ) where
  -- no pin
  placed_none : v ≡ 0 → Placed top bottom c tr v (pin_at top bottom c tr v)
  unfolding pin_at kind_of
  placed_none e = rw (eq-eqb v 0 e) (record { net = e; met = refl; none = λ z. refl; some = λ n. absurd (n refl); low_is = λ n. absurd (n refl) })

  module _ (n : v ≢ 0) (here : HasPin top bottom v c) where
    -- a pin of a net that is there
    abbrev pin : Pin
    pin = record { net = v; kind = kind_by (ltb 0 (left top bottom c v)) (later top bottom (suc c) v); low = lowest v tr; high = highest v tr; many = many v tr }

    -- where it has strands, the lowest and the highest are
    reaches : 0 < times v tr → Reaches tr pin
    reaches p = record {
      some = n;
      count = many-times v tr;
      low_is = lowest_is v tr p;
      high_is = highest_is v tr p;
      ordered = (let s = lowest_is v tr p in omega (arith, between v tr s.index s.inside s.holds));
      span = λ j e. between v tr j (at_below tr j v n e) e;
      spread = λ m. lowest<highest v tr (omega (arith, many-times v tr));
      lone = λ m j e. lone_strand v tr (omega (arith, many-times v tr)) j (at_below tr j v n e) e;
      pair = λ m j e. two_strands v tr (omega (arith, many-times v tr)) j (at_below tr j v n e) e;
    }

    -- its kind, by the pins before and after
    met_by : (j : Bool) → Below 0 (left top bottom c v) j → (k : Bool) → Below 0 (right top bottom (suc c) v) k → Met top bottom c tr pin (kind_of (kind_by j k))
    unfolding kind_of
    met_by false (above b) k d = (n, omega arith)
    met_by true (below b) true (below d) = (reaches (h.opens v n b (pin_right top bottom v c n here)), b, d)
    met_by true (below b) false (above d) = (reaches (h.opens v n b (pin_right top bottom v c n here)), b, omega arith)

    -- so the pin is as its net has it
    placed_some : Placed top bottom c tr v (pin_at top bottom c tr v)
    unfolding pin_at
    placed_some = rw (ne_eqb v 0 n) (record {
      net = refl;
      met = met_by (ltb 0 (left top bottom c v)) (below_by 0 (left top bottom c v)) (later top bottom (suc c) v) (later_by top bottom (suc c) v n);
      none = λ z. absurd (n z);
      some = λ m. many-times v tr;
      low_is = λ m p. lowest_is v tr (omega (arith, many-times v tr));
    })

  -- the pin of a net in column c + 1, or none
  pub placed : HasPin top bottom v c → Placed top bottom c tr v (pin_at top bottom c tr v)
  placed here = go (ℕ_discrete v 0)
    where
      go : Dec (v ≡ 0) → Placed top bottom c tr v (pin_at top bottom c tr v)
      go (yes e) = placed_none e
      go (no n) = placed_some n here

-- A COLUMN'S PINS: A is the top pin, B the bottom pin

pub record Pinned (top bottom : List ℕ) (c : ℕ) (tr : List ℕ) (A B : Pin) : Type 0 where
  pub above : Placed top bottom c tr (get_or top c 0) A
  pub below : Placed top bottom c tr (get_or bottom c 0) B

module _ {t : ℕ} (top bottom : List ℕ) (c : ℕ) (tr : List ℕ) (h : Held t top bottom c tr) where
  -- those of column c + 1
  pub pinned : Pinned top bottom c tr (pin_at top bottom c tr (get_or top c 0)) (pin_at top bottom c tr (get_or bottom c 0))
  pinned = record { above = placed top bottom c tr h (get_or top c 0) (inl refl); below = placed top bottom c tr h (get_or bottom c 0) (inr refl) }

  -- whether the top pin's net has later pins
  pub top-later : {A : Pin} → Placed top bottom c tr (get_or top c 0) A → A.net ≢ 0
      → Below 0 (right top bottom (suc c) A.net) (later top bottom (suc c) (get_or top c 0))
  top-later p m = rw (← p.net) (later_by top bottom (suc c) (get_or top c 0) (λ z. m (sym p.net ∙ z)))

-- a kind other than an ending one
abbrev pub Stays : Kind → Type 0
Stays none = Unit
Stays starts = Unit
Stays continues = Unit
Stays ends = ⊥

module _ (top bottom : List ℕ) (fit : RowsFit top bottom) (c : ℕ) (tr : List ℕ) (A B : Pin) (p : Pinned top bottom c tr A B) (d : B.net ≢ A.net) where
  -- one of two pins of different nets is alone
  pub alone : (v : ℕ) → v ≢ 0 → HasPin top bottom v c → bit (eqb (get_or top c 0) v) + bit (eqb (get_or bottom c 0) v) ≡ 1
  alone v n here =
      ⊎_elim
      (λ a. ⊎_elim (λ b. absurd (d (sym p.below.net ∙ b.0 ∙ sym a.0 ∙ p.above.net))) (λ b. omega arith) (eq_bit (get_or bottom c 0) v))
      (λ a. ⊎_elim (λ b. omega arith) (λ b. absurd (⊎_elim (λ i. a.0 i) (λ i. b.0 i) here)) (eq_bit (get_or bottom c 0) v))
      (eq_bit (get_or top c 0) v)

  -- a net with its last pin here, and this one alone, has pins before
  pub begun : (v : ℕ) → v ≢ 0 → HasPin top bottom v c → Off top bottom c v → 0 < left top bottom c v
  begun v n here z = omega (arith, alone v n here, fit.lone v (omega arith), left-right top bottom v c, right_suc top bottom v c n)

  -- so a pin whose kind is not an ending one has pins after
  goes_on : (C : Pin) (k : Kind) → HasPin top bottom C.net c → Met top bottom c tr C k → Stays k → C.net ≢ 0 → On top bottom c C.net
  goes_on C none here m s n = absurd (n m)
  goes_on C starts here m s n = go (ℕ_discrete (right top bottom (suc c) C.net) 0)
    where
      go : Dec (right top bottom (suc c) C.net ≡ 0) → On top bottom c C.net
      go (yes e) = absurd (omega (arith, begun C.net n here e, m.1))
      go (no e) = omega arith
  goes_on C continues here m s n = m.2
  goes_on C ends here m s n = absurd s

  -- and so both
  pub both_on : (k l : Kind) → Met top bottom c tr A k → Met top bottom c tr B l → Stays k → Stays l → (v : ℕ) → v ≢ 0 → HasPin top bottom v c
      → On top bottom c v
  both_on k l a b s r v n (inl i) =
      let e : A.net ≡ v = sym p.above.net ∙ i in subst (On top bottom c) e (goes_on A k (inl p.above.net) a s (λ z. n (sym e ∙ z)))
  both_on k l a b s r v n (inr i) =
      let e : B.net ≡ v = sym p.below.net ∙ i in subst (On top bottom c) e (goes_on B l (inr p.below.net) b r (λ z. n (sym e ∙ z)))
