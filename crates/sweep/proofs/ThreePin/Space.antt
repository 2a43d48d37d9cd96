-- The free tracks that the rules of three-pin channels ask for are there.
use Prim.Native.Nat.{ℕ, suc, ◌+◌, ◌*◌, ◌/◌, ◌≤◌, ◌<◌}
use mathlib.Core.Path.{◌≡◌, refl, sym, ◌∙◌}
use mathlib.Core.Logic.{inl, inr, ◌≢◌, ⊎_elim}
use mathlib.Core.Bool.{Bool, true, false, not, ◌&&◌}
use mathlib.Core.List.{List}
use native.Mathlib.Omega.{arith}
use lib.Dec.{eqb, ltb}
use lib.ListN.{length, get_or}
use Rattle.grid.specs.declared.Family.TheVariants.{ThreePin}
use Rattle.grid.specs.Channel.{bit, times, sum, count, left, right, is_open, open_at, density, family}
use Rattle.grid.proofs.Tests.{Same, same, diff, same_by, Below, below, above, below_by}
use Rattle.grid.proofs.Counting.{sum_plus, sum_le, length-times}
use Rattle.grid.proofs.Rows.{RowsFit, HasPin, pin_left, pin_small, open_bit, open_density}
use Rattle.sweep.specs.Pairs.{mate}
use Rattle.sweep.proofs.Gaps.Held.{no_more}
use Rattle.sweep.proofs.ThreePin.Weights.{weight, Weigh, gone, extended, unborn, single, lone, weigh, balance, as_many}
use Rattle.sweep.proofs.ThreePin.Kept.{Kept, pin_or, same_left, same_right, small, cap, free_pin}

-- A CALM GAP: no net is extended, and no pin ends its net
module _ {t : ℕ} (top bottom : List ℕ) (fit : RowsFit top bottom) (three : family top bottom ≡ ThreePin) (enough : 3 * density top bottom / 2 ≤ t) (c : ℕ)
    (inside : c < length top) (tr m : List ℕ) (k : Kept t top bottom c tr m)
    (calm : (v : ℕ) → v ≢ 0 → right top bottom c v ≡ 0 → times v tr ≡ 0)
    (on : (v : ℕ) → v ≢ 0 → HasPin top bottom v c → 0 < right top bottom (suc c) v) where
  abbrev P : ℕ
  P = get_or top c 0

  abbrev Q : ℕ
  Q = get_or bottom c 0

  abbrev W : ℕ → ℕ
  W v = weight top bottom c tr m v

  -- a net of a pair with two strands, and one with one
  abbrev thick : ℕ → ℕ
  thick v = bit (not (eqb (mate v m) 0) && ltb 1 (times v tr))

  abbrev thin : ℕ → ℕ
  thin v = bit (not (eqb (mate v m) 0) && not (ltb 1 (times v tr)))

  -- by cases
  data Part (v a b : ℕ) : Type 0 where
    alone : mate v m ≡ 0 → a ≡ 0 → b ≡ 0 → Part v a b
    is_thick : mate v m ≢ 0 → 2 ≤ times v tr → a ≡ 1 → b ≡ 0 → Part v a b
    is_thin : mate v m ≢ 0 → times v tr ≤ 1 → a ≡ 0 → b ≡ 1 → Part v a b

  part : (v : ℕ) → Part v (thick v) (thin v)
  part v = go (eqb (mate v m) 0) (same_by (mate v m) 0) (ltb 1 (times v tr)) (below_by 1 (times v tr))
    where
      go : (i : Bool) → Same (mate v m) 0 i → (j : Bool) → Below 1 (times v tr) j → Part v (bit (not i && j)) (bit (not i && not j))
      go true (same e) j b = alone e refl refl
      go false (diff d) true (below b) = is_thick d b refl refl
      go false (diff d) false (above b) = is_thin d b refl refl

  -- there are as many single nets in pairs as double ones
  halves : sum thick 256 ≤ sum thin 256
  halves = as_many thick thin (λ u. mate u m) 256 (λ v n. most (part v)) (λ v n p h. find v n h (part v))
    where
      most : {v a b : ℕ} → Part v a b → a ≤ 1
      most (alone e f g) = omega arith
      most (is_thick e f g h) = omega arith
      most (is_thin e f g h) = omega arith

      other : (v u : ℕ) → v ≢ 0 → mate u m ≡ v → times u tr ≤ 1 → {a b : ℕ} → Part u a b → 0 < b
      other v u n e l (alone f g h) = absurd (n (sym e ∙ f))
      other v u n e l (is_thick f g h i) = absurd (omega arith)
      other v u n e l (is_thin f g h i) = omega arith

      find : (v : ℕ) → v ≢ 0 → {a b : ℕ} → 0 < a → Part v a b → (u : ℕ) × (u ≢ 0) × (u ≤ 256) × (mate u m ≡ v) × (0 < thin u)
      find v n h (alone e f g) = absurd (omega arith)
      find v n h (is_thin e f g i) = absurd (omega arith)
      find v n h (is_thick e f g i) =
          let back : mate (mate v m) m ≡ v = k.mates v (mate v m) n e refl in
          let l = k.live (mate v m) e (λ z. n (sym back ∙ z)) in
          let s = small top bottom fit (mate v m) c (omega (arith, l.1)) in
          (mate v m, e, s, back, other v (mate v m) n back (omega (arith, k.few v n e)) (part (mate v m)))

  -- the strands are what the nets weigh, and one more for each pair, at most
  used : sum (λ v. times v tr) 256 ≤ sum W 256 + sum thick 256
  used = omega (arith, sum_le (λ v. times v tr) (λ v. W v + thick v) 256 (λ v. at (suc v) (omega arith)), sum_plus W thick 256)
    where
      at : (v : ℕ) → v ≢ 0 → times v tr ≤ W v + thick v
      at v n = go (weigh top bottom c tr m v) (part v)
        where
          go : {w a b : ℕ} → Weigh top bottom c tr m v w → Part v a b → times v tr ≤ w + a
          go (gone e r l) p = omega arith
          go (extended e r l) p = absurd (omega (arith, calm v n r))
          go (unborn e r l o) p = omega (arith, k.held.few v n)
          go (single e r l (inl o)) p = omega arith
          go (single e r l (inr o)) (alone f g h) = absurd (o f)
          go (single e r l (inr o)) (is_thick f g h i) = omega (arith, cap top bottom fit three c tr k.held v n r)
          go (single e r l (inr o)) (is_thin f g h i) = omega arith
          go (lone e r l o z) p = omega (arith, cap top bottom fit three c tr k.held v n r)

  -- the nets that are open after the column
  abbrev Opens : ℕ → ℕ
  Opens v = bit (is_open top bottom (suc c) v)

  opens_le : sum Opens 256 ≤ density top bottom
  unfolding open_at count
  opens_le = open_density top bottom (suc c) (omega (arith, fit.same)) (omega arith) inside

  -- a pin's net is one of them
  pin_opens : (v : ℕ) → v ≢ 0 → HasPin top bottom v c → Opens v ≡ 1
  pin_opens v n here = open_bit top bottom (suc c) v (pin_left top bottom v c n here) (on v n here)

  -- so is a net that is open before
  still_opens : (v : ℕ) → v ≢ 0 → 0 < right top bottom c v → 0 < left top bottom c v → Opens v ≡ 1
  still_opens v n r l =
      ⊎_elim (pin_opens v n)
      (λ d. open_bit top bottom (suc c) v (omega (arith, same_left top bottom c v n d.0 d.1)) (omega (arith, same_right top bottom c v n d.0 d.1)))
      (pin_or top bottom c v)

  -- a figure f of the nets, one at most for each open one and none for two nets of pins, a and b (0: no net): these leave e and g of the density
  module _ (f : ℕ → ℕ) (all : (v : ℕ) → v ≢ 0 → f v ≤ Opens v) (a b : ℕ) (apart : a ≢ 0 → a ≢ b)
      (pin_a : a ≢ 0 → HasPin top bottom a c × (f a ≡ 0)) (pin_b : b ≢ 0 → HasPin top bottom b c × (f b ≡ 0)) where
    leave : (e g : ℕ) → e ≤ 1 → g ≤ 1 → (e ≢ 0 → a ≢ 0) → (g ≢ 0 → b ≢ 0) → sum f 256 + (e + g) ≤ density top bottom
    leave e g i j p q =
        omega (
          arith,
          opens_le,
          balance Opens f a b 0 0 e g 0 0 (λ n. (apart n, n, n)) (λ n. (n, n)) (λ n. absurd (n refl)) (λ n. pin a e i n (pin_a n)) (λ n. pin b g j n (pin_b n))
              (λ n. absurd (n refl)) (λ n. absurd (n refl)) (λ v n x y z w. all v n) 256
              (λ n. (p n, pin_small top bottom fit a c (p n) (pin_a (p n)).0))
              (λ n. (q n, pin_small top bottom fit b c (q n) (pin_b (q n)).0)),
        )
      where
        pin : (v e : ℕ) → e ≤ 1 → v ≢ 0 → HasPin top bottom v c × (f v ≡ 0) → f v + e ≤ Opens v
        pin v e i n (here, z) = omega (arith, pin_opens v n here)

  -- THE NETS IN PAIRS are open, and no pin's
  paired : (v : ℕ) → v ≢ 0 → thick v + thin v ≤ Opens v
  paired v n = go (part v)
    where
      opens : mate v m ≢ 0 → Opens v ≡ 1
      opens s = let l = k.live v n s in still_opens v n l.0 (omega (arith, l.1))

      go : {x y : ℕ} → Part v x y → x + y ≤ Opens v
      go (alone s f h) = omega arith
      go (is_thick s f h l) = omega (arith, opens s)
      go (is_thin s f h l) = omega (arith, opens s)

  unpaired : (v : ℕ) → v ≢ 0 → HasPin top bottom v c → thick v + thin v ≡ 0
  unpaired v n here = go (part v)
    where
      free : mate v m ≡ 0
      free = free_pin top bottom fit three c tr m k v n here (on v n here)

      go : {x y : ℕ} → Part v x y → x + y ≡ 0
      go (alone s f h) = omega arith
      go (is_thick s f h l) = absurd (s free)
      go (is_thin s f h l) = absurd (s free)

  -- so two pins, or one, leave room for as many open nets
  pairs_leave : (a b e g : ℕ) → (a ≢ 0 → HasPin top bottom a c) → (b ≢ 0 → HasPin top bottom b c) → (a ≢ 0 → a ≢ b) → e ≤ 1 → g ≤ 1 → (e ≢ 0 → a ≢ 0)
      → (g ≢ 0 → b ≢ 0)
      → sum thick 256 + sum thin 256 + (e + g) ≤ density top bottom
  pairs_leave a b e g at_a at_b d i j p q =
      omega (
        arith,
        sum_plus thick thin 256,
        leave (λ v. thick v + thin v) paired a b d (λ n. (at_a n, unpaired a n (at_a n))) (λ n. (at_b n, unpaired b n (at_b n))) e g i j p q,
      )

  -- the tracks hold these strands, and the rest are free
  tracks_hold : t ≡ times 0 tr + sum (λ v. times v tr) 256
  tracks_hold = sym k.held.size ∙ length-times tr 256 (no_more top bottom fit c tr k.held)

  -- two pins of different nets: one track is free
  pub room_cross : Q ≢ P → P ≢ 0 → Q ≢ 0 → 1 ≤ times 0 tr
  room_cross d p q =
      omega (
        arith,
        enough,
        tracks_hold,
        used,
        halves,
        k.bound,
        pairs_leave P Q 1 1 (λ n. inl refl) (λ n. inr refl) (λ n i. d (sym i)) (omega arith) (omega arith) (λ n. p) (λ n. q),
      )

  -- WHERE NO DOUBLE NET IS UNPAIRED
  module _ (nolone : (v : ℕ) → v ≢ 0 → 2 ≤ times v tr → mate v m ≢ 0) where
    -- a net weighs 1 at most, and is open then
    light : (v : ℕ) → v ≢ 0 → W v ≤ Opens v
    light v n = go (weigh top bottom c tr m v)
      where
        go : {w : ℕ} → Weigh top bottom c tr m v w → w ≤ Opens v
        go (gone x r l) = omega arith
        go (extended x r l) = absurd (omega (arith, calm v n r))
        go (unborn x r l o) = ⊎_elim (λ (z : _ ≡ 0). omega arith) (λ (z : 2 ≤ times v tr). absurd (omega (arith, k.held.few v n))) o
        go (single x r l o) = omega (arith, still_opens v n r l)
        go (lone x r l o z) = absurd (nolone v n o z)

    -- and a net that starts here weighs nothing
    new : (v : ℕ) → v ≢ 0 → left top bottom c v ≡ 0 → W v ≡ 0
    new v n s = go (weigh top bottom c tr m v)
      where
        go : {w : ℕ} → Weigh top bottom c tr m v w → w ≡ 0
        go (gone x r l) = x
        go (extended x r l) = absurd (omega (arith, calm v n r))
        go (unborn x r l o) = ⊎_elim (λ (z : _ ≡ 0). z) (λ (z : 2 ≤ times v tr). absurd (omega (arith, k.held.few v n))) o
        go (single x r l o) = absurd (omega arith)
        go (lone x r l o z) = absurd (omega arith)

    -- one pin that starts its net: one track is free
    pub room_one : (a : ℕ) → a ≢ 0 → HasPin top bottom a c → left top bottom c a ≡ 0 → 1 ≤ times 0 tr
    room_one a n here z =
        omega (
          arith,
          enough,
          tracks_hold,
          used,
          halves,
          pairs_leave a 0 1 0 (λ n. here) (λ n. absurd (n refl)) (λ n. n) (omega arith) (omega arith) (λ i. n) (λ i. absurd (i refl)),
          leave W light a 0 (λ n. n) (λ n. (here, new a n z)) (λ n. absurd (n refl)) 1 0 (omega arith) (omega arith) (λ i. n) (λ i. absurd (i refl)),
        )

    -- two pins that start their nets: two tracks are free
    pub room_two : Q ≢ P → P ≢ 0 → Q ≢ 0 → left top bottom c P ≡ 0 → left top bottom c Q ≡ 0 → 2 ≤ times 0 tr
    room_two d p q y z =
        omega (
          arith,
          enough,
          tracks_hold,
          used,
          halves,
          pairs_leave P Q 1 1 (λ n. inl refl) (λ n. inr refl) (λ n i. d (sym i)) (omega arith) (omega arith) (λ n. p) (λ n. q),
          leave W light P Q (λ n i. d (sym i)) (λ n. (inl refl, new P n y)) (λ n. (inr refl, new Q n z)) 1 1 (omega arith) (omega arith) (λ n. p) (λ n. q),
        )
