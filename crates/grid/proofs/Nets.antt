-- First and last column of a net against its pins on both sides of a gap. Assumes nothing.
use Prim.Native.Nat.{ℕ, zero, suc, ◌+◌, ◌≤◌, ◌<◌}
use mathlib.Core.Path.{◌≡◌, refl, sym, ap, ap₂, ◌∙◌, subst}
use mathlib.Core.Logic.{◌⊎◌, inl, inr, ◌≢◌, ⊎_elim}
use mathlib.Core.Bool.{Bool, true, false, not, ◌&&◌, ◌||◌}
use mathlib.Core.List.{List}
use native.Mathlib.Omega.{arith}
use native.Mathlib.Decide.{dec_lt}
use lib.Dec.{T, eqb, ltb, leb}
use lib.ListN.{length, get_or, drop_of_length-le}
use Rattle.grid.specs.Channel.{pick, bit, times, pins, left, right, is_open}
use Rattle.grid.specs.Nets.{is_pinned, first_to, last_to, first_column, last_column}
use Rattle.grid.proofs.Tests.{eq-eqb, ne_eqb, lt-ltb, le-ltb, le-leb, lt-leb, Same, same, diff, same_by}
use Rattle.grid.proofs.Rows.{before, left-right, left_suc}

-- of a net with L pins in the columns 1 to c, f its first column so far: it is one of these columns, or there is none, or it comes later
pub data FirstSide (L f c : ℕ) : Type 0 where
  seen : 0 < L → 0 < f → f ≤ c → FirstSide L f c
  none : L ≡ 0 → f ≡ 0 → FirstSide L f c
  ahead : L ≡ 0 → c < f → FirstSide L f c

-- of a net with L pins in the columns 1 to c and M in all so far, l its last column: it lies after column c just if a pin does
data LastSide (L M l c : ℕ) : Type 0 where
  later : L < M → c < l → LastSide L M l c
  passed : L ≡ M → l ≤ c → LastSide L M l c

-- whether column k + 1 has a pin of the net, P and Q the pins up to it and with it
data Pin (q : Bool) (P Q : ℕ) : Type 0 where
  pin : q ≡ true → P < Q → Pin q P Q
  free : q ≡ false → Q ≡ P → Pin q P Q

one_of : (a b : Bool) (P Q : ℕ) → Q ≡ P + (bit a + bit b) → Pin (a || b) P Q
one_of true true P Q e = pin refl (omega arith)
one_of true false P Q e = pin refl (omega arith)
one_of false true P Q e = pin refl (omega arith)
one_of false false P Q e = free refl (omega arith)

-- a number up to the next is the next or up to this
up_to : (c k : ℕ) → c ≤ suc k → (c ≡ suc k) ⊎ (c ≤ k)
up_to c k h = go (eqb c (suc k)) (same_by c (suc k))
  where
    go : (q : Bool) → Same c (suc k) q → (c ≡ suc k) ⊎ (c ≤ k)
    go true (same e) = inl e
    go false (diff n) = inr (omega arith)

module _ (top bottom : List ℕ) (v : ℕ) where
  -- the first column is one of those passed
  pub first_le : (k : ℕ) → first_to top bottom v k ≤ k
  unfolding first_to
  first_le zero = omega arith
  first_le (suc k) = go (is_pinned top bottom v k && eqb (first_to top bottom v k) 0) (first_le k)
    where
      go : (q : Bool) → first_to top bottom v k ≤ k → pick q (suc k) (first_to top bottom v k) ≤ suc k
      go true i = omega arith
      go false i = omega arith

  -- so is the last
  last_le : (k : ℕ) → last_to top bottom v k ≤ k
  unfolding last_to
  last_le zero = omega arith
  last_le (suc k) = go (is_pinned top bottom v k) (last_le k)
    where
      go : (q : Bool) → last_to top bottom v k ≤ k → pick q (suc k) (last_to top bottom v k) ≤ suc k
      go true i = omega arith
      go false i = omega arith

  -- the first is not after the last
  pub first-last : (k : ℕ) → first_to top bottom v k ≤ last_to top bottom v k
  unfolding first_to last_to
  first-last zero = omega arith
  first-last (suc k) = go (is_pinned top bottom v k) (eqb (first_to top bottom v k) 0) (first_le k) (first-last k)
    where
      go : (q z : Bool) → first_to top bottom v k ≤ k → first_to top bottom v k ≤ last_to top bottom v k
          → pick (q && z) (suc k) (first_to top bottom v k) ≤ pick q (suc k) (last_to top bottom v k)
      go true true i j = omega arith
      go true false i j = omega arith
      go false z i j = j

  -- the first column has a pin of the net
  pub first_pinned : (c k : ℕ) → first_to top bottom v k ≡ suc c → is_pinned top bottom v c ≡ true
  unfolding first_to
  first_pinned c zero e = absurd (omega arith)
  first_pinned c (suc k) e = go (is_pinned top bottom v k) refl (eqb (first_to top bottom v k) 0) e (λ f. first_pinned c k f)
    where
      go : (q : Bool) → is_pinned top bottom v k ≡ q → (z : Bool) → pick (q && z) (suc k) (first_to top bottom v k) ≡ suc c
          → (first_to top bottom v k ≡ suc c → is_pinned top bottom v c ≡ true) → is_pinned top bottom v c ≡ true
      go true p true f ih = ap (is_pinned top bottom v) (let x : c ≡ k = omega arith in x) ∙ p
      go true p false f ih = ih f
      go false p z f ih = ih f

  -- so has the last
  pub last_pinned : (c k : ℕ) → last_to top bottom v k ≡ suc c → is_pinned top bottom v c ≡ true
  unfolding last_to
  last_pinned c zero e = absurd (omega arith)
  last_pinned c (suc k) e = go (is_pinned top bottom v k) refl e (λ f. last_pinned c k f)
    where
      go : (q : Bool) → is_pinned top bottom v k ≡ q → pick q (suc k) (last_to top bottom v k) ≡ suc c
          → (last_to top bottom v k ≡ suc c → is_pinned top bottom v c ≡ true) → is_pinned top bottom v c ≡ true
      go true p f ih = ap (is_pinned top bottom v) (let x : c ≡ k = omega arith in x) ∙ p
      go false p f ih = ih f

  module _ (net : v ≢ 0) where
    pin_at_lem : (k : ℕ) → Pin (is_pinned top bottom v k) (left top bottom k v) (left top bottom (suc k) v)
    unfolding is_pinned
    pin_at_lem k = one_of (eqb (get_or top k 0) v) (eqb (get_or bottom k 0) v) (left top bottom k v) (left top bottom (suc k) v) (left_suc top bottom v k net)

    -- the first column against the pins up to gap c
    pub first_by : (c k : ℕ) → c ≤ k → FirstSide (left top bottom c v) (first_to top bottom v k) c
    unfolding first_to
    first_by c zero h = none (ap (λ (z : ℕ). left top bottom z v) (let x : c ≡ 0 = omega arith in x) ∙ before top bottom v) refl
    first_by c (suc k) h = ⊎_elim (at (first_by k k (omega arith))) (λ l. go (is_pinned top bottom v k) (eqb (first_to top bottom v k) 0) (same_by (first_to top bottom v k) 0) l (first_by c k l)) (up_to c k h)
      where
        go : (p z : Bool) → Same (first_to top bottom v k) 0 z → c ≤ k → FirstSide (left top bottom c v) (first_to top bottom v k) c
            → FirstSide (left top bottom c v) (pick (p && z) (suc k) (first_to top bottom v k)) c
        go true true (same e) l (seen a b d) = absurd (omega arith)
        go true true s l (none a b) = ahead a (omega arith)
        go true true s l (ahead a b) = ahead a (omega arith)
        go true false s l i = i
        go false z s l i = i

        new : (q : Bool) → Pin q (left top bottom k v) (left top bottom (suc k) v) → (z : Bool) → Same (first_to top bottom v k) 0 z
            → first_to top bottom v k ≤ k → FirstSide (left top bottom k v) (first_to top bottom v k) k
            → FirstSide (left top bottom (suc k) v) (pick (q && z) (suc k) (first_to top bottom v k)) (suc k)
        new true (pin a b) true s l i = seen (omega arith) (omega arith) (omega arith)
        new true (pin a b) false (diff n) l i = seen (omega arith) (omega arith) (omega arith)
        new true (free a b) z s l i = absurd (subst T a tt)
        new false (pin a b) z s l i = absurd (subst T (sym a) tt)
        new false (free a b) z s l (seen x y w) = seen (omega arith) y (omega arith)
        new false (free a b) z s l (none x y) = none (omega arith) y
        new false (free a b) z s l (ahead x y) = absurd (omega arith)

        at : FirstSide (left top bottom k v) (first_to top bottom v k) k → c ≡ suc k → FirstSide (left top bottom c v) (first_to top bottom v (suc k)) c
        at i e =
            subst (λ (x : ℕ). FirstSide (left top bottom x v) (first_to top bottom v (suc k)) x) (sym e)
            (new (is_pinned top bottom v k) (pin_at_lem k) (eqb (first_to top bottom v k) 0) (same_by (first_to top bottom v k) 0) (first_le k) i)

    -- the last column against the pins up to gap c and up to gap k
    last_by : (c k : ℕ) → c ≤ k → LastSide (left top bottom c v) (left top bottom k v) (last_to top bottom v k) c
    unfolding last_to
    last_by c zero h = passed (ap (λ (z : ℕ). left top bottom z v) (let x : c ≡ 0 = omega arith in x)) (omega arith)
    last_by c (suc k) h = ⊎_elim at (λ l. go (is_pinned top bottom v k) (pin_at_lem k) l (last_by c k l)) (up_to c k h)
      where
        go : (q : Bool) → Pin q (left top bottom k v) (left top bottom (suc k) v) → c ≤ k
            → LastSide (left top bottom c v) (left top bottom k v) (last_to top bottom v k) c
            → LastSide (left top bottom c v) (left top bottom (suc k) v) (pick q (suc k) (last_to top bottom v k)) c
        go true (pin a b) l (later x y) = later (omega arith) (omega arith)
        go true (pin a b) l (passed x y) = later (omega arith) (omega arith)
        go true (free a b) l i = absurd (subst T a tt)
        go false (pin a b) l i = absurd (subst T (sym a) tt)
        go false (free a b) l (later x y) = later (omega arith) y
        go false (free a b) l (passed x y) = passed (omega arith) y

        at : c ≡ suc k → LastSide (left top bottom c v) (left top bottom (suc k) v) (last_to top bottom v (suc k)) c
        at e = passed (ap (λ (z : ℕ). left top bottom z v) e) (let x = last_le (suc k) in omega arith)

    -- a net with no first column has no last
    pub no_last : (k : ℕ) → first_to top bottom v k ≡ 0 → last_to top bottom v k ≡ 0
    no_last k e = go (first_by k k (omega arith)) (last_by 0 k (omega arith))
      where
        go : FirstSide (left top bottom k v) (first_to top bottom v k) k → LastSide (left top bottom 0 v) (left top bottom k v) (last_to top bottom v k) 0
            → last_to top bottom v k ≡ 0
        go (seen a b d) i = absurd (omega arith)
        go (none a b) (later x y) = absurd (omega arith)
        go (ahead a b) i = absurd (omega arith)
        go (none a b) (passed x y) = omega arith

    module _ (same_length : length top ≡ length bottom) where
      -- past the last column no pin stands right of a gap, and all stand left
      right_past : (c : ℕ) → length top ≤ c → right top bottom c v ≡ 0
      unfolding right times
      right_past c h = rw (drop_of_length-le top {i = c} h, drop_of_length-le bottom {i = c} (omega arith))

      all_left : (c : ℕ) → length top ≤ c → left top bottom c v ≡ pins top bottom v
      all_left c h = omega (arith, left-right top bottom v c, right_past c h)

      -- the first column of the net against its pins up to any gap
      first_side : (c : ℕ) → FirstSide (left top bottom c v) (first_column top bottom v) c
      unfolding first_column
      first_side c = go (dec_lt c (length top))
        where
          f : ℕ
          f = first_to top bottom v (length top)

          past : length top ≤ c → f ≤ length top → FirstSide (left top bottom (length top) v) f (length top) → FirstSide (left top bottom c v) f c
          past h l (seen a b d) = seen (omega (arith, all_left c h, all_left (length top) (omega arith))) b (omega arith)
          past h l (none a b) = none (omega (arith, all_left c h, all_left (length top) (omega arith))) b
          past h l (ahead a b) = absurd (omega arith)

          go : Dec (c < length top) → FirstSide (left top bottom c v) f c
          go (yes h) = first_by c (length top) (omega arith)
          go (no h) = past (omega arith) (first_le (length top)) (first_by (length top) (length top) (omega arith))

      -- and its last column against those after any gap
      last_side : (c : ℕ) → LastSide 0 (right top bottom c v) (last_column top bottom v) c
      unfolding last_column
      last_side c = go (dec_lt c (length top))
        where
          l : ℕ
          l = last_to top bottom v (length top)

          before_end : LastSide (left top bottom c v) (left top bottom (length top) v) l c → LastSide 0 (right top bottom c v) l c
          before_end (later x y) = later (omega (arith, all_left (length top) (omega arith), left-right top bottom v c)) y
          before_end (passed x y) = passed (omega (arith, all_left (length top) (omega arith), left-right top bottom v c)) y

          go : Dec (c < length top) → LastSide 0 (right top bottom c v) l c
          go (yes h) = before_end (last_by c (length top) (omega arith))
          go (no h) = passed (omega (arith, right_past c (omega arith))) (omega (arith, last_le (length top)))

      -- the net has a pin in the columns 1 to c just if its first column is one of them
      pub begun : (c : ℕ) → ltb 0 (left top bottom c v) ≡ (not (eqb (first_column top bottom v) 0) && leb (first_column top bottom v) c)
      begun c = go (first_side c)
        where
          L : ℕ
          L = left top bottom c v

          f : ℕ
          f = first_column top bottom v

          go : FirstSide L f c → ltb 0 L ≡ (not (eqb f 0) && leb f c)
          go (seen a b d) = simp (lt-ltb 0 L a, ne_eqb f 0 (omega arith), le-leb f c d)
          go (none a b) = simp (le-ltb 0 L (omega arith), eq-eqb f 0 b)
          go (ahead a b) = simp (le-ltb 0 L (omega arith), ne_eqb f 0 (omega arith), lt-leb f c b)

      -- and a pin after column c just if its last column lies there
      pub goes_on : (c : ℕ) → ltb 0 (right top bottom c v) ≡ ltb c (last_column top bottom v)
      goes_on c = go (last_side c)
        where
          go : LastSide 0 (right top bottom c v) (last_column top bottom v) c → ltb 0 (right top bottom c v) ≡ ltb c (last_column top bottom v)
          go (later x y) = lt-ltb 0 (right top bottom c v) x ∙ sym (lt-ltb c (last_column top bottom v) y)
          go (passed x y) = le-ltb 0 (right top bottom c v) (omega arith) ∙ sym (le-ltb c (last_column top bottom v) y)

      -- it is open at gap c just if its first column is c or before, and its last after c
      pub open_columns : (c : ℕ)
          → is_open top bottom c v ≡ ((not (eqb (first_column top bottom v) 0) && leb (first_column top bottom v) c) && ltb c (last_column top bottom v))
      unfolding is_open
      open_columns c = ap₂ ◌&&◌ (begun c) (goes_on c)
