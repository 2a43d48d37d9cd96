-- Tables of a figure of each net, and what the passes over the rows leave in them. Assumes nothing.
use Prim.Native.Nat.{ℕ, zero, suc, ◌+◌, ◌*◌, ◌≤◌, ◌<◌}
use mathlib.Core.Path.{◌≡◌, refl, sym, ap, ap₂, ◌∙◌, subst}
use mathlib.Core.Bool.{Bool, true, false, ◌&&◌, ◌||◌}
use mathlib.Core.List.{List}
use native.Mathlib.Omega.{arith}
use native.Mathlib.Numerals.{add-one}
use lib.Dec.{eqb}
use lib.ListN.{length, get_or, set, length-set}
use lib.Seq.{get_or-set_same, get_or-set_other, ext_get_or}
use Rattle.grid.specs.Channel.{pick, bit, left, pins}
use Rattle.grid.specs.Nets.{is_pinned, first_to, last_to, first_column, last_column, from, table, zero_table}
use Rattle.grid.specs.Working.{ByNet, some_to}
use Rattle.grid.proofs.Tests.{eq-eqb, ne_eqb, Same, same, diff, same_by, bit_most}
use Rattle.grid.proofs.Counting.{zeros}
use Rattle.grid.proofs.Sums.{some_same}
use Rattle.grid.proofs.Scanning.{Passed}
use Rattle.grid.proofs.Rows.{before, no_right, left-right, left_suc}

-- TABLES

pub length_from : (f : ℕ → ℕ) (i k : ℕ) → length (from f i k) ≡ k
unfolding from
length_from f i zero = refl
length_from f i (suc k) = ap suc (length_from f (suc i) k)

pub from_at : (f : ℕ → ℕ) (i k j : ℕ) → j < k → get_or (from f i k) j 0 ≡ f (i + j)
unfolding from
from_at f i zero j h = absurd (omega arith)
from_at f i (suc k) zero h = ap f (omega arith)
from_at f i (suc k) (suc j) h = from_at f (suc i) k j (omega arith) ∙ ap f (omega arith)

-- a table has 257 places
pub table-length : (f : ℕ → ℕ) → length (table f) ≡ 257
unfolding table
table-length f = ap suc (length_from f 1 256)

-- at a net's number stands its figure
pub table_at : (f : ℕ → ℕ) (v : ℕ) → 1 ≤ v → v ≤ 256 → get_or (table f) v 0 ≡ f v
unfolding table
table_at f zero a b = absurd (omega arith)
table_at f (suc v) a b = from_at f 1 256 v (omega arith) ∙ ap f (omega arith)

-- so in a list that is a table
pub at_net : (f : ℕ → ℕ) (l : List ℕ) → l ≡ table f → (v : ℕ) → 1 ≤ v → v ≤ 256 → get_or l v 0 ≡ f v
at_net f l e v a b = ap (λ (m : List ℕ). get_or m v 0) e ∙ table_at f v a b

-- at 0 stands 0
pub table_none : (f : ℕ → ℕ) → get_or (table f) 0 0 ≡ 0
unfolding table
table_none f = refl

-- figures at the nets' numbers are a table once 0 stands at 0
pub cleared : (f : ℕ → ℕ) (l : List ℕ) → ByNet f l → set l 0 0 ≡ table f
cleared f l h = ext_get_or 0 (set l 0 0) (table f) (simp length-set (h.size ∙ sym (table-length f))) at
  where
    at : (i : ℕ) → i < length (set l 0 0) → get_or (set l 0 0) i 0 ≡ get_or (table f) i 0
    at zero b = get_or-set_same l 0 0 0 (omega (arith, h.size)) ∙ sym (table_none f)
    at (suc i) b =
        let z : length (set l 0 0) ≡ 257 = simp length-set h.size in
        get_or-set_other l 0 (suc i) 0 0 (λ y. let x : ⊥ = omega arith in x) ∙ h.at (suc i) (omega arith) (omega arith) ∙ sym (table_at f (suc i) (omega arith) (omega arith))

-- a test over figures at the nets' numbers is the test over the figures
pub net_some : (q : ℕ → Bool) (f : ℕ → ℕ) (l : List ℕ) → ByNet f l → some_to (λ v. q (get_or l v 0)) 256 ≡ some_to (λ v. q (f v)) 256
net_some q f l h = some_same (λ v. q (get_or l v 0)) (λ v. q (f v)) 256 (λ v a b. ap q (h.at v a b))

-- so over a table
pub table-some : (q : ℕ → Bool) (f : ℕ → ℕ) (l : List ℕ) → l ≡ table f → some_to (λ v. q (get_or l v 0)) 256 ≡ some_to (λ v. q (f v)) 256
table-some q f l e = net_some q f l (record { size = ap length e ∙ table-length f; at = at_net f l e })

-- zeros are 257 places
pub zero_table-length : (l : List ℕ) → l ≡ zero_table → length l ≡ 257
unfolding zero_table
zero_table-length l e = ap length e

-- A PIN NOTED

-- a list after a store
get_d_set : (l : List ℕ) (i a v : ℕ) → i < length l → get_or (set l i a) v 0 ≡ pick (eqb i v) a (get_or l v 0)
get_d_set l i a v h = go (eqb i v) (same_by i v)
  where
    go : (q : Bool) → Same i v q → get_or (set l i a) v 0 ≡ pick q a (get_or l v 0)
    go true (same e) = subst (λ (z : ℕ). get_or (set l i a) z 0 ≡ a) e (get_or-set_same l i a 0 h)
    go false (diff n) = get_or-set_other l i v a 0 (λ e. n (sym e))

-- one more for a net
pub tallied_at : (l : List ℕ) (net v : ℕ) → net < length l → get_or (set l net (get_or l net 0 + 1)) v 0 ≡ get_or l v 0 + bit (eqb net v)
tallied_at l net v h = get_d_set l net (get_or l net 0 + 1) v h ∙ go (eqb net v) (same_by net v)
  where
    go : (q : Bool) → Same net v q → pick q (get_or l net 0 + 1) (get_or l v 0) ≡ get_or l v 0 + bit q
    go true (same e) = ap (λ (z : ℕ). get_or l z 0 + 1) e
    go false d = omega arith

-- what two pins of column c do to a net's last column, and from the right to its first
two_pins : (l : List ℕ) (p q c v : ℕ) → p < length l → q < length l → get_or (set (set l p c) q c) v 0 ≡ pick (eqb p v || eqb q v) c (get_or l v 0)
two_pins l p q c v hp hq =
    get_d_set (set l p c) q c v (simp length-set hq) ∙ ap (λ (z : ℕ). pick (eqb q v) c z) (get_d_set l p c v hp) ∙ go (eqb p v) (eqb q v) (get_or l v 0)
  where
    go : (a b : Bool) (old : ℕ) → pick b c (pick a c old) ≡ pick (a || b) c old
    go true true old = refl
    go true false old = refl
    go false b old = refl

-- PINS COUNTED

-- after a pin of net p
abbrev pub tallied : List ℕ → ℕ → List ℕ
tallied l p = set l p (get_or l p 0 + 1)

-- the table once the pins of the columns 1 to i are counted
pub record Counted (top bottom : List ℕ) (i : ℕ) (counts : List ℕ) : Type 0 where
  pub nets : ByNet (left top bottom i) counts
  pub few : (v : ℕ) → get_or counts v 0 ≤ 2 * i

-- none is counted in zeros
pub counted_none : (top bottom counts : List ℕ) → counts ≡ zero_table → Counted top bottom 0 counts
unfolding zero_table
counted_none top bottom counts e = record {
  nets = record { size = zero_table-length counts e; at = λ v p q. rw e (zeros 257 v ∙ sym (before top bottom v)) };
  few = λ v. rw e (omega (arith, zeros 257 v));
}

-- a net's place in the table, and room for one pin more
abbrev pub PinRoom : (counts : List ℕ) (net : ℕ) → Type 0
PinRoom counts net = (net < length counts) × (get_or counts net 0 < 1024)

module _ (top bottom : List ℕ) (i : ℕ) (counts : List ℕ) (n : Counted top bottom i counts) where
  -- all columns are counted
  pub counted_all : i ≡ length top → length top ≡ length bottom → ByNet (pins top bottom) counts
  counted_all e s = record {
    size = n.nets.size;
    at = λ v a b. n.nets.at v a b ∙ ap (λ (x : ℕ). left top bottom x v) e ∙ omega (arith, left-right top bottom v (length top), no_right top bottom v (omega arith));
  }

  module _ (p q : ℕ) (w : Passed top bottom i p q) where
    -- room for the column's first pin
    pub first_pin_room : PinRoom counts p
    first_pin_room = (omega (arith, n.nets.size, w.net), omega (arith, n.few p, w.few))

    module _ (k₁ : List ℕ) (e : k₁ ≡ tallied counts p) where
      -- and for its second
      pub second_pin_room : PinRoom k₁ q
      second_pin_room =
          let t = ap (λ (m : List ℕ). get_or m q 0) e ∙ tallied_at counts p q (omega (arith, n.nets.size, w.net)) in
          let z : length k₁ ≡ 257 = ap length e ∙ simp length-set n.nets.size in
          (omega (arith, w.other), omega (arith, n.few q, w.few, bit_most (eqb p q)))

      -- both pins of column i + 1 are counted
      pub counted_column : (k₂ : List ℕ) → k₂ ≡ tallied k₁ q → Counted top bottom (i + 1) k₂
      counted_column k₂ g = record {
        nets = record {
          size = ap length g ∙ simp length-set (ap length e ∙ simp length-set n.nets.size);
          at = λ v a b.
              let l = n.nets.at v a b in
              let m = left_suc top bottom v i (omega arith) in
              let bp = ap (λ (x : ℕ). bit (eqb x v)) w.above in
              let bq = ap (λ (x : ℕ). bit (eqb x v)) w.below in
              let s = ap (λ (x : ℕ). left top bottom x v) (add-one i) in
              omega (arith, two v);
        };
        few = λ v. omega (arith, two v, n.few v, bit_most (eqb p v), bit_most (eqb q v));
      }
        where
          two : (v : ℕ) → get_or k₂ v 0 ≡ get_or counts v 0 + bit (eqb p v) + bit (eqb q v)
          two v =
              ap (λ (m : List ℕ). get_or m v 0) (g ∙ ap (λ (l : List ℕ). tallied l q) e)
              ∙ tallied_at (tallied counts p) q v (simp length-set (omega (arith, n.nets.size, w.other)))
              ∙ ap (λ (z : ℕ). z + bit (eqb q v)) (tallied_at counts p v (omega (arith, n.nets.size, w.net)))

-- THE PASS FROM THE LEFT

-- the table of last columns once the columns 1 to i are noted
abbrev pub Noted : (top bottom : List ℕ) (i : ℕ) (last : List ℕ) → Type 0
Noted top bottom i last = ByNet (λ v. last_to top bottom v i) last

-- no column is noted in zeros
pub noted_none : (top bottom last : List ℕ) → last ≡ zero_table → Noted top bottom 0 last
unfolding zero_table last_to
noted_none top bottom last e = record { size = zero_table-length last e; at = λ v p q. rw e (zeros 257 v) }

module _ (top bottom : List ℕ) (i : ℕ) (last : List ℕ) (n : Noted top bottom i last) where
  -- all columns are noted
  pub noted_all : i ≡ length top → ByNet (last_column top bottom) last
  unfolding last_column
  noted_all e = record { size = n.size; at = λ v a b. n.at v a b ∙ ap (last_to top bottom v) e }

  module _ (p q c : ℕ) (w : Passed top bottom i p q) (l₁ : List ℕ) (e : l₁ ≡ set last p c) where
    -- the table after the column's first pin has the second's place
    pub second-place : q < length l₁
    second-place = let z : length l₁ ≡ 257 = ap length e ∙ simp length-set n.size in omega (arith, w.other)

    -- both pins of column i + 1 are noted
    pub noted_column : (l₂ : List ℕ) → l₂ ≡ set l₁ q c → c ≡ i + 1 → Noted top bottom (i + 1) l₂
    unfolding last_to is_pinned
    noted_column l₂ g ec = record {
      size = ap length twice ∙ simp length-set n.size;
      at = λ v a b.
          ap (λ (m : List ℕ). get_or m v 0) twice
          ∙ two_pins last p q c v (omega (arith, n.size, w.net)) (omega (arith, n.size, w.other))
          ∙ ap₂ (λ (c z : ℕ). pick (eqb p v || eqb q v) c z) (ec ∙ add-one i) (n.at v a b)
          ∙ ap₂ (λ (x y : ℕ). pick (eqb x v || eqb y v) (suc i) (last_to top bottom v i)) w.above w.below
          ∙ ap (last_to top bottom v) (sym (add-one i));
    }
      where
        twice : l₂ ≡ set (set last p c) q c
        twice = g ∙ ap (λ (l : List ℕ). set l q c) e

-- THE PASS FROM THE RIGHT

-- the table once the columns after i are noted: it has a net's first column where the columns 1 to i have no pin of the net
pub record NotedAfter (top bottom : List ℕ) (i : ℕ) (first : List ℕ) : Type 0 where
  pub size : length first ≡ 257
  pub firsts : (v : ℕ) → 1 ≤ v → v ≤ 256 → pick (eqb (first_to top bottom v i) 0) (get_or first v 0) (first_to top bottom v i) ≡ first_column top bottom v

-- no column is noted in zeros
pub noted_after_none : (top bottom : List ℕ) (i : ℕ) (first : List ℕ) → i ≡ length top → first ≡ zero_table → NotedAfter top bottom i first
unfolding zero_table first_column
noted_after_none top bottom i first e b = record {
  size = zero_table-length first b;
  firsts = λ v p q.
      ap₂ (λ (z x : ℕ). pick (eqb z 0) x z) (ap (first_to top bottom v) e) (ap (λ (m : List ℕ). get_or m v 0) b ∙ zeros 257 v) ∙ go (eqb (first_to top bottom v (length top)) 0) (same_by (first_to top bottom v (length top)) 0);
}
  where
    go : {f : ℕ} (z : Bool) → Same f 0 z → pick z 0 f ≡ f
    go true (same e) = sym e
    go false d = refl

-- column i + 1 noted, where a tells of its pin, f is the first column up to i and x what is noted of those after i + 1
first_back : (a z : Bool) (f x i : ℕ) → Same f 0 z → pick z (pick a (suc i) x) f ≡ pick (eqb (pick (a && z) (suc i) f) 0) x (pick (a && z) (suc i) f)
first_back true true f x i s = sym (ap (λ (w : Bool). pick w x (suc i)) (ne_eqb (suc i) 0 (λ y. let u : ⊥ = omega arith in u)))
first_back false true f x i (same e) = sym (ap (λ (w : Bool). pick w x f) (eq-eqb f 0 e))
first_back true false f x i (diff n) = sym (ap (λ (w : Bool). pick w x f) (ne_eqb f 0 n))
first_back false false f x i (diff n) = sym (ap (λ (w : Bool). pick w x f) (ne_eqb f 0 n))

module _ (top bottom : List ℕ) (i : ℕ) (first : List ℕ) (n : NotedAfter top bottom i first) where
  -- all columns are noted
  pub noted_after_all : i ≡ 0 → ByNet (first_column top bottom) first
  unfolding first_to
  noted_after_all e = record { size = n.size; at = λ v a b. ap (λ (x : ℕ). pick (eqb (first_to top bottom v x) 0) (get_or first v 0) (first_to top bottom v x)) (sym e) ∙ n.firsts v a b }

  -- both pins of column i are noted
  pub noted_after_column : (j p q c : ℕ) → i ≡ j + 1 → c ≡ i → Passed top bottom j p q → NotedAfter top bottom j (set (set first p c) q c)
  unfolding first_to is_pinned
  noted_after_column j p q c ei ec w = record {
    size = simp length-set n.size;
    firsts = λ v a b.
        ap (λ (x : ℕ). pick (eqb (first_to top bottom v j) 0) x (first_to top bottom v j))
        (two_pins first p q c v (omega (arith, n.size, w.net)) (omega (arith, n.size, w.other))
        ∙ ap₂ (λ (x y : ℕ). pick (eqb x v || eqb y v) c (get_or first v 0)) w.above w.below
        ∙ ap (λ (x : ℕ). pick (is_pinned top bottom v j) x (get_or first v 0)) (ec ∙ ei ∙ add-one j))
        ∙ first_back (is_pinned top bottom v j) (eqb (first_to top bottom v j) 0) (first_to top bottom v j) (get_or first v 0) j (same_by (first_to top bottom v j) 0)
        ∙ ap (λ (x : ℕ). pick (eqb (first_to top bottom v x) 0) (get_or first v 0) (first_to top bottom v x)) (sym (ei ∙ add-one j))
        ∙ n.firsts v a b;
  }
