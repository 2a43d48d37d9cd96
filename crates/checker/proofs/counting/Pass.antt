-- From one column to the next, and what the counts say at the end.
use Prim.Native.Nat.{ℕ, suc, ◌+◌, ◌*◌, ◌≤◌, ◌<◌}
use mathlib.Core.Path.{◌≡◌, sym, ◌∙◌, ap, subst}
use mathlib.Core.Logic.{◌≢◌, ◌↔◌}
use mathlib.Core.List.{List}
use lib.ListN.{length, get_or, get_or-eq_default}
use native.Mathlib.Omega.{arith}
use native.Mathlib.Numerals.{add-one}
use Rattle.grid.specs.Grid.{vertical_of, horizontal_of, OnePiece}
use Rattle.pieces.specs.Labels.{left_from, labelled, after_points, net_of}
use Rattle.pieces.proofs.Alone.{fresh}
use Rattle.pieces.proofs.Whole.{labels, pieces, exact}
use Rattle.checker.specs.Working.{Within, ColumnAt, seen, Labs, PerNet, PieceCounted, CountedTo, CountedAll, State}
use Rattle.checker.proofs.Limits.{index_of}
use Rattle.checker.proofs.counting.Counts.{counted_start, counted_first, counted_last}
use Rattle.checker.proofs.counting.Positions.{room, short, NextColumn, next_start, next_small, next_after}

-- the labels before column x
seen_start : (D : List ℕ) (t b q x : ℕ) → b ≡ x * (2 * t + 1) → seen D t b q 0 ≡ labelled (net_of D) (length D) t x
unfolding seen after_points
seen_start D t b q x e = ap (labelled (net_of D) (length D) t) (index_of t b x e)

-- and after it
seen_end :
    (D : List ℕ) (t b q x : ℕ) → b ≡ x * (2 * t + 1) → q ≡ left_from (length D) t x → seen D t b q t ≡ labelled (net_of D) (length D) t (suc x)
unfolding seen labelled
seen_end D t b q x e o = rw (index_of t b x e, e, o)

-- a column's position is small
pub small_base : (D : List ℕ) (t b q : ℕ) → ColumnAt D t b q → b < 1000000
small_base D t b q C = omega (arith, room D t b q C, short D t b q C)

-- the first point: the lowest edge is its own label and begins a piece
pub begin_state :
    (D : List ℕ) (t b q M : ℕ) (lab begun begun' joined : List ℕ) → ColumnAt D t b q → Labs D t b q 0 (seen D t b q 0) lab
    → CountedTo D (seen D t b q 0) b begun joined → M ≡ net_of D b → PieceCounted b b M begun begun' → State D t b q 0 b lab begun' joined
begin_state D t b q M lab begun begun' joined C L c e g = record {
  labels = record {
    down = λ n.
        sym
        (rw (seen_start D t b q C.x C.base)
        (ap (labelled (net_of D) (length D) t C.x) (omega arith)
        ∙ (fresh (net_of D) (length D) t C.x b (omega (arith, room D t b q C)) (omega (arith, C.base))).mine));
    labs = L;
  };
  counted = counted_first D t b (seen D t b q 0) M begun begun' joined e c g;
}

-- after the last point
pub end_state :
    (D : List ℕ) (t b q j vl : ℕ) (lab begun joined : List ℕ) → State D t b q j vl lab begun joined → j ≡ t
    → Labs D t b q t (seen D t b q t) lab × CountedTo D (seen D t b q t) (b + 2 * t + 1) begun joined
end_state D t b q j vl lab begun joined s e =
    let z = subst (λ (k : ℕ). State D t b q k vl lab begun joined) e s in
    (z.labels.labs, counted_last D t b (seen D t b q t) begun joined z.counted)

-- x columns are passed
pub record ColumnsPassed (D : List ℕ) (w t x b q : ℕ) (lab begun joined : List ℕ) : Type 0 where
  pub next : NextColumn D w t x b q
  pub labs : Labs D t b q 0 (labelled (net_of D) (length D) t x) lab
  pub counted : CountedTo D (labelled (net_of D) (length D) t x) b begun joined

-- none at first
pub pass_start :
    (D : List ℕ) (w t : ℕ) (lab begun joined : List ℕ) → length lab ≡ 512 → PerNet 0 begun → PerNet 0 joined
    → ColumnsPassed D w t 0 0 (length D) lab begun joined
unfolding labelled
pass_start D w t lab begun joined l x y = record {
  next = next_start D w t;
  labs = record {
    long = l;
    done = λ k i. absurd (omega arith);
    todo = λ k i m n. absurd (n (get_or-eq_default D 0 {n = length D + k} (omega arith)));
  };
  counted = counted_start D begun joined x y;
}

module _ (D : List ℕ) (w t x b q : ℕ) (lab begun joined : List ℕ) (d : Within D w t) (p : ColumnsPassed D w t x b q lab begun joined) where
  -- the next column can be taken
  pub pass_column : Labs D t b q 0 (seen D t b q 0) lab × CountedTo D (seen D t b q 0) b begun joined
  pass_column = let e = seen_start D t b q x p.next.base in rw e (p.labs, p.counted)

  -- its positions are small
  pub pass_small : x < w → b + 2 * t + 1 ≤ 1000000
  pass_small = next_small D w t x b q d p.next

  -- and it is passed
  pub pass_next :
      (lab' begun' joined' : List ℕ) → x < w → Labs D t b q t (seen D t b q t) lab'
      → CountedTo D (seen D t b q t) (b + 2 * t + 1) begun' joined'
      → ColumnsPassed D w t (x + 1) (b + 2 * t + 1) (b + t + 1) lab' begun' joined'
  pass_next lab' begun' joined' l L c =
      let e = seen_end D t b q x p.next.base p.next.before in
      let n = next_after D w t x b q d p.next l in
      rw (add-one x)
      (record {
        next = rw (add-one x) at n;
        labs = record {
          long = L.long;
          done = λ k i. absurd (omega arith);
          todo = λ k i m n. L.done k m n ∙ ap (λ (f : ℕ → ℕ). f (b + t + 1 + k)) e;
        };
        counted = rw e at c;
      })

  -- until all are
  pub pass_end : w ≤ x → CountedAll D w t begun joined
  pass_end l =
      let e : x ≡ w = omega (arith, p.next.below) in
      let o : b ≡ length D = rw e at p.next.base ∙ sym d.size in
      rw (e, o) at p.counted

-- at most one piece more than the joins is a net in one piece
pub counted_exact :
    (D : List ℕ) (w t : ℕ) (begun joined : List ℕ) → Within D w t → CountedAll D w t begun joined → (N : ℕ) → N ≢ 0 → N ≤ 256
    → (get_or begun N 0 ≤ 1 + get_or joined N 0) ↔ OnePiece (vertical_of D t) (horizontal_of D t) N
unfolding pieces labels
counted_exact D w t begun joined d c N n l =
    let e = exact D t w (omega (arith, d.size)) N n in
    let o = c.counts N n l in
    (λ k. e.0 (omega arith), λ k. omega (arith, e.1 k))
