-- Columns of five segments without loose ends: where each run of a net ends at a pin or a strand, and each strand that does not run straight meets a run, no
-- point of a track has a single edge of the net. Assumes nothing.
use Prim.Native.Nat.{ℕ, suc, ◌+◌, ◌≤◌, ◌<◌}
use mathlib.Core.Path.{◌≡◌}
use mathlib.Core.Logic.{◌⊎◌, inl, inr, ◌≢◌, ⊎_elim}
use native.Mathlib.Omega.{arith}
use native.Mathlib.Decide.{dec_lt}
use lib.Dec.{eqb}
use Rattle.grid.specs.Channel.{bit}
use Rattle.grid.specs.Grid.{edges_among}
use Rattle.grid.specs.declared.Segments.{Segments}
use Rattle.grid.proofs.Tests.{eq_bit, eqb_same}
use Rattle.grid.proofs.Drawings.Segments.{Ordered, Draws, Run, EachRun, of_run, AtRun, GoOn, run_all, in_run}

-- A POINT WITHOUT A SINGLE EDGE: each of the four entries that is N has another beside it
paired : {b a l r N : ℕ} → (b ≡ N → (a ≡ N) ⊎ ((l ≡ N) ⊎ (r ≡ N))) → (a ≡ N → (b ≡ N) ⊎ ((l ≡ N) ⊎ (r ≡ N)))
    → (l ≡ N → (r ≡ N) ⊎ ((b ≡ N) ⊎ (a ≡ N))) → (r ≡ N → (l ≡ N) ⊎ ((b ≡ N) ⊎ (a ≡ N)))
    → edges_among b a l r N ≢ 1
paired {b} {a} {l} {r} {N} of_b of_a of_l of_r e =
    ⊎_elim (λ d. omega (arith, d.1, some a l r (of_b d.0))) (λ z.
    ⊎_elim (λ d. omega (arith, d.1, some b l r (of_a d.0))) (λ z'.
    ⊎_elim (λ d. omega (arith, d.1, some r b a (of_l d.0))) (λ z''.
    ⊎_elim (λ d. omega (arith, d.1, some l b a (of_r d.0))) (λ z'''. omega (arith, z.1, z'.1, z''.1, z'''.1))
    (eq_bit r N)) (eq_bit l N)) (eq_bit a N)) (eq_bit b N)
  where
    is : (x : ℕ) → x ≡ N → bit (eqb x N) ≡ 1
    is x i = rw i (eqb_same N)

    some : (x y z : ℕ) → (x ≡ N) ⊎ ((y ≡ N) ⊎ (z ≡ N)) → 1 ≤ bit (eqb x N) + (bit (eqb y N) + bit (eqb z N))
    some x y z = ⊎_elim (λ i. omega (arith, is x i)) (⊎_elim (λ i. omega (arith, is y i)) (λ i. omega (arith, is z i)))

-- A TIDY NET: L comes in, R leaves

-- a run of N may end at row r: a pin's, below or above the tracks, or one where N has a strand
pub data Stop (t : ℕ) (L R : ℕ → ℕ) (N r : ℕ) : Type 0 where
  at_bottom : r ≡ 0 → Stop t L R N r
  at_top : r ≡ suc t → Stop t L R N r
  at_left : {k : ℕ} → r ≡ suc k → L k ≡ N → Stop t L R N r
  at_right : {k : ℕ} → r ≡ suc k → R k ≡ N → Stop t L R N r

-- both ends of each run of N are such rows
abbrev pub Stopped : (t : ℕ) (s : Segments) (L R : ℕ → ℕ) (N : ℕ) → Type 0
Stopped t s L R N = EachRun t s N (λ lo hi. lo < hi → Stop t L R N lo × Stop t L R N hi)

-- and its strands go on, from the left and from the right
pub record Tidy (t : ℕ) (s : Segments) (L R : ℕ → ℕ) (N : ℕ) : Type 0 where
  pub ends : Stopped t s L R N
  pub ins : GoOn t s L R N
  pub outs : GoOn t s R L N

-- NO POINT OF A TRACK HAS A SINGLE EDGE OF A TIDY NET: an entry goes on beyond the point, or its run ends there
module _ {t : ℕ} {s : Segments} {L U R : ℕ → ℕ} {N : ℕ} (o : Ordered t s) (u : Draws t s U) (n : N ≢ 0) (c : Tidy t s L R N) (j : ℕ) where
  -- a run at the point has an entry there
  meets : AtRun t s N (suc j) → (U j ≡ N) ⊎ (U (suc j) ≡ N)
  meets (lo, hi, run, q, a, b) = go (dec_lt (suc j) hi)
    where
      go : Dec (suc j < hi) → (U j ≡ N) ⊎ (U (suc j) ≡ N)
      go (yes i) = inr (run_all o u run (suc j) a i)
      go (no i) = inl (run_all o u run j (omega arith) (omega arith))

  -- a run that ends there meets a strand
  stop : {r : ℕ} → j < t → r ≡ suc j → Stop t L R N r → (L j ≡ N) ⊎ (R j ≡ N)
  stop p i (at_bottom e) = absurd (omega arith)
  stop p i (at_top e) = absurd (omega arith)
  stop p i (at_left {k} e f) = let g : k ≡ j = omega arith in inl (rw g at f)
  stop p i (at_right {k} e f) = let g : k ≡ j = omega arith in inr (rw g at f)

  -- the entry below
  below : j < t → U j ≡ N → (U (suc j) ≡ N) ⊎ ((L j ≡ N) ⊎ (R j ≡ N))
  below p e = let (lo, hi, run, a, b) = in_run o u N j n e in go lo hi run a b (dec_lt (suc j) hi)
    where
      go : (lo hi : ℕ) → Run t s N lo hi → lo ≤ j → j < hi → Dec (suc j < hi) → (U (suc j) ≡ N) ⊎ ((L j ≡ N) ⊎ (R j ≡ N))
      go lo hi run a b (yes i) = inl (run_all o u run (suc j) (omega arith) i)
      go lo hi run a b (no i) = inr (stop p (omega arith) (of_run c.ends run (omega arith)).1)

  -- the entry above
  above : j < t → U (suc j) ≡ N → (U j ≡ N) ⊎ ((L j ≡ N) ⊎ (R j ≡ N))
  above p e = let (lo, hi, run, a, b) = in_run o u N (suc j) n e in go lo hi run a b (dec_lt j lo)
    where
      go : (lo hi : ℕ) → Run t s N lo hi → lo ≤ suc j → suc j < hi → Dec (j < lo) → (U j ≡ N) ⊎ ((L j ≡ N) ⊎ (R j ≡ N))
      go lo hi run a b (yes i) = inr (stop p (omega arith) (of_run c.ends run (omega arith)).0)
      go lo hi run a b (no i) = inl (run_all o u run j (omega arith) (omega arith))

  -- so each has another beside it
  pub tidy_edges : j < t → edges_among (U j) (U (suc j)) (L j) (R j) N ≢ 1
  tidy_edges p = paired (below p) (above p) (λ e. ⊎_elim inl (λ a. inr (meets a)) (c.ins j e)) (λ e. ⊎_elim inl (λ a. inr (meets a)) (c.outs j e))
