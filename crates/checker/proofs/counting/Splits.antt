-- Refusal 16: nets in more than one piece, by the decision and by the counts.
use Prim.Native.Nat.{ℕ, zero, suc, ◌+◌, ◌≤◌, ◌<◌}
use mathlib.Core.Path.{◌≡◌, refl, sym, ◌∙◌, ap}
use mathlib.Core.Logic.{◌≢◌, by_cases}
use mathlib.Core.Bool.{true, false}
use mathlib.Core.List.{List}
use lib.ListN.{get_or}
use native.Mathlib.Omega.{arith}
use native.Mathlib.Decide.{ℕ_discrete, dec_le}
use Rattle.grid.specs.Channel.{bit}
use Rattle.grid.specs.Grid.{OnePiece, vertical_of, horizontal_of}
use Rattle.grid.proofs.Tests.{eq-eqb, ne_eqb, lt-ltb, le-ltb}
use Rattle.pieces.proofs.Whole.{whole?}
use Rattle.checker.specs.Working.{Within, CountedAll, in_pieces}
use Rattle.checker.specs.Check.{is_no, split}
use Rattle.checker.proofs.Least.{NoneBelow}
use Rattle.checker.proofs.counting.Pass.{counted_exact}

module _ (t : ℕ) (D : List ℕ) where
  -- a net that is not split is one piece
  pub split_not : (N : ℕ) → N ≢ 0 → split t D N ≡ false → OnePiece (vertical_of D t) (horizontal_of D t) N
  unfolding split
  split_not zero n e = absurd (n refl)
  split_not (suc N) n e = go (whole? D t (suc N) (omega arith)) e
    where
      go : (d : Dec (OnePiece (vertical_of D t) (horizontal_of D t) (suc N))) → is_no d ≡ false → OnePiece (vertical_of D t) (horizontal_of D t) (suc N)
      go (yes o) x = o
      go (no o) x = let z : ◌≡◌ {A = ℕ} 1 0 = ap bit x in absurd (omega arith)

  -- one that is one piece is not split
  pub not_split : (N : ℕ) → (N ≢ 0 → OnePiece (vertical_of D t) (horizontal_of D t) N) → split t D N ≡ false
  unfolding split
  not_split zero h = refl
  not_split (suc N) h = go (whole? D t (suc N) (omega arith))
    where
      go : (d : Dec (OnePiece (vertical_of D t) (horizontal_of D t) (suc N))) → is_no d ≡ false
      go (yes o) = refl
      go (no o) = absurd (o (h (omega arith)))

  -- one that is not is
  pub is_split : (N : ℕ) → N ≢ 0 → (OnePiece (vertical_of D t) (horizontal_of D t) N → ⊥) → split t D N ≡ true
  unfolding split
  is_split zero n h = absurd (n refl)
  is_split (suc N) n h = go (whole? D t (suc N) (omega arith))
    where
      go : (d : Dec (OnePiece (vertical_of D t) (horizontal_of D t) (suc N))) → is_no d ≡ true
      go (yes o) = absurd (h o)
      go (no o) = refl

module _ (begun joined : List ℕ) where
  -- net 0 is none
  pub in_pieces_zero : NoneBelow (in_pieces begun joined) 1
  unfolding in_pieces
  in_pieces_zero = record { none = λ k l. rw (eq-eqb k 0 (omega arith)) }

  -- more pieces begun than one and the joins
  pub in_pieces_yes : (N : ℕ) → N ≢ 0 → 1 + get_or joined N 0 < get_or begun N 0 → in_pieces begun joined N ≡ true
  unfolding in_pieces
  in_pieces_yes N n l = rw (ne_eqb N 0 n) (lt-ltb (1 + get_or joined N 0) (get_or begun N 0) l)

  -- and not more
  pub in_pieces_not : (N : ℕ) → get_or begun N 0 ≤ 1 + get_or joined N 0 → in_pieces begun joined N ≡ false
  unfolding in_pieces
  in_pieces_not N l =
      by_cases (ℕ_discrete N 0) (λ e. rw (eq-eqb N 0 e)) (λ e. rw (ne_eqb N 0 e) (le-ltb (1 + get_or joined N 0) (get_or begun N 0) l))

  -- the counts say which nets are split
  pub in_pieces-split :
      (D : List ℕ) (w t : ℕ) → Within D w t → CountedAll D w t begun joined → (N : ℕ) → N < 257 → in_pieces begun joined N ≡ split t D N
  in_pieces-split D w t d c N l =
      by_cases (ℕ_discrete N 0)
      (λ e. rw e (in_pieces_zero.none 0 (omega arith) ∙ sym (not_split t D 0 (λ n. absurd (n refl)))))
      (λ n.
      let e = counted_exact D w t begun joined d c N n (omega arith) in
      by_cases (dec_le (get_or begun N 0) (1 + get_or joined N 0))
      (λ k. in_pieces_not N k ∙ sym (not_split t D N (λ z. e.0 k)))
      (λ k. in_pieces_yes N n (omega arith) ∙ sym (is_split t D N n (λ o. k (e.1 o)))))
