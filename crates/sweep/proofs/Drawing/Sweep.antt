-- The invariant holds in every gap of the sweep, and every column's action is sound.
use Prim.Native.Nat.{ℕ, zero, suc, ◌≤◌, ◌<◌}
use mathlib.Core.Path.{◌≡◌, refl}
use mathlib.Core.List.{List}
use native.Mathlib.Omega.{arith}
use lib.ListN.{length, get_or}
use Rattle.grid.specs.declared.Family.{Family}
use Rattle.grid.specs.declared.Family.TheVariants.{TwoPin, ThreePin, ManyPin}
use Rattle.grid.specs.Channel.{family}
use Rattle.grid.proofs.Rows.{RowsFit}
use Rattle.sweep.specs.declared.Move.{Move}
use Rattle.sweep.specs.Drawing.{empty_at, move_of, move, state_by, state, gap, move_at}
use Rattle.sweep.proofs.Columns.Sound.{Sound}
use Rattle.sweep.proofs.Gaps.Held.{Enough, Held, held_start}
use Rattle.sweep.proofs.Gaps.Keeps.{keeps}
use Rattle.sweep.proofs.Actions.Good.{Good}
use Rattle.sweep.proofs.Rules.Chosen.{by, two_move_good, many_move_good}
use Rattle.sweep.proofs.Rules.Empty.{empty_good}
use Rattle.sweep.proofs.ThreePin.Sweep.{three_move_good, three_pair_small}

module _ (t : ℕ) (top bottom : List ℕ) (fit : RowsFit top bottom) (enough : Enough t top bottom) where
  -- the action that the rules of the channel's family choose is good
  good_of : (f : Family) → family top bottom ≡ f → (c : ℕ) → c < length top → Held t top bottom c (gap t top bottom c)
      → Good top bottom c t (gap t top bottom c) (get_or top c 0) (get_or bottom c 0) (move_of t top bottom f c (gap t top bottom c) (state t top bottom c).mates).action
  good_of TwoPin e c p h = two_move_good top bottom fit c p (gap t top bottom c) h (state t top bottom c).mates e (enough.two_pin e)
  good_of ThreePin e c p h = three_move_good t top bottom fit e (enough.three_pin e) c p
  good_of ManyPin e c p h = many_move_good top bottom fit c p (gap t top bottom c) h (state t top bottom c).mates (enough.many_pin e)

  -- so is that of the column
  move_good : (c : ℕ) → c < length top → Held t top bottom c (gap t top bottom c)
      → Good top bottom c t (gap t top bottom c) (get_or top c 0) (get_or bottom c 0) (move_at t top bottom c).action
  unfolding move_at move
  move_good c p h =
      by (λ (x : Move). Good top bottom c t (gap t top bottom c) (get_or top c 0) (get_or bottom c 0) x.action) (empty_at top bottom c)
      (empty_good top bottom c (gap t top bottom c) h) (λ i. good_of (family top bottom) refl c p h)

  -- THE INVARIANT
  pub invariant : (c : ℕ) → c ≤ length top → Held t top bottom c (gap t top bottom c)
  unfolding state_by move_at
  invariant zero p = held_start t top bottom
  invariant (suc c) p =
      let h = invariant c (omega arith) in
      let (s, f) = move_good c p h in
      keeps top bottom c (gap t top bottom c) h (move_at t top bottom c).action s f

  -- SO EVERY COLUMN'S ACTION IS SOUND
  pub sound : (c : ℕ) → c < length top → Sound t (get_or top c 0) (get_or bottom c 0) (gap t top bottom c) (move_at t top bottom c).action
  sound c p = (move_good c p (invariant c (omega arith))).0

  -- AND THE NETS THAT IT PAIRS ARE NUMBERED UP TO 256
  pair_small_of : (f : Family) → family top bottom ≡ f → (c : ℕ) → c < length top
      → let x = move_of t top bottom f c (gap t top bottom c) (state t top bottom c).mates in (x.double ≤ 256) × (x.single ≤ 256)
  unfolding move_of
  pair_small_of TwoPin e c p = (omega arith, omega arith)
  pair_small_of ThreePin e c p = three_pair_small t top bottom fit e (enough.three_pin e) c p
  pair_small_of ManyPin e c p = (omega arith, omega arith)

  pub pair_small : (c : ℕ) → c < length top → ((move_at t top bottom c).double ≤ 256) × ((move_at t top bottom c).single ≤ 256)
  unfolding move_at move
  pair_small c p =
      by (λ (x : Move). (x.double ≤ 256) × (x.single ≤ 256)) (empty_at top bottom c) (λ i. (omega arith, omega arith))
      (λ i. pair_small_of (family top bottom) refl c p)
