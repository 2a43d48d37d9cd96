-- In a channel of two-pin nets, what a column does depends on the columns to its left, its own pins and the tracks alone: no later column counts.
use Prim.Native.Nat.{ℕ, suc, ◌<◌}
use mathlib.Core.Path.{◌≡◌, refl, ap, ◌∙◌}
use mathlib.Core.Logic.{inl, inr, ◌≢◌}
use mathlib.Core.Bool.{Bool, true, false, not, ◌&&◌}
use mathlib.Core.List.{List}
use native.Mathlib.Omega.{arith}
use native.Mathlib.Decide.{ℕ_discrete}
use lib.Dec.{eqb, ltb}
use lib.ListN.{get_or}
use Rattle.grid.specs.declared.Family.TheVariants.{TwoPin}
use Rattle.grid.specs.Channel.{pick, times, left, right, family}
use Rattle.grid.proofs.Tests.{Same, diff, same_by, Below, below, above, below_by}
use Rattle.grid.proofs.Rows.{RowsFit, HasPin, two_fit, left-right, pin_step}
use Rattle.sweep.specs.declared.Move.{Move}
use Rattle.sweep.specs.declared.Pin.{Pin}
use Rattle.sweep.specs.Tracks.{lowest_net}
use Rattle.sweep.specs.Rules.{straight}
use Rattle.sweep.specs.TwoPin.{choose_two}
use Rattle.sweep.specs.ThreePin.{still}
use Rattle.sweep.specs.Drawing.{kind_by, pin_of, joint_with, free_of, later, pin_at, extended_at, extended_net, joint_of, joining}
use Rattle.sweep.specs.Drawing.{empty_at, empty_column, move_of, move}
use Rattle.sweep.proofs.Tracks.Nets.{net_by_test}
use Rattle.sweep.proofs.Gaps.Held.{Held}
use Rattle.sweep.proofs.Gaps.Pins.{later_by, false_of}
use Rattle.sweep.proofs.Rules.Empty.{later_off}

-- BY THE COLUMNS SO FAR: net v has `seen v` pins left of the gap whose tracks are tr
module _ (seen : ℕ → ℕ) (tr : List ℕ) where
  -- a pin of net v: it ends its net if one was seen, and else starts it
  unfoldable pub pin_so_far : ℕ → Pin
  pin_so_far v = pin_of v (kind_by (ltb 0 (seen v)) false) tr

  -- the lowest-numbered extended net: both its pins were seen, and it has strands
  unfoldable pub extended_so_far : ℕ
  extended_so_far = lowest_net (λ v. not (eqb v 0) && ltb 1 (seen v)) tr

  -- what a column with the top pin a and the bottom pin b does on t tracks
  unfoldable pub move_so_far : (t a b : ℕ) → Move
  move_so_far t a b =
      pick (eqb a 0 && eqb b 0) (still (pick (eqb extended_so_far 0) straight (joining tr extended_so_far)))
      (still (choose_two t (pin_so_far a) (pin_so_far b) (free_of tr) (joint_with extended_so_far false tr)))

module _ (top bottom : List ℕ) (fit : RowsFit top bottom) (two : family top bottom ≡ TwoPin) (c : ℕ) where
  -- a pin of a net that has one before is its last
  kind_so_far : (v : ℕ) → HasPin top bottom v c
      → kind_by (ltb 0 (left top bottom c v)) (later top bottom (suc c) v) ≡ kind_by (ltb 0 (left top bottom c v)) false
  unfolding later
  kind_so_far v here = go (ltb 0 (left top bottom c v)) (below_by 0 (left top bottom c v)) (ℕ_discrete v 0)
    where
      go : (q : Bool) → Below 0 (left top bottom c v) q → Dec (v ≡ 0) → kind_by q (later top bottom (suc c) v) ≡ kind_by q false
      go false b d = refl
      go true b (yes z) = rw z refl
      go true (below p) (no n) =
          ap (kind_by true) (false_of (later_by top bottom (suc c) v n)
          (omega (arith, two_fit top bottom fit two v (omega arith), left-right top bottom v c, pin_step top bottom v c n here)))

  -- so the column's pins go by the columns so far
  pub pin_so_far_lem : (tr : List ℕ) (v : ℕ) → HasPin top bottom v c → pin_at top bottom c tr v ≡ pin_so_far (left top bottom c) tr v
  unfolding pin_at pin_so_far
  pin_so_far_lem tr v here = ap (λ (k : ℕ). pin_of v k tr) (kind_so_far v here)

  module _ {t : ℕ} (tr : List ℕ) (h : Held t top bottom c tr) where
    -- a net on a track has no pin to come just if it has both before
    extended_by-left : (v : ℕ) → 0 < times v tr → extended_at top bottom c v ≡ (not (eqb v 0) && ltb 1 (left top bottom c v))
    unfolding extended_at
    extended_by-left v p = go (eqb v 0) (same_by v 0)
      where
        both : v ≢ 0 → (q r : Bool) → Below 0 (right top bottom c v) q → Below 1 (left top bottom c v) r → not q ≡ r
        both n true true (below a) (below b) = absurd (omega (arith, two_fit top bottom fit two v (omega arith), left-right top bottom v c))
        both n true false a b = refl
        both n false true a b = refl
        both n false false (above a) (above b) = absurd (omega (arith, h.few v n, fit.lone v (omega arith), left-right top bottom v c))

        go : (z : Bool) → Same v 0 z → (not z && not (later top bottom c v)) ≡ (not z && ltb 1 (left top bottom c v))
        go true s = refl
        go false (diff n) = both n (later top bottom c v) (ltb 1 (left top bottom c v)) (later_by top bottom c v n) (below_by 1 (left top bottom c v))

    -- so does the extended net
    pub extended_so_far_lem : extended_net top bottom c tr ≡ extended_so_far (left top bottom c) tr
    unfolding extended_net extended_so_far
    extended_so_far_lem = net_by_test (extended_at top bottom c) (λ v. not (eqb v 0) && ltb 1 (left top bottom c v)) tr extended_by-left

    -- which has no pin after the column either
    joint_so_far : joint_of top bottom c tr (extended_net top bottom c tr) ≡ joint_with (extended_so_far (left top bottom c) tr) false tr
    unfolding joint_of later
    joint_so_far = go (ℕ_discrete (extended_net top bottom c tr) 0) ∙ ap (λ (v : ℕ). joint_with v false tr) extended_so_far_lem
      where
        go : Dec (extended_net top bottom c tr ≡ 0) → joint_of top bottom c tr (extended_net top bottom c tr) ≡ joint_with (extended_net top bottom c tr) false tr
        go (yes z) = rw z refl
        go (no n) = ap (λ (l : Bool). joint_with (extended_net top bottom c tr) l tr) (later_off top bottom c tr n)

    -- AND WHAT THE COLUMN DOES
    pub move_so_far_lem : (m : List ℕ) → move t top bottom c tr m ≡ move_so_far (left top bottom c) tr t (get_or top c 0) (get_or bottom c 0)
    unfolding move move_of empty_at empty_column move_so_far
    move_so_far_lem m = rw (two, pin_so_far_lem tr (get_or top c 0) (inl refl), pin_so_far_lem tr (get_or bottom c 0) (inr refl), joint_so_far, extended_so_far_lem)
