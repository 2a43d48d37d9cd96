-- The invariant of the tracks and the mates in a gap of a three-pin channel; the pair that a column forms; the pins of a column.
use Prim.Native.Nat.{ℕ, suc, ◌+◌, ◌≤◌, ◌<◌}
use mathlib.Core.Path.{◌≡◌, refl}
use mathlib.Core.Logic.{◌⊎◌, inl, inr, ◌≢◌, ⊎_elim}
use mathlib.Core.List.{List}
use native.Mathlib.Omega.{arith}
use native.Mathlib.Decide.{ℕ_discrete, dec_lt}
use lib.ListN.{length, get_or}
use Rattle.grid.specs.declared.Family.TheVariants.{ThreePin}
use Rattle.grid.specs.Channel.{times, sum, left, right, density, family}
use Rattle.grid.specs.Nets.{last_column}
use Rattle.grid.proofs.Tests.{eq_bit, eqb_diff}
use Rattle.grid.proofs.Rows.{RowsFit, three_fit, HasPin, left_suc, right_suc, left-right, pin_step}
use Rattle.sweep.specs.declared.Action.{Action}
use Rattle.sweep.specs.declared.Move.{Move}
use Rattle.sweep.specs.Tracks.{after}
use Rattle.sweep.specs.Pairs.{mate}
use Rattle.sweep.specs.ThreePin.{still}
use Rattle.sweep.proofs.Gaps.Held.{Held}
use Rattle.sweep.proofs.Gaps.Keeps.{few_more}
use Rattle.sweep.proofs.Actions.Good.{Good}
use Rattle.sweep.proofs.ThreePin.Pairs.{Mutual}
use Rattle.sweep.proofs.ThreePin.Weights.{weight}

-- THE INVARIANT of the tracks and the mates in gap c
pub record Kept (t : ℕ) (top bottom : List ℕ) (c : ℕ) (tr m : List ℕ) : Type 0 where
  pub held : Held t top bottom c tr
  pub size : length m ≡ 257
  pub none : mate 0 m ≡ 0
  pub mates : Mutual m
  -- the nets of a pair are open with two pins left
  pub live : (v : ℕ) → v ≢ 0 → mate v m ≢ 0 → (0 < right top bottom c v) × (2 ≤ left top bottom c v)
  -- one of them is single, and the other ends no later
  pub few : (v : ℕ) → v ≢ 0 → mate v m ≢ 0 → times v tr + times (mate v m) tr ≤ 3
  pub order : (v : ℕ) → v ≢ 0 → mate v m ≢ 0 → 2 ≤ times v tr → last_column top bottom v ≤ last_column top bottom (mate v m)
  -- the open nets, twice the extended ones and the unpaired double ones are the density at most
  pub bound : sum (weight top bottom c tr m) 256 ≤ density top bottom

-- a pair that column c + 1 forms: D is the double net, S the single one, tr' the tracks after the column
pub record Fresh (top bottom : List ℕ) (c : ℕ) (m tr' : List ℕ) (D S : ℕ) : Type 0 where
  pub some : S ≢ 0
  pub differ : D ≢ S
  pub free_d : mate D m ≡ 0
  pub free_s : mate S m ≡ 0
  pub on_d : 0 < right top bottom (suc c) D
  pub on_s : 0 < right top bottom (suc c) S
  pub pins_d : 2 ≤ left top bottom (suc c) D
  pub pins_s : 2 ≤ left top bottom (suc c) S
  pub thin : times S tr' ≤ 1
  pub ordered : last_column top bottom D ≤ last_column top bottom S

-- the pair that a move forms, if it forms one
pub record Forms (top bottom : List ℕ) (c : ℕ) (tr m : List ℕ) (x : Move) : Type 0 where
  pub none : x.double ≡ 0 → x.single ≡ 0
  pub pair : x.double ≢ 0 → Fresh top bottom c m (after x.action tr) x.double x.single

-- a move that forms none
pub still-forms : (top bottom : List ℕ) (c : ℕ) (tr m : List ℕ) (x : Action) → Forms top bottom c tr m (still x)
still-forms top bottom c tr m x = record { none = λ e. refl; pair = λ n. absurd (n refl) }

-- THE PINS OF COLUMN c + 1
module _ (top bottom : List ℕ) (c v : ℕ) where
  -- a net has one of them, or none
  pub pin_or : HasPin top bottom v c ⊎ ((get_or top c 0 ≢ v) × (get_or bottom c 0 ≢ v))
  pin_or =
      ⊎_elim (λ d. inl (inl d.0)) (λ d. ⊎_elim (λ e. inl (inr e.0)) (λ e. inr (d.0, e.0)) (eq_bit (get_or bottom c 0) v)) (eq_bit (get_or top c 0) v)

  module _ (n : v ≢ 0) where
    -- a net without a pin here has as many left, and right, of the next gap
    pub same_left : get_or top c 0 ≢ v → get_or bottom c 0 ≢ v → left top bottom (suc c) v ≡ left top bottom c v
    same_left p q = omega (arith, left_suc top bottom v c n, eqb_diff (get_or top c 0) v p, eqb_diff (get_or bottom c 0) v q)

    pub same_right : get_or top c 0 ≢ v → get_or bottom c 0 ≢ v → right top bottom (suc c) v ≡ right top bottom c v
    same_right p q = omega (arith, right_suc top bottom v c n, eqb_diff (get_or top c 0) v p, eqb_diff (get_or bottom c 0) v q)

    -- a pin here stands left of the next gap
    pub pin_counts : HasPin top bottom v c → left top bottom c v < left top bottom (suc c) v
    pin_counts here = omega (arith, pin_step top bottom v c n here, left-right top bottom v c, left-right top bottom v (suc c))

-- a net with a pin is one of 1 to 256
pub small : (top bottom : List ℕ) → RowsFit top bottom → (v i : ℕ) → 0 < left top bottom i v → v ≤ 256
small top bottom fit v i p = go (dec_lt 256 v)
  where
    go : Dec (256 < v) → v ≤ 256
    go (yes h) = absurd (omega (arith, fit.small v h, left-right top bottom v i))
    go (no h) = omega arith

-- a good action gives a net without a pin here no strand
pub no_more_away : {t : ℕ} (top bottom : List ℕ) (c : ℕ) (tr : List ℕ) → Held t top bottom c tr → (x : Action)
    → Good top bottom c t tr (get_or top c 0) (get_or bottom c 0) x → (v : ℕ) → v ≢ 0 → get_or top c 0 ≢ v → get_or bottom c 0 ≢ v
    → times v (after x tr) ≤ times v tr
no_more_away top bottom c tr h x g v n p q =
    omega (arith, few_more top bottom c tr h x g.0 g.1 v n, eqb_diff (get_or top c 0) v p, eqb_diff (get_or bottom c 0) v q)

-- THE STRANDS of a net in a gap of a three-pin channel
module _ {t : ℕ} (top bottom : List ℕ) (fit : RowsFit top bottom) (three : family top bottom ≡ ThreePin) (c : ℕ) (tr : List ℕ) (h : Held t top bottom c tr)
    (v : ℕ) (n : v ≢ 0) where
  -- an open net has two at most
  pub cap : 0 < right top bottom c v → times v tr ≤ 2
  cap r = omega (arith, h.few v n, left-right top bottom v c, three_fit top bottom fit three v (omega arith))

  -- a net whose pin here is not its last has one at most
  pub thin_pin : HasPin top bottom v c → 0 < right top bottom (suc c) v → times v tr ≤ 1
  thin_pin here r =
      omega (arith, h.few v n, pin_step top bottom v c n here, left-right top bottom v c, three_fit top bottom fit three v (omega arith))

-- and is unpaired
pub free_pin : {t : ℕ} (top bottom : List ℕ) → RowsFit top bottom → family top bottom ≡ ThreePin → (c : ℕ) (tr m : List ℕ) → Kept t top bottom c tr m
    → (v : ℕ) → v ≢ 0 → HasPin top bottom v c → 0 < right top bottom (suc c) v → mate v m ≡ 0
free_pin top bottom fit three c tr m k v n here r = go (ℕ_discrete (mate v m) 0)
  where
    go : Dec (mate v m ≡ 0) → mate v m ≡ 0
    go (yes e) = e
    go (no e) =
        absurd (omega (arith, k.live v n e, pin_step top bottom v c n here, left-right top bottom v c, three_fit top bottom fit three v (omega arith)))
