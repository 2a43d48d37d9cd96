-- Document 01, "Channel and grid": rows, pins, density, families of channels, tracks; and the refusals of the rows, 4 to 7.
-- A channel is two lists of numbers, top and bottom; 0 is no pin. The document counts columns from 1: `take c` are the columns 1 to c, `drop c` those
-- after c, and gap c lies between them.
use Rattle.std.specs.Prelude.{ℕ, zero, suc, ◌+◌, ◌*◌, ◌-◌, ◌/◌, max, Bool, true, false, not, ◌&&◌, ◌||◌, List, [], ◌∷◌, eqb, ltb, length, take, drop, get_or}
use Rattle.grid.specs.declared.Family.{Family}
use Rattle.grid.specs.declared.Family.TheVariants.{TwoPin, ThreePin, ManyPin}

-- the one of two that a test chooses
abbrev pub pick {ℓ} : {A : Type ℓ} → Bool → A → A → A
pick true a b = a
pick false a b = b

-- a test as a number
abbrev pub bit : Bool → ℕ
bit true = 1
bit false = 0

-- how often v stands in a list
unfoldable pub times : ℕ → List ℕ → ℕ
times v [] = 0
times v (x ∷ xs) = bit (eqb x v) + times v xs

-- the sum of f over the numbers 1 to k
unfoldable pub sum : (ℕ → ℕ) → ℕ → ℕ
sum f zero = 0
sum f (suc k) = sum f k + f (suc k)

-- how many of the numbers 1 to k pass a test
unfoldable pub count : (ℕ → Bool) → ℕ → ℕ
count p k = sum (λ v. bit (p v)) k

-- some number of a row is over 256
unfoldable pub over : List ℕ → Bool
over [] = false
over (x ∷ xs) = ltb 256 x || over xs

-- "its tracks are d where each net has two pins, else 2d - 1"; document 02, Job 3, puts between them "3d/2 tracks rounded down": those of a channel of
-- density d, by its family
abbrev pub tracks_of : Family → (d : ℕ) → ℕ
tracks_of TwoPin d = d
tracks_of ThreePin d = 3 * d / 2
tracks_of ManyPin d = 2 * d - 1

module _ (top bottom : List ℕ) where
  -- "A net is all pins with one number": how many net v has
  unfoldable pub pins : ℕ → ℕ
  pins v = times v top + times v bottom

  -- how many of them lie in the columns 1 to c
  unfoldable pub left : ℕ → ℕ → ℕ
  left c v = times v (take c top) + times v (take c bottom)

  -- and after column c
  unfoldable pub right : ℕ → ℕ → ℕ
  right c v = times v (drop c top) + times v (drop c bottom)

  -- net v has "a pin in columns 1 to c and a pin after c": it is open at gap c
  unfoldable pub is_open : ℕ → ℕ → Bool
  is_open c v = ltb 0 (left c v) && ltb 0 (right c v)

  -- the count of such nets
  unfoldable pub open_at : ℕ → ℕ
  open_at c = count (is_open c) 256

  -- the largest count over the gaps 1 to k
  unfoldable pub largest : ℕ → ℕ
  largest zero = 0
  largest (suc k) = max (largest k) (open_at (suc k))

  -- "The density d is the largest count, over gaps c from 1 to n - 1 … With fewer than two columns it is 0."
  unfoldable pub density : ℕ
  density = largest (length top - 1)

  -- no net has more than k pins; refusal 7 leaves none with fewer than two
  unfoldable pub pins_within : ℕ → Bool
  pins_within k = eqb (count (λ v. ltb k (pins v)) 256) 0

  -- a net of three pins has "its first two pins in one column", column c + 1
  unfoldable pub first_two_at : ℕ → Bool
  first_two_at c =
      let v = get_or top c 0 in
      not (eqb v 0) && (eqb v (get_or bottom c 0) && (eqb (pins v) 3 && eqb (left c v) 0))

  -- in one of the columns 1 to c
  unfoldable pub first_two_to : ℕ → Bool
  first_two_to zero = false
  first_two_to (suc c) = first_two_to c || first_two_at c

  -- "Channels of two-pin nets": "each net has two pins"; document 02, Job 3: "channels whose largest net has three pins, none of these nets having its first
  -- two pins in one column"; and "the other channels with a net of three or more pins"
  unfoldable pub family : Family
  family = pick (pins_within 2) TwoPin (pick (pins_within 3 && not (first_two_to (length top))) ThreePin ManyPin)

  -- the tracks of the channel, by its family and its density
  unfoldable pub tracks : ℕ
  tracks = tracks_of family density

  -- The number of the rows' refusal, 0 for none, "Checked from the top down": 4 "lengths differ", 5 "over 256 columns; in `knee` over 64" (the limit is
  -- `most`), 6 "a number over 256", 7 "a net with one pin"
  unfoldable pub rows_refused : (most : ℕ) → ℕ
  rows_refused most =
      pick (not (eqb (length top) (length bottom))) 4
      (pick (ltb most (length top)) 5
      (pick (over top || over bottom) 6
      (pick (not (eqb (count (λ v. eqb (pins v) 1) 256) 0)) 7
      0)))
