-- Document 02, Job 6, "One spelling of a channel": the order of the nets, their new numbers, the renamed rows; and what a renaming of nets is.
-- A channel is two lists of numbers, top and bottom; 0 is no pin.
use Rattle.std.specs.Prelude.{ℕ, zero, suc, ◌≤◌, ◌<◌, ◌≡◌, ◌≢◌, List, [], ◌∷◌, ◌++◌, map, eqb, length, get_or}
use Rattle.grid.specs.Channel.{pick, pins, left}

-- a rank with one number more in front; 0 is none
abbrev pub shifted : ℕ → ℕ
shifted zero = 0
shifted (suc k) = suc (suc k)

-- the rank of v in a list: its place, counted from 1; 0 where v does not stand there
unfoldable pub rank : ℕ → List ℕ → ℕ
rank v [] = 0
rank v (x ∷ xs) = pick (eqb x v) 1 (shifted (rank v xs))

-- a list of nets with v behind them, unless v is no net or one of them
unfoldable pub with_net : List ℕ → ℕ → List ℕ
with_net l v = pick (eqb v 0) l (pick (eqb (rank v l) 0) (l ++ (v ∷ [])) l)

module _ (top bottom : List ℕ) where
  -- "in the order of their first pin, column by column, top before bottom": the nets with a pin in the columns 1 to k
  unfoldable pub nets_to : ℕ → List ℕ
  nets_to zero = []
  nets_to (suc k) = with_net (with_net (nets_to k) (get_or top k 0)) (get_or bottom k 0)

  -- all nets in that order
  unfoldable pub net_list : List ℕ
  net_list = nets_to (length top)

  -- "its nets renumbered 1, 2, 3" in that order: the new number of a net. 0, which is no net, stays 0
  unfoldable pub new_number : ℕ → ℕ
  new_number v = rank v net_list

  -- the rows of the renamed channel
  abbrev pub new_top : List ℕ
  new_top = map new_number top

  abbrev pub new_bottom : List ℕ
  new_bottom = map new_number bottom

  -- "A net is all pins with one number": v is a net of the channel
  pub record IsNet (v : ℕ) : Type 0 where
    pub number : v ≢ 0
    pub pinned : 0 < pins top bottom v

-- "a one-to-one renaming of nets turns one into the other": f makes the channel top, bottom to top', bottom'. 0, no pin, stays; a net becomes a number
-- other than 0, and no two nets become one
pub record Renames (f : ℕ → ℕ) (top bottom top' bottom' : List ℕ) : Type 0 where
  pub none : f 0 ≡ 0
  pub net : (v : ℕ) → IsNet top bottom v → f v ≢ 0
  pub one : (u v : ℕ) → IsNet top bottom u → IsNet top bottom v → f u ≡ f v → u ≡ v
  pub tops : top' ≡ map f top
  pub bottoms : bottom' ≡ map f bottom

-- "in the order of their first pin, column by column, top before bottom", of two nets: u has a pin in the columns 1 to k, and v has none there; or u has the top
-- pin of column k + 1, and v is another net with none in the columns 1 to k
pub data Before (top bottom : List ℕ) (u v : ℕ) : Type 0 where
  by_column : (k : ℕ) → k ≤ length top → 0 < left top bottom k u → left top bottom k v ≡ 0 → Before top bottom u v
  by_row : (k : ℕ) → k < length top → get_or top k 0 ≡ u → u ≢ v → left top bottom k v ≡ 0 → Before top bottom u v

-- "renumbered 1, 2, 3 in the order of their first pin", said without a list: each net has one of the numbers 1 to m, each of these is some net's, and of two nets
-- the one before the other has the lower number
pub record InOrder (top bottom : List ℕ) (number : ℕ → ℕ) (m : ℕ) : Type 0 where
  pub within : (v : ℕ) → IsNet top bottom v → (1 ≤ number v) × (number v ≤ m)
  pub used : (j : ℕ) → 1 ≤ j → j ≤ m → (v : ℕ) × IsNet top bottom v × (number v ≡ j)
  pub lower : (u v : ℕ) → IsNet top bottom u → IsNet top bottom v → Before top bottom u v → number u < number v
