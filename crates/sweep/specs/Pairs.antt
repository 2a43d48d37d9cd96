-- Source document 000, part (b): pairs of a double and a single net, kept from gap to gap as each net's mate; and the net that ends last.
-- The mates are a list of 257 numbers: at v stands the mate of net v, or 0 where it has none. At 0 stands 0.
use Rattle.std.specs.Prelude.{ℕ, zero, suc, Bool, ◌&&◌, ◌||◌, List, eqb, ltb, get_or, set, replicate}
use Rattle.grid.specs.Channel.{pick}

-- the mate of net v
abbrev pub mate : ℕ → List ℕ → ℕ
mate v m = get_or m v 0

-- in gap 0 no net has a mate
unfoldable pub no_mates : List ℕ
no_mates = replicate 257 0

-- the pair of net v ends (0: none)
unfoldable pub unpair : ℕ → List ℕ → List ℕ
unpair v m = set (set m (mate v m) 0) v 0

-- the nets d and s become a pair (0 and 0: none)
unfoldable pub pair_up : (d s : ℕ) → List ℕ → List ℕ
pair_up d s m = set (set m s d) d s

-- of the nets 1 to k that pass a test the one that ends last, by the last columns e; of those that end together the lowest-numbered; 0 if there is none
unfoldable pub latest_to : (e : ℕ → ℕ) → (ℕ → Bool) → ℕ → ℕ
latest_to e p zero = 0
latest_to e p (suc k) =
    let v = latest_to e p k in
    pick (p (suc k) && (eqb v 0 || ltb (e v) (e (suc k)))) (suc k) v
