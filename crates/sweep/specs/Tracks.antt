-- Document 01, "Words of the sweep": the tracks in a gap, the strands of a net, and what an action does to them and draws.
-- The tracks are a list of length t: track y stands at index y - 1, and holds the number of its net, or 0 for a free track.
use Rattle.std.specs.Prelude.{ℕ, zero, suc, min, Bool, List, [], ◌∷◌, map, eqb, set, length, drop}
use Rattle.grid.specs.Channel.{pick}
use Rattle.grid.specs.Segments.{segment}
use Rattle.sweep.specs.declared.Action.{Action}

-- "A net's strands are its tracks in the gap left of the column": those of net v, lowest first; of 0: the free tracks. The list begins at track y
unfoldable pub strands_from : ℕ → ℕ → List ℕ → List ℕ
strands_from y v [] = []
strands_from y v (x ∷ xs) = pick (eqb x v) (y ∷ strands_from (suc y) v xs) (strands_from (suc y) v xs)

unfoldable pub strands : ℕ → List ℕ → List ℕ
strands v tr = strands_from 1 v tr

-- the first and the last number of a list, 0 where there is none
unfoldable pub first : List ℕ → ℕ
first [] = 0
first (x ∷ xs) = x

unfoldable pub last : List ℕ → ℕ
last [] = 0
last (x ∷ []) = x
last (x ∷ y ∷ ys) = last (y ∷ ys)

-- ""Lowest" and "highest" mean track numbers": a net's lowest, second lowest and highest strand, 0 where there is none; of 0: free tracks
unfoldable pub lowest : ℕ → List ℕ → ℕ
lowest v tr = first (strands v tr)

unfoldable pub second : ℕ → List ℕ → ℕ
second v tr = first (drop 1 (strands v tr))

unfoldable pub highest : ℕ → List ℕ → ℕ
highest v tr = last (strands v tr)

-- how many strands
unfoldable pub many : ℕ → List ℕ → ℕ
many v tr = length (strands v tr)

-- the smaller of two net numbers, where 0 is none
unfoldable pub lesser : ℕ → ℕ → ℕ
lesser zero y = y
lesser (suc x) zero = suc x
lesser (suc x) (suc y) = min (suc x) (suc y)

-- the lowest net number on the tracks that passes a test, 0 if there is none
unfoldable pub lowest_net : (ℕ → Bool) → List ℕ → ℕ
lowest_net p [] = 0
lowest_net p (x ∷ xs) = lesser (pick (p x) x 0) (lowest_net p xs)

-- track y goes to net v; track 0 is none
unfoldable pub give : ℕ → ℕ → List ℕ → List ℕ
give zero v tr = tr
give (suc y) v tr = set tr y v

-- every strand of net v ends
unfoldable pub clear : ℕ → List ℕ → List ℕ
clear v tr = map (λ x. pick (eqb x v) 0 x) tr

-- the tracks after an action, in the gap right of the column. "Untouched strands run straight."
unfoldable pub after : Action → List ℕ → List ℕ
after x tr =
    give x.gift3.track x.gift3.net
    (give x.gift2.track x.gift2.net
    (give x.gift1.track x.gift1.net
    (clear x.closed
    (clear x.ended tr))))

-- f y, f (y + 1), ..: k of them
unfoldable pub values_from : ℕ → ℕ → (ℕ → ℕ) → List ℕ
values_from zero y f = []
values_from (suc k) y f = f y ∷ values_from k (suc y) f

-- the t + 1 vertical entries of a column
unfoldable pub verticals : ℕ → Action → List ℕ
verticals t x = values_from (suc t) 0 (segment x.wires)
