-- Labels that tell the pieces of a net. An edge's number is its entry position, and at first each edge is its own label. At each inner point of the grid
-- an edge is hooked to the first edge of its net among those that it meets there: all that have its label get the label of that one. When all columns are
-- passed a net has as many pieces as edges that are still their own label.
use Rattle.std.specs.Prelude.{ℕ, zero, suc, ◌+◌, ◌*◌, Bool, ◌&&◌, List, [], ◌∷◌, get_or, eqb}
use Rattle.grid.specs.Channel.{pick, bit}

-- an entry's net
abbrev pub net_of : (D : List ℕ) (p : ℕ) → ℕ
net_of D p = get_or D p 0

-- HOOKS
-- label b for a
unfoldable pub sub : ℕ → ℕ → ℕ → ℕ
sub a b l = pick (eqb l a) b l

-- the label of the first of cs in net N, else z
unfoldable pub choose : (net f : ℕ → ℕ) (N : ℕ) (cs : List ℕ) (z : ℕ) → ℕ
choose net f N [] z = z
choose net f N (q ∷ cs) z = pick (eqb N (net q)) (f q) (choose net f N cs z)

-- the label that edge e takes: that of the first of cs in its net, else its own
unfoldable pub target : (net f : ℕ → ℕ) (cs : List ℕ) (e : ℕ) → ℕ
target net f cs e = pick (eqb (net e) 0) (f e) (choose net f (net e) cs (f e))

-- the labels after e is hooked to cs
unfoldable pub hook : (net f : ℕ → ℕ) (cs : List ℕ) (e : ℕ) → ℕ → ℕ
hook net f cs e p = sub (f e) (target net f cs e) (f p)

-- THE POINTS OF A COLUMN, b its first entry, q the first horizontal entry of the column before
-- the labels after the left edge of inner point j is hooked to the lower one
unfoldable pub after_left : (net : ℕ → ℕ) (b q j : ℕ) (f : ℕ → ℕ) → ℕ → ℕ
after_left net b q j f = hook net f ((b + j) ∷ []) (q + j)

-- then the upper edge to the left and the lower one
unfoldable pub after_up : (net : ℕ → ℕ) (b q j : ℕ) (f : ℕ → ℕ) → ℕ → ℕ
after_up net b q j f = hook net (after_left net b q j f) ((q + j) ∷ (b + j) ∷ []) (b + j + 1)

-- then the right edge to the three
unfoldable pub after_right : (net : ℕ → ℕ) (t b q j : ℕ) (f : ℕ → ℕ) → ℕ → ℕ
after_right net t b q j f = hook net (after_up net b q j f) ((b + j + 1) ∷ (q + j) ∷ (b + j) ∷ []) (b + t + 1 + j)

-- after the first j inner points
unfoldable pub after_points : (net : ℕ → ℕ) (t b q j : ℕ) (f : ℕ → ℕ) → ℕ → ℕ
after_points net t b q zero f = f
after_points net t b q (suc j) f = after_right net t b q j (after_points net t b q j f)

-- ALL COLUMNS, of n entries
-- where the left edges of column x begin: the horizontal entries of the column before; past the end for the first column
unfoldable pub left_from : (n t x : ℕ) → ℕ
left_from n t zero = n
left_from n t (suc x) = x * (2 * t + 1) + t + 1

-- the labels after x columns
unfoldable pub labelled : (net : ℕ → ℕ) (n t x : ℕ) → ℕ → ℕ
labelled net n t zero = λ p. p
labelled net n t (suc x) = after_points net t (x * (2 * t + 1)) (left_from n t x) t (labelled net n t x)

-- ROOTS
-- how many numbers below n pass a test
unfoldable pub tally : (n : ℕ) → (ℕ → Bool) → ℕ
tally zero P = 0
tally (suc n) P = bit (P n) + tally n P

-- an edge of net N that is its own label
abbrev pub root : (net f : ℕ → ℕ) (N p : ℕ) → Bool
root net f N p = eqb (net p) N && eqb (f p) p

-- how many there are below n
unfoldable pub roots : (net f : ℕ → ℕ) (n N : ℕ) → ℕ
roots net f n N = tally n (root net f N)

-- what a change of label a to b takes from N's roots, a of an edge of net M
abbrev pub lost : (a b M N : ℕ) → ℕ
lost a b M N = pick (eqb a b) 0 (bit (eqb M N))
