-- The arrays and sets that the router works in, and what they hold: what its private functions promise each other. No promise of a public call rests on
-- these, but that `State` is said in their words.
use Rattle.std.specs.Prelude.{ℕ, ◌+◌, ◌*◌, ◌%◌, ◌≤◌, ◌<◌, ◌≡◌, List, ◌++◌, ◌≢◌, ◌⊎◌, Bool, true, false, not, ◌&&◌, ◌||◌, eqb, ltb, leb, take, drop, get_or, length, replicate}
use Rattle.grid.specs.Channel.{pick, left, family}
use Rattle.grid.specs.Working.{ByNet}
use Rattle.grid.specs.declared.Family.{Family}
use Rattle.grid.specs.declared.Segments.{Segments}
use Rattle.grid.specs.declared.Family.TheVariants.{TwoPin, ThreePin, ManyPin}
use Rattle.sets.specs.Member.{member, LowestFrom}
use Rattle.sweep.specs.declared.Action.{Action}
use Rattle.sweep.specs.declared.Pin.{Pin}
use Rattle.sweep.specs.declared.Free.{Free}
use Rattle.sweep.specs.declared.Joint.{Joint}
use Rattle.sweep.specs.declared.Double.{Double}
use Rattle.sweep.specs.Tracks.{lowest, second, highest, many, clear, verticals}
use Rattle.sweep.specs.declared.Move.{Move}
use Rattle.sweep.specs.Pairs.{latest_to}
use Rattle.sweep.specs.TwoPin.{choose_two}
use Rattle.sweep.specs.ThreePin.{still, choose_three}
use Rattle.sweep.specs.ManyPin.{choose_many}
use Rattle.sweep.specs.Drawing.{kind_by, no_pin, no_joint, free_of, later, end_of, mates_after, state, gap, move_at, drawn, joining, remains}
use Rattle.pairs.specs.Working.{LoneAt, LeastAbove, but_for, double_by}
use Rattle.sweep.specs.Working.{Applies, Plain, no_pins, join_alone}

-- the tracks 1 to t of an array that holds track y at index y
abbrev pub tracks_in : ℕ → List ℕ → List ℕ
tracks_in t a = take t (drop 1 a)

-- what the end of net v leaves of a track that holds x
abbrev pub cleared : ℕ → ℕ → ℕ
cleared v x = pick (eqb x v) 0 x

-- s is d with the strands of net v ended at the indices from a and below y
pub record ClearedFrom (v a y : ℕ) (d s : List ℕ) : Type 0 where
  pub sized : length s ≡ length d
  pub inside : (i : ℕ) → a ≤ i → i < y → get_or s i 0 ≡ cleared v (get_or d i 0)
  pub outside : (i : ℕ) → (i < a) ⊎ (y ≤ i) → get_or s i 0 ≡ get_or d i 0

-- no strand of net v lies between the tracks a and b
abbrev pub NoneBetween : (v a b : ℕ) (d : List ℕ) → Type 0
NoneBetween v a b d = (i : ℕ) → a < i → i < b → get_or d i 0 ≡ v → ⊥

-- s is the set of the free tracks among the tracks 1 to t of an array
pub record Frees (t : ℕ) (a s : List ℕ) : Type 0 where
  pub none : member s 0 ≡ false
  pub each : (y : ℕ) → 0 < y → y ≤ t → member s y ≡ eqb (get_or a y 0) 0
  pub past : (y : ℕ) → t < y → member s y ≡ false

-- the tracks a to b are among the t tracks of an array, and f is the set of its free ones
pub record Among (t a b : ℕ) (d f : List ℕ) : Type 0 where
  pub low : 0 < a
  pub order : a ≤ b
  pub high : b ≤ t
  pub fits : t ≤ 511
  pub sized : length d ≡ 512
  pub frees : Frees t d f

-- s is d with the strands of net v on the tracks a to b ended, and f is the set of its free tracks
pub record Ended (t v a b : ℕ) (d s f : List ℕ) : Type 0 where
  pub cleared : ClearedFrom v a (b + 1) d s
  pub frees : Frees t s f

-- r is what F does with the two lowest free tracks, where s is the set of the free ones
abbrev pub WithFree : (s : List ℕ) (F : Free → Action) (r : Action) → Type 0
WithFree s F r = (t : ℕ) (a : List ℕ) → t ≤ 511 → length a ≡ 512 → Frees t a s → r ≡ F (free_of (tracks_in t a))

-- the arrays hold the t tracks tr, and each net's lowest and highest strand and how many it has; f is the set of the free tracks
pub record Holds (t : ℕ) (tr a f low high number : List ℕ) : Type 0 where
  pub fits : t ≤ 511
  pub sized : length a ≡ 512
  pub nets : (j : ℕ) → get_or a j 0 ≤ 256
  pub is : tracks_in t a ≡ tr
  pub frees : Frees t a f
  pub lows : ByNet (λ v. lowest v tr) low
  pub highs : ByNet (λ v. highest v tr) high
  pub numbers : ByNet (λ v. many v tr) number

-- first and last hold each net's first and last column, counted from 1; 0 for a net with no pins
pub record Spans (top bottom first last : List ℕ) : Type 0 where
  pub before : (c v : ℕ) → 0 < v → v ≤ 256 → ltb 0 (left top bottom c v) ≡ (not (eqb (get_or first v 0) 0) && leb (get_or first v 0) c)
  pub after : (c v : ℕ) → v ≤ 256 → later top bottom c v ≡ ltb c (get_or last v 0)
  pub ends : (v : ℕ) → v ≤ 256 → get_or last v 0 ≡ end_of top bottom v

-- two rows of as many columns, with numbers up to 256; last holds each net's last column
pub record RowsAndLasts (top bottom last : List ℕ) : Type 0 where
  pub rows : length bottom ≡ length top
  pub most : length top ≤ 256
  pub tops : (j : ℕ) → get_or top j 0 ≤ 256
  pub bottoms : (j : ℕ) → get_or bottom j 0 ≤ 256
  pub lasts : (c v : ℕ) → v ≤ 256 → later top bottom c v ≡ ltb c (get_or last v 0)

-- the pin of net v in column c + 1, by the net's first and last column and its strands
unfoldable pub pin_by : (first last low high number c v : ℕ) → Pin
pin_by first last low high number c v =
    pick (eqb v 0) no_pin
    (record { net = v; kind = kind_by (not (eqb first 0) && leb first c) (ltb (c + 1) last); low = low; high = high; many = number })

-- net v as the net of rule 2 in column c + 1 (0: none), by its last column and its strands; the second lowest only where it leaves on that one
unfoldable pub joint_by : (last low second high c v : ℕ) → Joint
joint_by last low second high c v =
    pick (eqb v 0) no_joint
    (record { net = v; low = low; second = pick (ltb (c + 1) last) second 0; high = high; later = ltb (c + 1) last })

-- whether net v is extended at gap c, and whether it is open there with three or more strands
unfoldable pub extended_by : (last number : List ℕ) (c v : ℕ) → Bool
extended_by last number c v = not (eqb v 0) && (not (ltb c (get_or last v 0)) && ltb 0 (get_or number v 0))

unfoldable pub wide_by : (last number : List ℕ) (c v : ℕ) → Bool
wide_by last number c v = not (eqb v 0) && (ltb c (get_or last v 0) && ltb 2 (get_or number v 0))

-- open nets have two strands at most in the sweep of a family, so that none is wide
abbrev pub narrow : Family → Bool
narrow TwoPin = true
narrow ThreePin = true
narrow ManyPin = false

-- pairs of nets are formed in the sweep of a family
abbrev pub forms : Family → Bool
forms TwoPin = false
forms ThreePin = true
forms ManyPin = false

-- net v is marked as it is at gap c: it is in the set s of extended nets where it is extended, and in w where it is wide; w is kept only where open
-- nets may have three strands
pub record MarkedAt (last number : List ℕ) (c : ℕ) (s w : List ℕ) (fam : Family) (v : ℕ) : Type 0 where
  pub extended : member s v ≡ extended_by last number c v
  pub wide : narrow fam ≡ false → member w v ≡ wide_by last number c v

-- all nets are
abbrev pub Marked : (last number : List ℕ) (c : ℕ) (s w : List ℕ) (fam : Family) → Type 0
Marked last number c s w fam = (v : ℕ) → MarkedAt last number c s w fam v

-- s' and w' mark net v, and the nets that s and w mark
abbrev pub MarksNet : (last number : List ℕ) (c : ℕ) (fam : Family) (v : ℕ) (s w s' w' : List ℕ) → Type 0
MarksNet last number c fam v s w s' w' = (j : ℕ) → (j ≡ v) ⊎ MarkedAt last number c s w fam j → MarkedAt last number c s' w' fam j

-- and three nets
abbrev pub MarksThree : (last number : List ℕ) (c : ℕ) (fam : Family) (x y z : ℕ) (s w s' w' : List ℕ) → Type 0
MarksThree last number c fam x y z s w s' w' =
    (j : ℕ) → (j ≡ x) ⊎ ((j ≡ y) ⊎ ((j ≡ z) ⊎ MarkedAt last number c s w fam j)) → MarkedAt last number c s' w' fam j

-- r is the lowest member of s from a up, 0 where there is none
pub record Next (s : List ℕ) (a r : ℕ) : Type 0 where
  pub place : ℕ
  pub least : LowestFrom s a place
  pub is : r ≡ place % 512

-- v is the lowest member of s, or where there is none the lowest of w, 0 where there is none
abbrev pub ToJoin : (s w : List ℕ) (v : ℕ) → Type 0
ToJoin s w v = (Next s 0 v × (v ≡ 0 → ⊥)) ⊎ (Next s 0 0 × Next w 0 v)

-- N is the lowest member of s as the net of rule 2 in column c + 1, by the nets' last columns and their strands on the tracks tr
abbrev pub LowestJoint : (last low high s tr : List ℕ) (c : ℕ) (N : Joint) → Type 0
LowestJoint last low high s tr c N = (v : ℕ) → Next s 0 v → joint_by (get_or last v 0) (get_or low v 0) (second v tr) (get_or high v 0) c v ≡ N

-- r is that net
abbrev pub IsLowestJoint : (last low high s tr : List ℕ) (c : ℕ) (r : Joint) → Type 0
IsLowestJoint last low high s tr c r = (N : Joint) → LowestJoint last low high s tr c N → r ≡ N

-- x is what a column with the pins A and B of a two-pin channel does, with that net
abbrev pub ChosenTwo : (t : ℕ) (A B : Pin) (last low high s tr : List ℕ) (c : ℕ) (x : Action) → Type 0
ChosenTwo t A B last low high s tr c x = (N : Joint) → LowestJoint last low high s tr c N → x ≡ pick (no_pins A B) (join_alone N) (choose_two t A B (free_of tr) N)

-- D is the one of the set l that ends last, as a double net, and M the lowest other one
abbrev pub LatestIn : (last low high l : List ℕ) (D : Double) → Type 0
LatestIn last low high l D = double_by last low high (latest_to (λ v. get_or last v 0) (member l) 511) ≡ D

abbrev pub OtherIn : (last low high l : List ℕ) (M : Double) → Type 0
OtherIn last low high l M = (v : ℕ) → LeastAbove (but_for l (latest_to (λ v. get_or last v 0) (member l) 511)) 0 v → double_by last low high v ≡ M

-- x is what a column with the pins A and B of a three-pin channel does, with the net of rule 2 and these
abbrev pub ChosenThree : (t : ℕ) (A B : Pin) (last low high s l tr : List ℕ) (c : ℕ) (x : Move) → Type 0
ChosenThree t A B last low high s l tr c x =
    (N : Joint) (D M : Double) → LowestJoint last low high s tr c N → LatestIn last low high l D → OtherIn last low high l M
    → x ≡ pick (no_pins A B) (still (join_alone N)) (choose_three t A B (get_or last A.net 0) (get_or last B.net 0) (free_of tr) N D M)

-- x is what a column with the pins A and B of a many-pin channel does, with the net of rule 2, the lowest of s or else of w
abbrev pub ChosenMany : (t : ℕ) (A B : Pin) (b : Bool) (last low high s w tr : List ℕ) (c : ℕ) (x : Action) → Type 0
ChosenMany t A B b last low high s w tr c x =
    (N : Joint) → ((v : ℕ) → ToJoin s w v → joint_by (get_or last v 0) (get_or low v 0) (second v tr) (get_or high v 0) c v ≡ N)
    → x ≡ pick (no_pins A B) (join_alone N) (choose_many t A B (free_of tr) N b)

-- what the sweep of a channel of a family goes by
pub record Ready (top bottom first last : List ℕ) (t : ℕ) (fam : Family) : Type 0 where
  pub is : family top bottom ≡ fam
  pub fits : t ≤ 511
  pub rows : length bottom ≡ length top
  pub most : length top ≤ 256
  pub tops : (j : ℕ) → get_or top j 0 ≤ 256
  pub bottoms : (j : ℕ) → get_or bottom j 0 ≤ 256
  pub spans : Spans top bottom first last

-- a column is flat: its bottom net, if it has one, reaches up to row start, and its middle net, if it has one, up to row high
abbrev pub is_flat : Segments → Bool
is_flat w = (eqb w.bottom 0 || leb w.start w.low) && (eqb w.middle 0 || leb w.high w.stop)

-- the vertical edges of a flat column are three runs: net q below row a, m from there to row b, p above
abbrev pub runs : (q a m b p k : ℕ) → ℕ
runs q a m b p k = pick (ltb k a) q (pick (ltb k b) m p)

-- and two where the middle one is empty
abbrev pub two_runs : (q a p k : ℕ) → ℕ
two_runs q a p k = pick (ltb k a) q p

-- the move x of column c + 1 gives free tracks, names the column's nets alone, and pairs nets numbered up to 256
pub record Fitting (top bottom : List ℕ) (c : ℕ) (x : Move) (tr : List ℕ) : Type 0 where
  pub applies : Applies x.action tr
  pub plain : Plain (get_or top c 0) (get_or bottom c 0) x.action
  pub double : x.double ≤ 256
  pub single : x.single ≤ 256

-- the sweep's move of column c + 1 does
abbrev pub FitsAt : ℕ → List ℕ → List ℕ → ℕ → Type 0
FitsAt t top bottom c = Fitting top bottom c (move_at t top bottom c) (gap t top bottom c)

-- and so do those of the columns a + 1 to b
abbrev pub FitsFrom : ℕ → List ℕ → List ℕ → (a b : ℕ) → Type 0
FitsFrom t top bottom a b = (c : ℕ) → a ≤ c → c < b → FitsAt t top bottom c

-- a row reads as another, at each place: past the end of a row stands 0
abbrev pub Reads : (row l : List ℕ) → Type 0
Reads row l = (c : ℕ) → get_or row c 0 ≡ get_or l c 0

-- and so in each column
abbrev pub EachFits : ℕ → List ℕ → List ℕ → Type 0
EachFits t top bottom = (c : ℕ) → c < length top → FitsAt t top bottom c

-- the arrays hold the t tracks tr, and the sets mark the nets as they are with these tracks in gap c
pub record Keeps (last : List ℕ) (t : ℕ) (fam : Family) (c : ℕ) (tr a f low high number s w : List ℕ) : Type 0 where
  pub holds : Holds t tr a f low high number
  pub marked : Marked last number c s w fam

-- in the sweep of a family that forms pairs, the mates are m, numbered up to 256, and l is the set of the unpaired double nets
pub record Mated (fam : Family) (m number mates l : List ℕ) : Type 0 where
  pub is : forms fam ≡ true → mates ≡ m
  pub small : forms fam ≡ true → (j : ℕ) → get_or mates j 0 ≤ 256
  pub lone : forms fam ≡ true → (v : ℕ) → LoneAt number mates l v

-- the mates are numbered up to 256, and l tells of all nets but a, p and q whether they are unpaired double nets
pub record OthersTold (number mates l : List ℕ) (a p q : ℕ) : Type 0 where
  pub small : (j : ℕ) → get_or mates j 0 ≤ 256
  pub none : member l 0 ≡ false
  pub others : (j : ℕ) → j ≢ a → j ≢ p → j ≢ q → LoneAt number mates l j

-- the mates after column c + 1 and its move x, where they were m, and the set of the unpaired double nets
pub record PairsSettled (top bottom : List ℕ) (c : ℕ) (x : Move) (number m mates l : List ℕ) : Type 0 where
  pub is : mates ≡ mates_after top bottom c x m
  pub small : (j : ℕ) → get_or mates j 0 ≤ 256
  pub lone : (v : ℕ) → LoneAt number mates l v

-- the arrays and sets hold gap c of the sweep
pub record AtGap (top bottom last : List ℕ) (t : ℕ) (fam : Family) (c : ℕ) (a f low high number s w mates l : List ℕ) : Type 0 where
  pub keeps : Keeps last t fam c (gap t top bottom c) a f low high number s w
  pub mated : Mated fam (state t top bottom c).mates number mates l

-- the layout l, which was l₀, begins with the columns 1 to c of the sweep, each 2t + 1 entries; in a dry run, where b is false, it is as it was
pub record DrawnTo (b : Bool) (top bottom : List ℕ) (t c : ℕ) (l₀ l : List ℕ) : Type 0 where
  pub shows : l ≡ pick b (drawn t top bottom c ++ drop (c * (2 * t + 1)) l₀) l₀
  pub sized : length (drawn t top bottom c) ≡ c * (2 * t + 1)

-- arrays with nothing in them
unfoldable pub blank : List ℕ
blank = replicate 512 0

unfoldable pub no_nets : List ℕ
no_nets = replicate 257 0

-- the members of s are net numbers, 1 to 256
abbrev pub NetsOnly : List ℕ → Type 0
NetsOnly s = (v : ℕ) → member s v ≡ true → (0 < v) × (v ≤ 256)

-- s is the set of the nets with strands on the tracks g
abbrev pub Remaining : List ℕ → List ℕ → Type 0
Remaining g s = (v : ℕ) → member s v ≡ (not (eqb v 0) && remains g v)

-- the layout l with a column written from entry `at` on: its action x, and the tracks tr that leave it
abbrev pub with_column : (t at : ℕ) (x : Action) (tr l : List ℕ) → List ℕ
with_column t at x tr l = take at l ++ ((verticals t x ++ tr) ++ drop (at + (2 * t + 1)) l)

-- the layout l with the column that joins net v on the tracks tr written as column w + 1
unfoldable pub with_joining : ℕ → List ℕ → ℕ → ℕ → List ℕ → List ℕ
with_joining t tr v w l = with_column t (w * (2 * t + 1)) (joining tr v) (clear v tr) l
