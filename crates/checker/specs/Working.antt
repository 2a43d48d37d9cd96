-- What the private functions of the checker promise each other. No promise of a public call rests on these.
use Rattle.std.specs.Prelude.{ℕ, suc, ◌+◌, ◌*◌, ◌-◌, ◌/◌, ◌≤◌, ◌<◌, min, ◌≡◌, ◌≢◌, Option, Some, None, Bool, true, false, not, ◌&&◌, ◌||◌, List, length, get_or, eqb, ltb, Err}
use Rattle.grid.specs.Channel.{pick, bit, pins}
use Rattle.grid.specs.Working.{ByNet}
use Rattle.pieces.specs.Labels.{net_of, sub, after_left, after_up, after_right, after_points, left_from, labelled, tally, roots, lost}
use Rattle.grid.specs.declared.refusals.Refusal.TheVariants.{LooseEnd}
use Rattle.grid.specs.Refusals.{refusal}
use Rattle.checker.specs.declared.Fault.{Fault}
use Rattle.checker.specs.declared.ends.Loose.{Loose}
use Rattle.checker.specs.Check.{Checked, fault_at, checked_by, entries_refused, drawing_refused, place, column, row}
use Rattle.checker.specs.Check.{least, some, loose_at, loose_net, loose_column, loose_track}
use Rattle.checker.specs.Faults.{Before}

-- SEARCHES
-- the least number below n that passes a test, if one does
unfoldable pub first_below : (n : ℕ) → (ℕ → Bool) → Option ℕ
first_below n P = pick (some n P) (Some (least n P)) None

-- ANSWERS
-- the answer with a number and a place
abbrev pub refused_at : (number place : ℕ) → Checked
refused_at k p = Err (fault_at (refusal k) p)

module _ (top bottom : List ℕ) (w t : ℕ) (D : List ℕ) where
  -- the answer with a number
  abbrev pub answer_with : (number : ℕ) → Checked
  answer_with k = checked_by k (place top bottom w t D k) (column top bottom w t D k) (row top bottom w t D k)

  -- the answer on the entries of a drawing of the right size
  abbrev pub entries_checked : Checked
  entries_checked = answer_with (entries_refused top bottom w t D)

  -- and on the drawing of accepted rows
  abbrev pub drawing_checked : Checked
  drawing_checked = answer_with (drawing_refused top bottom w t D)

-- TESTS OF SINGLE ENTRIES
-- a table with the pins of each net, and rows whose numbers are at most 256
pub record PinTable (top bottom table : List ℕ) : Type 0 where
  pub figures : ByNet (pins top bottom) table
  pub none : (N : ℕ) → 256 < N → pins top bottom N ≡ 0

-- an entry that is neither 0 nor a net by the table
unfoldable pub unknown : (table : List ℕ) (e : ℕ) → Bool
unknown table e = not (eqb e 0) && (ltb 256 e || eqb (get_or table e 0) 0)

-- no entry of a drawing is unknown
abbrev pub AllKnown : (table D : List ℕ) → Type 0
AllKnown table D = (p : ℕ) → p < length D → unknown table (get_or D p 0) ≡ false

-- of the numbers below n only those that are known are marked
pub record KnownMarks (table : List ℕ) (marks : List Bool) (n : ℕ) : Type 0 where
  pub long : length marks ≡ 257
  pub known : (v : ℕ) → v < n → get_or marks v false ≡ true → unknown table v ≡ false

-- THE COUNT OF PIECES: what its variables hold while it goes through the points of a column. They are a label for each track (the strands), one for the
-- edge below, and of each net the pieces begun and the joins of two. Labels of no net are not kept up.
-- a drawing within the limits, whose entries are at most 256
pub record Within (D : List ℕ) (w t : ℕ) : Type 0 where
  pub size : length D ≡ w * (2 * t + 1)
  pub width_fits : w ≤ 511
  pub high : t ≤ 511
  pub nets : (i : ℕ) → get_or D i 0 ≤ 256

-- b is the first entry of a column, q the first horizontal entry of the one before
pub record ColumnAt (D : List ℕ) (t b q : ℕ) : Type 0 where
  pub w : ℕ
  pub x : ℕ
  pub within : Within D w t
  pub below : x < w
  pub base : b ≡ x * (2 * t + 1)
  pub before : q ≡ left_from (length D) t x

-- at point j of the column at b nets only cross: the upper edge is of the lower one's net, the right edge of the left one's, and the nets differ
pub record Crossing (D : List ℕ) (t b q j : ℕ) : Type 0 where
  pub upright : net_of D (b + j) ≡ net_of D (b + j + 1)
  pub level : net_of D (q + j) ≡ net_of D (b + t + 1 + j)
  pub apart : net_of D (b + j) ≢ net_of D (q + j)

-- so they do from point j up to point k
pub record Crossings (D : List ℕ) (t b q j k : ℕ) : Type 0 where
  pub from : j ≤ k
  pub to : k ≤ t
  pub each : (i : ℕ) → j ≤ i → i < k → Crossing D t b q i

-- the labels when the columns before b and the first j points of the column at b are passed
unfoldable pub seen : (D : List ℕ) (t b q j : ℕ) → ℕ → ℕ
seen D t b q j = after_points (net_of D) t b q j (labelled (net_of D) (length D) t (b / (2 * t + 1)))

-- and after the left edge of the next point
abbrev pub seen₁ : (D : List ℕ) (t b q j : ℕ) → ℕ → ℕ
seen₁ D t b q j = after_left (net_of D) b q j (seen D t b q j)

-- after its upper edge
abbrev pub seen₂ : (D : List ℕ) (t b q j : ℕ) → ℕ → ℕ
seen₂ D t b q j = after_up (net_of D) b q j (seen D t b q j)

-- after its right edge
abbrev pub seen₃ : (D : List ℕ) (t b q j : ℕ) → ℕ → ℕ
seen₃ D t b q j = after_right (net_of D) t b q j (seen D t b q j)

-- each track's label: of the right edge at the points passed, of the left edge at those to come
pub record Labs (D : List ℕ) (t b q j : ℕ) (f : ℕ → ℕ) (lab : List ℕ) : Type 0 where
  pub long : length lab ≡ 512
  pub done : (k : ℕ) → k < j → net_of D (b + t + 1 + k) ≢ 0 → get_or lab k 0 ≡ f (b + t + 1 + k)
  pub todo : (k : ℕ) → j ≤ k → k < t → net_of D (q + k) ≢ 0 → get_or lab k 0 ≡ f (q + k)

-- the labels before a point
pub record Labels (D : List ℕ) (t b q j vl : ℕ) (lab : List ℕ) : Type 0 where
  pub down : net_of D (b + j) ≢ 0 → vl ≡ seen D t b q j (b + j)
  pub labs : Labs D t b q j (seen D t b q j) lab

-- after its left edge
pub record Labels₁ (D : List ℕ) (t b q j vl nl : ℕ) : Type 0 where
  pub down : net_of D (b + j) ≢ 0 → vl ≡ seen₁ D t b q j (b + j)
  pub left : net_of D (q + j) ≢ 0 → nl ≡ seen₁ D t b q j (q + j)

-- after its upper edge
pub record Labels₂ (D : List ℕ) (t b q j vl nl ul : ℕ) : Type 0 where
  pub down : net_of D (b + j) ≢ 0 → vl ≡ seen₂ D t b q j (b + j)
  pub left : net_of D (q + j) ≢ 0 → nl ≡ seen₂ D t b q j (q + j)
  pub up : net_of D (b + j + 1) ≢ 0 → ul ≡ seen₂ D t b q j (b + j + 1)

-- after its right edge
pub record Labels₃ (D : List ℕ) (t b q j ul rl : ℕ) : Type 0 where
  pub up : net_of D (b + j + 1) ≢ 0 → ul ≡ seen₃ D t b q j (b + j + 1)
  pub right : net_of D (b + t + 1 + j) ≢ 0 → rl ≡ seen₃ D t b q j (b + t + 1 + j)

-- one label for another in the first t
pub record Merged (old new t : ℕ) (lab lab' : List ℕ) : Type 0 where
  pub long : length lab' ≡ length lab
  pub at : (k : ℕ) → k < t → get_or lab' k 0 ≡ sub old new (get_or lab k 0)

-- a number for each net, at most m
pub record PerNet (m : ℕ) (a : List ℕ) : Type 0 where
  pub long : length a ≡ 257
  pub most : (N : ℕ) → N ≤ 256 → get_or a N 0 ≤ m

-- after a step: none grows by more than 1
pub record Grown (a a' : List ℕ) : Type 0 where
  pub long : length a' ≡ length a
  pub most : (N : ℕ) → N ≤ 256 → get_or a' N 0 ≤ get_or a N 0 + 1

-- one join more of net M if the labels differ
pub record JoinCounted (a b M : ℕ) (joined joined' : List ℕ) : Type 0 where
  pub grown : Grown joined joined'
  pub counts : (N : ℕ) → N ≤ 256 → get_or joined' N 0 ≡ get_or joined N 0 + lost a b M N

-- one piece more of net M begun if the labels are the same
pub record PieceCounted (a b M : ℕ) (begun begun' : List ℕ) : Type 0 where
  pub grown : Grown begun begun'
  pub counts : (N : ℕ) → N ≢ 0 → N ≤ 256 → get_or begun' N 0 + lost a b M N ≡ get_or begun N 0 + bit (eqb M N)

-- from the labels f to f': the roots that go are joins
pub record RootsJoined (D : List ℕ) (f f' : ℕ → ℕ) (joined joined' : List ℕ) : Type 0 where
  pub grown : Grown joined joined'
  pub counts : (N : ℕ) → N ≤ 256 → roots (net_of D) f (length D) N + get_or joined N 0 ≡ roots (net_of D) f' (length D) N + get_or joined' N 0

-- from f to f' by the edge p: it stays a root and begins a piece, or it goes
pub record RootsBegun (D : List ℕ) (f f' : ℕ → ℕ) (p : ℕ) (begun begun' : List ℕ) : Type 0 where
  pub grown : Grown begun begun'
  pub counts :
      (N : ℕ) → N ≢ 0 → N ≤ 256
      → roots (net_of D) f (length D) N + get_or begun' N 0 ≡ roots (net_of D) f' (length D) N + get_or begun N 0 + bit (eqb (net_of D p) N)

-- the joins after the left edge of a point
abbrev pub JoinsLeft : (D : List ℕ) (t b q j : ℕ) (joined joined' : List ℕ) → Type 0
JoinsLeft D t b q j = RootsJoined D (seen D t b q j) (seen₁ D t b q j)

-- the pieces begun after its upper edge
abbrev pub BeginsUp : (D : List ℕ) (t b q j : ℕ) (begun begun' : List ℕ) → Type 0
BeginsUp D t b q j = RootsBegun D (seen₁ D t b q j) (seen₂ D t b q j) (b + j + 1)

-- and after its right edge
abbrev pub BeginsRight : (D : List ℕ) (t b q j : ℕ) (begun begun' : List ℕ) → Type 0
BeginsRight D t b q j = RootsBegun D (seen₂ D t b q j) (seen₃ D t b q j) (b + t + 1 + j)

-- how many entries below position p are of net N
unfoldable pub edges_below : (D : List ℕ) (p N : ℕ) → ℕ
edges_below D p N = tally p (λ k. eqb (net_of D k) N)

-- how many edges of net N are met before point j of the column at b: of that column the vertical ones up to j and the horizontal ones before j
unfoldable pub met_before : (D : List ℕ) (t b j N : ℕ) → ℕ
met_before D t b j N = edges_below D (b + j + 1) N + (edges_below D (b + t + 1 + j) N - edges_below D (b + t + 1) N)

-- the tables of the pieces begun and of the joins, when `reached` of each net's edges are met and the others are roots; each number is at most m
pub record Counted (D : List ℕ) (f reached : ℕ → ℕ) (m : ℕ) (begun joined : List ℕ) : Type 0 where
  pub fits : PerNet m begun
  pub fits' : PerNet m joined
  pub counts :
      (N : ℕ) → N ≢ 0 → N ≤ 256
      → get_or begun N 0 + edges_below D (length D) N ≡ roots (net_of D) f (length D) N + get_or joined N 0 + reached N

-- when the entries below p are met
abbrev pub CountedTo : (D : List ℕ) (f : ℕ → ℕ) (p : ℕ) (begun joined : List ℕ) → Type 0
CountedTo D f p = Counted D f (edges_below D p) p

-- and when all w columns are passed
abbrev pub CountedAll : (D : List ℕ) (w t : ℕ) (begun joined : List ℕ) → Type 0
CountedAll D w t = CountedTo D (labelled (net_of D) (length D) t w) (length D)

-- before a point
pub record State (D : List ℕ) (t b q j vl : ℕ) (lab begun joined : List ℕ) : Type 0 where
  pub labels : Labels D t b q j vl lab
  pub counted : Counted D (seen D t b q j) (met_before D t b j) (b + 2 * j + 1) begun joined

-- the label l of an edge of net n, if that is the net, else o
unfoldable pub chosen : (net n l o : ℕ) → ℕ
chosen net n l o = pick (eqb net 0) o (pick (eqb net n) l o)

-- a net with more than one piece: more pieces begun than one and the joins
unfoldable pub in_pieces : (begun joined : List ℕ) (N : ℕ) → Bool
in_pieces begun joined N = not (eqb N 0) && ltb (1 + get_or joined N 0) (get_or begun N 0)

-- LOOSE ENDS: the four entries at a point, and what is kept from point to point
-- an entry e is an edge, and of its net none of the other three is
unfoldable pub alone : (e a b c : ℕ) → Bool
alone e a b c = ((not (eqb e 0) && not (eqb e a)) && not (eqb e b)) && not (eqb e c)

-- the net of e, if e is alone, else 257
unfoldable pub alone_net : (e a b c : ℕ) → ℕ
alone_net e a b c = pick (alone e a b c) e 257

-- the lowest net of one that is, else 257
unfoldable pub lowest_alone : (below above leftward rightward : ℕ) → ℕ
lowest_alone below above leftward rightward =
    min (min (alone_net below above leftward rightward) (alone_net above below leftward rightward))
    (min (alone_net leftward below above rightward) (alone_net rightward below above leftward))

-- at point j of the column at b, its left edges at q: the lowest net with a loose end there, else 257
unfoldable pub lowest_point : (D : List ℕ) (t b q j : ℕ) → ℕ
lowest_point D t b q j = lowest_alone (net_of D (b + j)) (net_of D (b + j + 1)) (net_of D (q + j)) (net_of D (b + t + 1 + j))

-- b and q are the positions of column x
pub record ColumnIs (D : List ℕ) (t x b q : ℕ) : Type 0 where
  pub column : ColumnAt D t b q
  pub number : column.x ≡ x

-- net N has no loose end before point j of column x
pub record Clean (t : ℕ) (D : List ℕ) (N x j : ℕ) : Type 0 where
  pub none : (x' j' : ℕ) → j' < t → Before x' j' x j → loose_at t D N x' j' ≡ false

-- its first one lies before that point, in this column and row, counted from 1
pub record FirstKept (t : ℕ) (D : List ℕ) (N x j column row : ℕ) : Type 0 where
  pub at_x : ℕ
  pub at_j : ℕ
  pub column_is : column ≡ suc at_x
  pub row_is : row ≡ suc at_j
  pub track : at_j < t
  pub passed : Before at_x at_j x j
  pub loose : loose_at t D N at_x at_j ≡ true
  pub clean : Clean t D N at_x at_j

-- what is kept before point j of column x: the lowest net with a loose end so far, 257 for none, and its first
pub record Kept (t : ℕ) (D : List ℕ) (x j : ℕ) (s : Loose) : Type 0 where
  pub most : s.net ≤ 257
  pub lower : (N : ℕ) → N < s.net → Clean t D N x j
  pub first : s.net < 257 → FirstKept t D s.net x j s.column s.row

-- the lowest net with a loose end, and the column and row of its first
pub record LowestEnd (w t : ℕ) (D : List ℕ) (s : Loose) : Type 0 where
  pub is_net : s.net < 257
  pub lowest : s.net ≡ least 257 (loose_net w t D)
  pub column : s.column ≡ suc (loose_column w t D s.net)
  pub row : s.row ≡ suc (loose_track w t D s.net)

-- what is kept in the end: that net, if any has a loose end
abbrev pub LowestLoose : (w t : ℕ) (D : List ℕ) → Option Loose → Type 0
LowestLoose w t D None = some 257 (loose_net w t D) ≡ false
LowestLoose w t D (Some s) = LowestEnd w t D s

-- the fault of what is found
abbrev pub fault_of_end : (s : Loose) → Fault
fault_of_end s = record { refusal = LooseEnd; place = s.net; column = s.column; row = s.row }
