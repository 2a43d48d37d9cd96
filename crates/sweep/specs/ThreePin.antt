-- Source document 000, part (b), as document 02, Job 3, orders it (t = 3d/2 rounded down): the rules, with every open choice decided. docs/THREE-PIN.md has
-- them in words. "The first rule that fits is used."
-- Of columns without pins, "No pins", these are the rules before document 02, Job 7; `Drawing` has the one of now, for all sweeps.
-- A is the column's top pin, B its bottom pin, ea and eb the last columns of their nets, f the two lowest free tracks, N the lowest-numbered extended net,
-- D the unpaired double net that ends last, M the lowest-numbered other one (net 0: none).
use Rattle.std.specs.Prelude.{ℕ, Bool, ◌&&◌, ◌||◌, eqb, ltb}
use Rattle.grid.specs.Channel.{pick}
use Rattle.sweep.specs.declared.Action.{Action}
use Rattle.sweep.specs.declared.Move.{Move}
use Rattle.sweep.specs.declared.Pin.{Pin}
use Rattle.sweep.specs.declared.Free.{Free}
use Rattle.sweep.specs.declared.Joint.{Joint}
use Rattle.sweep.specs.declared.Double.{Double}
use Rattle.sweep.specs.Rules.{Kind, none, starts, continues, ends, kind_of, goes, act, straight, full, taken, join_net, top_takes_free, bottom_takes_free, both_take_free}
use Rattle.sweep.specs.Rules.{top_ends, bottom_ends, both_join, lies_below}
use Rattle.sweep.specs.ManyPin.{direct, top_continues, bottom_continues}

-- an action, and the pair that it forms: the double net d and the single net s
abbrev pub pairing : Action → (d s : ℕ) → Move
pairing x d s = record { action = x; double = d; single = s }

-- an action that forms no pair
abbrev pub still : Action → Move
still x = pairing x 0 0

-- double net D is reduced: it is joined and leaves on track y; the bottom net b takes track x and the top net a track z (0: no net)
abbrev pub reduce : Double → (a b x y z : ℕ) → Action
reduce D a b x y z =
    act
    (record { bottom = b; low = x; start = D.low; middle = D.net; stop = D.high; high = z; top = a })
    D.net
    0
    (goes (taken b x) b)
    (goes (taken a z) a)
    (goes y D.net)

-- D is reduced between two pins: the bottom net, D and the top net leave on the lowest, the middle and the highest of D's two tracks and free track y
unfoldable pub three_way : Double → (y a b : ℕ) → Action
three_way D y a b =
    pick (ltb y D.low) (reduce D a b y D.low D.high)
    (pick (ltb y D.high) (reduce D a b D.low y D.high)
    (reduce D a b D.low D.high y))

-- rule 4, two pins that end their nets: if all the bottom net's strands lie below all the top net's both join, else the one with more strands ends, of equals
-- the lower-numbered
unfoldable pub either_ends : (A B : Pin) → Action
either_ends A B =
    pick (lies_below A B) (both_join A B)
    (pick (ltb B.many A.many || (eqb A.many B.many && ltb A.net B.net)) (top_ends A B) (bottom_ends A B))

-- rule 2, no pin ends and a net is extended: it is joined, and its tracks go to the column's nets. Else another move
unfoldable pub join_else : Joint → (a b : ℕ) → Move → Move
join_else N a b other = pick (eqb N.net 0) other (still (join_net N a b))

-- of two nets a ends first, at column ea, or both end together and a has the lower number
abbrev pub ends_first : (a b ea eb : ℕ) → Bool
ends_first a b ea eb = ltb ea eb || (eqb ea eb && ltb a b)

-- rule 3, two continuing pins, l the bottom net's lowest strand and m the top net's highest: if l < m both go direct. Else the net that ends first gets a
-- second strand, and the two are a pair
unfoldable pub both_go_on : (A B : Pin) (ea eb : ℕ) → Free → Move
both_go_on A B ea eb f =
    pick (ltb B.low A.high) (still (direct A B B.low A.high 0 0))
    (pick (ends_first A.net B.net ea eb) (pairing (bottom_continues A B f) A.net B.net)
    (pairing (top_continues A B f) B.net A.net))

-- net D, reduced by an action, is the single net of a pair with M, if there is one
abbrev pub paired_with : (M D : Double) → Action → Move
paired_with M D x = pairing x M.net (taken M.net D.net)

module _ (A B : Pin) (f : Free) (D M : Double) where
  -- rule 3, only starting pins: D is reduced. Without an unpaired double net a pin takes the lowest free track, of two pins the top the higher of the two
  -- lowest
  unfoldable pub top_starts : Move
  top_starts = pick (eqb D.net 0) (still (top_takes_free f A.net)) (paired_with M D (reduce D A.net 0 D.low D.low D.high))

  unfoldable pub bottom_starts : Move
  bottom_starts = pick (eqb D.net 0) (still (bottom_takes_free f B.net)) (paired_with M D (reduce D 0 B.net D.low D.high D.high))

  unfoldable pub both_start : Move
  both_start = pick (eqb D.net 0) (still (both_take_free f A.net B.net)) (paired_with M D (three_way D f.first A.net B.net))

-- the unpaired double net that a continuing pin is paired with: M if there is one, else D
abbrev pub beside : (D M : Double) → Double
beside D M = pick (eqb M.net 0) D M

module _ (A B : Pin) (f : Free) (E : Double) where
  -- rule 3, a continuing top pin, whose net ends at column ea, opposite a starting one: if it ends before E, it takes the second strand and E is reduced; else
  -- E stays double; in either case the two are a pair. Without an unpaired double net, as rule 4 of many-pin channels
  unfoldable pub top_goes_on : (ea : ℕ) → Move
  top_goes_on ea =
      pick (eqb E.net 0) (still (top_continues A B f))
      (pick (ltb ea E.last) (pairing (three_way E f.first A.net B.net) A.net E.net)
      (pairing (top_continues A B f) E.net A.net))

  -- mirrored
  unfoldable pub bottom_goes_on : (eb : ℕ) → Move
  bottom_goes_on eb =
      pick (eqb E.net 0) (still (bottom_continues A B f))
      (pick (ltb eb E.last) (pairing (three_way E f.first A.net B.net) B.net E.net)
      (pairing (bottom_continues A B f) E.net B.net))

module _ (A B : Pin) (ea eb : ℕ) (f : Free) (N : Joint) (D M : Double) where
  -- "Each column falls in one of sixteen pairs of pin kinds, top and bottom."
  unfoldable pub by_kinds : Kind → Kind → Move
  -- rule 1, no pins: straight
  by_kinds none none = still straight
  -- rules 2 and 3, no pin ends
  by_kinds none starts = join_else N A.net B.net (bottom_starts A B f D M)
  by_kinds none continues = join_else N A.net B.net (still (direct A B B.low B.low 0 0))
  by_kinds starts none = join_else N A.net B.net (top_starts A B f D M)
  by_kinds starts starts = join_else N A.net B.net (both_start A B f D M)
  by_kinds starts continues = join_else N A.net B.net (bottom_goes_on A B f (beside D M) eb)
  by_kinds continues none = join_else N A.net B.net (still (direct A B 0 A.high 0 0))
  by_kinds continues starts = join_else N A.net B.net (top_goes_on A B f (beside D M) ea)
  by_kinds continues continues = join_else N A.net B.net (both_go_on A B ea eb f)
  -- rule 4, some pin ends its net, also where a net is extended
  by_kinds none ends = still (bottom_ends A B)
  by_kinds starts ends = still (bottom_ends A B)
  by_kinds continues ends = still (bottom_ends A B)
  by_kinds ends none = still (top_ends A B)
  by_kinds ends starts = still (top_ends A B)
  by_kinds ends continues = still (top_ends A B)
  by_kinds ends ends = still (either_ends A B)

-- rule 1, no pins: straight; both pins of one net: a full vertical, and it is done. Else by the kinds
unfoldable pub choose_three : (t : ℕ) (A B : Pin) (ea eb : ℕ) → Free → Joint → (D M : Double) → Move
choose_three t A B ea eb f N D M =
    pick (eqb A.net 0 && eqb B.net 0) (still straight)
    (pick (eqb A.net B.net) (still (full t A.net 0))
    (by_kinds A B ea eb f N D M (kind_of A.kind) (kind_of B.kind)))
