-- Document 01, "Channels with a net of three or more pins (t = 2d - 1)": the rules. "The first rule that fits is used."
-- Document 02, Job 3, leaves them "the other channels with a net of three or more pins", those that `ThreePin` does not draw.
-- Of columns without pins, "No pins", these are the rules before document 02, Job 7; `Drawing` has the one of now, for all sweeps.
-- A is the column's top pin, B its bottom pin, f the two lowest free tracks, N the net of rule 2 (net 0: none),
-- later whether the top pin's net has pins after the column.
use Rattle.std.specs.Prelude.{ℕ, Bool, not, ◌&&◌, ◌||◌, eqb, ltb}
use Rattle.grid.specs.Channel.{pick}
use Rattle.sweep.specs.declared.Action.{Action}
use Rattle.sweep.specs.declared.Pin.{Pin}
use Rattle.sweep.specs.declared.Free.{Free}
use Rattle.sweep.specs.declared.Joint.{Joint}
use Rattle.sweep.specs.Rules.{Kind, none, starts, continues, ends, kind_of, pin_wires, goes, no_track, act, straight, full, join_net, top_takes_free, bottom_takes_free}
use Rattle.sweep.specs.Rules.{both_take_free, top_ends, bottom_ends, both_end}

-- each pin goes direct: the bottom net up to row q, the top net down to row p; one new strand, track y for net v (0: none)
abbrev pub direct : (A B : Pin) (q p y v : ℕ) → Action
direct A B q p y v = act (pin_wires B.net q A.net p) 0 0 (goes y v) no_track no_track

-- "the top net leaves on f instead of m and the new net takes m"; "the top net leaves on f and the bottom net adds m". A lower strand of the top net stays
abbrev pub top_moves : (A B : Pin) → Free → Action
top_moves A B f =
    act (pin_wires B.net A.high A.net A.high) A.net 0 (goes f.first A.net) (goes A.high B.net) (goes (pick (eqb A.many 1) 0 A.low) A.net)

-- mirrored: the bottom net leaves on f instead of its lowest strand, and the new net takes that. A higher strand of the bottom net stays
abbrev pub bottom_moves : (A B : Pin) → Free → Action
bottom_moves A B f =
    act (pin_wires B.net B.low A.net B.low) B.net 0 (goes f.first B.net) (goes B.low A.net) (goes (pick (eqb B.many 1) 0 B.high) B.net)

-- rule 4, "A continuing top net with highest strand m opposite a starting one, f the lowest free track: if f < m each goes direct; else the top net leaves
-- on f instead of m and the new net takes m."
unfoldable pub top_continues : (A B : Pin) → Free → Action
top_continues A B f = pick (ltb f.first A.high) (direct A B f.first A.high f.first B.net) (top_moves A B f)

-- "Mirrored for a continuing bottom net, with its lowest strand and f above it for direct."
unfoldable pub bottom_continues : (A B : Pin) → Free → Action
bottom_continues A B f = pick (ltb B.low f.first) (direct A B B.low f.first f.first A.net) (bottom_moves A B f)

-- rule 5, "if the top net has two strands it joins them, leaves on the higher, and the bottom net adds the lower"
abbrev pub top_joins : (A B : Pin) → Action
top_joins A B = act (pin_wires B.net A.low A.net A.low) A.net 0 (goes A.high A.net) (goes A.low B.net) no_track

-- "if the bottom net has two it joins them, leaves on the lower, and the top net adds the higher"
abbrev pub bottom_joins : (A B : Pin) → Action
bottom_joins A B = act (pin_wires B.net B.high A.net B.high) B.net 0 (goes B.low B.net) (goes B.high A.net) no_track

-- "Two, with m the top net's highest and l the bottom net's lowest: if l < m both go direct. Else, if the top net has two strands … Else, if the bottom net
-- has two … Else with f: if f < m the top net stays and the bottom net adds f; if f > m the top net leaves on f and the bottom net adds m." The last
-- sentence does what rule 4 does of a continuing top net
unfoldable pub both_continue : (A B : Pin) → Free → Action
both_continue A B f =
    pick (ltb B.low A.high) (direct A B B.low A.high 0 0)
    (pick (eqb A.many 2) (top_joins A B)
    (pick (eqb B.many 2) (bottom_joins A B)
    (top_continues A B f)))

module _ (A B : Pin) (f : Free) where
  -- "Each column falls in one of sixteen pairs of pin kinds, top and bottom", here where rule 2 does not fit
  unfoldable pub by_kinds : Kind → Kind → Action
  -- rule 1, "No pins: straight."
  by_kinds none none = straight
  -- rule 3, "Some pin ends its net. If both end and all the bottom net's strands lie below all the top net's, both join. Else the top net ends if its pin is
  -- an ending one, otherwise the bottom net."
  by_kinds ends ends = both_end A B
  by_kinds ends none = top_ends A B
  by_kinds ends starts = top_ends A B
  by_kinds ends continues = top_ends A B
  by_kinds none ends = bottom_ends A B
  by_kinds starts ends = bottom_ends A B
  by_kinds continues ends = bottom_ends A B
  -- rule 4, "Some pin starts. One pin, or two starting: as free tracks above. A continuing top net … opposite a starting one …"
  by_kinds starts none = top_takes_free f A.net
  by_kinds none starts = bottom_takes_free f B.net
  by_kinds starts starts = both_take_free f A.net B.net
  by_kinds continues starts = top_continues A B f
  by_kinds starts continues = bottom_continues A B f
  -- rule 5, "One continuing pin: top from the net's highest strand, bottom from its lowest. Two, …"
  by_kinds continues none = direct A B 0 A.high 0 0
  by_kinds none continues = direct A B B.low B.low 0 0
  by_kinds continues continues = both_continue A B f

-- rule 1, "One net with both pins here: if it has no other pins, or has strands, a full vertical joins its strands, and it leaves on its lowest if pins
-- follow. If it starts here and pins follow, rule 2 fits if it can, each pin taking its track; else a full vertical and the lowest free track."
unfoldable pub both_pins : (t : ℕ) → Pin → Free → Joint → (later : Bool) → Action
both_pins t A f N later =
    pick (ltb 0 A.many || not later) (full t A.net (pick later A.low 0))
    (pick (eqb N.net 0) (full t A.net f.first)
    (join_net N A.net A.net))

-- rule 1, no pins, or both of one net; rule 2, where N is a net; else by the kinds
unfoldable pub choose_many : (t : ℕ) → Pin → Pin → Free → Joint → (later : Bool) → Action
choose_many t A B f N later =
    pick (eqb A.net 0 && eqb B.net 0) straight
    (pick (eqb A.net B.net) (both_pins t A f N later)
    (pick (eqb N.net 0) (by_kinds A B f (kind_of A.kind) (kind_of B.kind))
    (join_net N A.net B.net)))
