-- Document 01, "Channels of two-pin nets (t = d)": the rules. "The first rule that fits is used."
-- Of columns without pins, "No pins", these are the rules before document 02, Job 7; `Drawing` has the one of now, for all sweeps.
-- A is the column's top pin, B its bottom pin, f the two lowest free tracks, N the lowest-numbered extended net (net 0: none).
use Rattle.std.specs.Prelude.{ℕ, not, ◌&&◌, eqb}
use Rattle.grid.specs.Channel.{pick}
use Rattle.sweep.specs.declared.Action.{Action}
use Rattle.sweep.specs.declared.Pin.{Pin}
use Rattle.sweep.specs.declared.Free.{Free}
use Rattle.sweep.specs.declared.Joint.{Joint}
use Rattle.sweep.specs.Rules.{Kind, none, starts, continues, ends, kind_of, straight, full, join_net, top_takes_free, bottom_takes_free, both_take_free}
use Rattle.sweep.specs.Rules.{top_ends, bottom_ends, both_end}

-- rule 2, "Only starting pins. If a net is stretched, take the lowest-numbered such net: join its two tracks": the nets a and b of the top and the bottom
-- pin take them. "Else" another action
unfoldable pub join_or : Joint → (a b : ℕ) → Action → Action
join_or N a b other = pick (eqb N.net 0) other (join_net N a b)

module _ (A B : Pin) (f : Free) (N : Joint) where
  -- "Each column falls in one of sixteen pairs of pin kinds, top and bottom." No pin of a two-pin net continues
  unfoldable pub by_kinds : Kind → Kind → Action
  -- rule 1, "No pins: all straight."
  by_kinds none none = straight
  -- rule 2, "Only starting pins. If a net is stretched … Else one pin takes the lowest free track; of two pins the top takes the higher of the two lowest
  -- free."
  by_kinds none starts = join_or N A.net B.net (bottom_takes_free f B.net)
  by_kinds starts none = join_or N A.net B.net (top_takes_free f A.net)
  by_kinds starts starts = join_or N A.net B.net (both_take_free f A.net B.net)
  -- rule 3, "An ending pin alone joins its strand. With a starting pin opposite, the starting net takes the ended net's track."
  by_kinds none ends = bottom_ends A B
  by_kinds starts ends = bottom_ends A B
  by_kinds ends none = top_ends A B
  by_kinds ends starts = top_ends A B
  -- rule 4, "Two ending pins, top on r, bottom on s. If s < r both join. Else the top net joins and the bottom net takes r beside s: it is stretched."
  by_kinds ends ends = both_end A B
  by_kinds none continues = straight
  by_kinds starts continues = straight
  by_kinds ends continues = straight
  by_kinds continues none = straight
  by_kinds continues starts = straight
  by_kinds continues continues = straight
  by_kinds continues ends = straight

-- rule 1, "Both pins of one net: a vertical from row 0 to t + 1"; else by the kinds
unfoldable pub choose_two : (t : ℕ) → Pin → Pin → Free → Joint → Action
choose_two t A B f N =
    pick (not (eqb A.net 0) && eqb A.net B.net) (full t A.net 0)
    (by_kinds A B f N (kind_of A.kind) (kind_of B.kind))
