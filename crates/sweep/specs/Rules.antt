-- Document 01: the actions that rules of more than one sweep use.
-- A is the column's top pin, B its bottom pin, f the two lowest free tracks, N the net of rule 2.
use Rattle.std.specs.Prelude.{ℕ, zero, suc, Bool, eqb, ltb}
use Rattle.grid.specs.Channel.{pick}
use Rattle.grid.specs.declared.Segments.{Segments}
use Rattle.sweep.specs.declared.Gift.{Gift}
use Rattle.sweep.specs.declared.Action.{Action}
use Rattle.sweep.specs.declared.Pin.{Pin}
use Rattle.sweep.specs.declared.Free.{Free}
use Rattle.sweep.specs.declared.Joint.{Joint}

-- "A pin starts, ends or continues its net; with "none" these are four kinds."
pub data Kind : Type 0 where
  none starts continues ends : Kind

-- the kinds as numbers: 0 none, 1 starts, 2 continues, 3 ends
unfoldable pub kind_of : ℕ → Kind
kind_of zero = none
kind_of (suc zero) = starts
kind_of (suc (suc zero)) = continues
kind_of (suc (suc (suc k))) = ends

-- the wires of two pins: the bottom net b up to row q, the top net a down to row p
abbrev pub pin_wires : (b q a p : ℕ) → Segments
pin_wires b q a p = record { bottom = b; low = q; start = q; middle = 0; stop = q; high = p; top = a }

-- track y goes to net v
abbrev pub goes : (y v : ℕ) → Gift
goes y v = record { track = y; net = v }

-- no track
abbrev pub no_track : Gift
no_track = goes 0 0

-- wires are drawn, the strands of the nets e and c end (0: none), and three tracks are given
abbrev pub act : (wires : Segments) (e c : ℕ) (g1 g2 g3 : Gift) → Action
act w e c g1 g2 g3 = record { wires = w; ended = e; closed = c; gift1 = g1; gift2 = g2; gift3 = g3 }

-- "No pins: all straight."
abbrev pub straight : Action
straight = act (pin_wires 0 0 0 0) 0 0 no_track no_track no_track

-- "a vertical from row 0 to t + 1" of net v: its strands end, and it leaves on track y (0: it does not)
abbrev pub full : (t v y : ℕ) → Action
full t v y = act (pin_wires v (suc t) v (suc t)) v 0 (goes y v) no_track no_track

-- track y for net v, and none where v is 0
abbrev pub taken : (v y : ℕ) → ℕ
taken v y = pick (eqb v 0) 0 y

-- "join its two tracks a < b; a top pin takes b, a bottom pin takes a"; "Join its strands, lowest a, highest b. A top pin of another net adds strand b to
-- that net, a bottom pin a. A pin of N joins N. If N has later pins it leaves on its second lowest strand, else it is done."
-- a and b are here the nets of the top and the bottom pin
abbrev pub join_net : Joint → (a b : ℕ) → Action
join_net N a b =
    act
    (record { bottom = b; low = N.low; start = N.low; middle = N.net; stop = N.high; high = N.high; top = a })
    N.net
    0
    (goes (pick (eqb b N.net) 0 (taken b N.low)) b)
    (goes (pick (eqb a N.net) 0 (taken a N.high)) a)
    (goes (pick N.later N.second 0) N.net)

-- "one pin takes the lowest free track": the top pin of net a, the bottom pin of net b
abbrev pub top_takes_free : Free → (a : ℕ) → Action
top_takes_free f a = act (pin_wires 0 0 a f.first) 0 0 (goes f.first a) no_track no_track

abbrev pub bottom_takes_free : Free → (b : ℕ) → Action
bottom_takes_free f b = act (pin_wires b f.first 0 f.first) 0 0 (goes f.first b) no_track no_track

-- "of two pins the top takes the higher of the two lowest free"
abbrev pub both_take_free : Free → (a b : ℕ) → Action
both_take_free f a b = act (pin_wires b f.first a f.second) 0 0 (goes f.first b) (goes f.second a) no_track

-- "An ending pin alone joins its strand. With a starting pin opposite, the starting net takes the ended net's track"; "The top net joins all strands up to
-- its pin, and the bottom pin's net adds the lowest of them"
abbrev pub top_ends : (A B : Pin) → Action
top_ends A B = act (pin_wires B.net A.low A.net A.low) A.net 0 (goes (taken B.net A.low) B.net) no_track no_track

-- "mirrored, the bottom net joins down and the top pin's net adds the highest"
abbrev pub bottom_ends : (A B : Pin) → Action
bottom_ends A B = act (pin_wires B.net B.high A.net B.high) B.net 0 (goes (taken A.net B.high) A.net) no_track no_track

-- "If both end and all the bottom net's strands lie below all the top net's, both join"
abbrev pub both_join : (A B : Pin) → Action
both_join A B = act (pin_wires B.net B.high A.net A.low) A.net B.net no_track no_track no_track

-- "all the bottom net's strands lie below all the top net's"
abbrev pub lies_below : (A B : Pin) → Bool
lies_below A B = ltb B.high A.low

-- "If s < r both join. Else the top net joins and the bottom net takes r beside s: it is stretched"; "Else the top net ends if its pin is an ending one"
unfoldable pub both_end : (A B : Pin) → Action
both_end A B = pick (lies_below A B) (both_join A B) (top_ends A B)

-- "joining its tracks": the strands of net v are joined, the lowest on track a, the highest on track b, and nothing else is done
abbrev pub join_only : (v a b : ℕ) → Action
join_only v a b = act (record { bottom = 0; low = 0; start = a; middle = v; stop = b; high = b; top = 0 }) v 0 no_track no_track no_track
