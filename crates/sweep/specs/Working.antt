-- What the laws of actions and the code that chooses and applies one go by: each track that an action gives is free by then, and it names the column's
-- nets alone; what a column without pins does. No promise of a public call rests on these.
use Rattle.std.specs.Prelude.{ℕ, zero, suc, ◌≤◌, ◌<◌, ◌≡◌, Bool, ◌&&◌, ◌||◌, List, eqb, length, get_or}
use Rattle.grid.specs.Channel.{pick}
use Rattle.sweep.specs.declared.Action.{Action}
use Rattle.sweep.specs.declared.Joint.{Joint}
use Rattle.sweep.specs.declared.Pin.{Pin}
use Rattle.sweep.specs.Rules.{straight, join_only}
use Rattle.sweep.specs.Tracks.{clear, give}

-- track y is free; 0 is no track
abbrev pub FreeAt : ℕ → List ℕ → Type 0
FreeAt zero tr = Unit {0}
FreeAt (suc y) tr = (y < length tr) × (get_or tr y 0 ≡ 0)

-- the tracks that an action gives are free by then, and its nets are numbered up to 256
pub record Applies (x : Action) (tr : List ℕ) : Type 0 where
  pub ended : x.ended ≤ 256
  pub closed : x.closed ≤ 256
  pub net1 : x.gift1.net ≤ 256
  pub net2 : x.gift2.net ≤ 256
  pub net3 : x.gift3.net ≤ 256
  pub free1 : FreeAt x.gift1.track (clear x.closed (clear x.ended tr))
  pub free2 : FreeAt x.gift2.track (give x.gift1.track x.gift1.net (clear x.closed (clear x.ended tr)))
  pub free3 : FreeAt x.gift3.track (give x.gift2.track x.gift2.net (give x.gift1.track x.gift1.net (clear x.closed (clear x.ended tr))))

-- v is none, a pin's net, or the net that ends first: P and Q are the nets of the top and the bottom pin
pub data Named (P Q e v : ℕ) : Type 0 where
  nobody : v ≡ 0 → Named P Q e v
  top_net : P ≡ v → Named P Q e v
  bottom_net : Q ≡ v → Named P Q e v
  ended_net : v ≡ e → Named P Q e v

-- an action names no other nets
pub record Plain (P Q : ℕ) (x : Action) : Type 0 where
  pub closed : Named P Q x.ended x.closed
  pub net1 : Named P Q x.ended x.gift1.net
  pub net2 : Named P Q x.ended x.gift2.net
  pub net3 : Named P Q x.ended x.gift3.net

-- a column with the pins A and B has none
abbrev pub no_pins : (A B : Pin) → Bool
no_pins A B = eqb A.net 0 && eqb B.net 0

-- what a column without pins does, by the net N of rule 2: N is joined if it has no pins to come, else all runs straight
unfoldable pub join_alone : Joint → Action
join_alone N = pick (eqb N.net 0 || N.later) straight (join_only N.net N.low N.high)

-- a pin is of kind 0, none, just where it has no net
abbrev pub Kinded : Pin → Type 0
Kinded A = (A.kind ≡ 0 → A.net ≡ 0) × (A.net ≡ 0 → A.kind ≡ 0)
