-- Document 02, Job 11, "A channel on the drawing board": what a change does to the rows of a channel, and what a list of changes does. Nothing is said here of
-- a board.
use Rattle.std.specs.Prelude.{ℕ, ◌||◌, List, [], ◌∷◌, map, eqb, ltb, replicate}
use Rattle.grid.specs.Channel.{pick, pins}
use Rattle.grid.specs.Refusals.{if_accepted}
use Rattle.placing.specs.Placing.{place_refused, placed_top, placed_bottom}

-- THE CHANNEL: its rows; 0 is no pin
pub record Channel : Type 0 where
  pub top : List ℕ
  pub bottom : List ℕ

-- "a channel with a fixed number of columns, starting empty"
unfoldable pub empty_channel : (columns : ℕ) → Channel
empty_channel columns = record { top = replicate columns 0; bottom = replicate columns 0 }

-- A CHANGE: it "takes a new net, drops a net". A new net has two terminals, each a column, counted from 1, and a side: 0 is the top, 1 the bottom
pub data Change : Type 0 where
  Add : (net column1 side1 column2 side2 : ℕ) → Change
  Drop : (net : ℕ) → Change

-- "24: dropping a net that is not there; checked after 6": the number of a dropped net's refusal, 0 for none
unfoldable pub drop_refused : (top bottom : List ℕ) (net : ℕ) → ℕ
drop_refused top bottom net = pick (eqb net 0 || ltb 256 net) 6 (pick (eqb (pins top bottom net) 0) 24 0)

-- a row without the pins of a net
unfoldable pub without_net : (net : ℕ) → List ℕ → List ℕ
without_net net row = map (λ x. pick (eqb x net) 0 x) row

-- the number of a change's refusal, 0 for none; "An added net follows Job 10 with nothing drawn and no track limit"
unfoldable pub change_refused : Channel → Change → ℕ
change_refused ch (Add net column1 side1 column2 side2) = place_refused ch.top ch.bottom 0 net column1 side1 column2 side2
change_refused ch (Drop net) = drop_refused ch.top ch.bottom net

-- the channel with a change made
unfoldable pub changed : Channel → Change → Channel
changed ch (Add net column1 side1 column2 side2) = record {
  top = placed_top ch.top net column1 side1 column2 side2;
  bottom = placed_bottom ch.bottom net column1 side1 column2 side2;
}
changed ch (Drop net) = record { top = without_net net ch.top; bottom = without_net net ch.bottom }

-- the channel after a change: one that is refused alters nothing
unfoldable pub after_change : Channel → Change → Channel
after_change ch change = if_accepted (change_refused ch change) (changed ch change) ch

-- after "any list of changes, refused ones among them"
unfoldable pub after_changes : Channel → List Change → Channel
after_changes ch [] = ch
after_changes ch (change ∷ changes) = after_changes (after_change ch change) changes
