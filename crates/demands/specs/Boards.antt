-- Document 02, Job 11, "A channel on the drawing board": the numbers of the calls, and what any list of changes leads to.
use Rattle.std.specs.Prelude.{ℕ, ◌≤◌, ◌<◌, ◌≡◌, ◌≢◌, ◌⊎◌, List, length, get_or}
use Rattle.grid.specs.Channel.{pins, open_at, density}
use Rattle.grid.specs.Refusals.{if_accepted}
use Rattle.board.specs.Changes.{Channel, Change, Add, Drop, change_refused, after_change, after_changes}
use Rattle.board.specs.Board.{Board, board_of, StandsFor, board_refused, start_channel, gap_count, LeadsTo}
use Rattle.demands.specs.Table.{First, of_board, of_added_net, of_dropped_net}
use Rattle.demands.specs.Beginnings.{TwoPinChannel}

-- THE FIRST NUMBER THAT APPLIES, call by call
pub record BoardRefuses : Type 0 where
  pub start : (columns : ℕ) → First (of_board columns) (board_refused columns)
  pub add : (ch : Channel) → length ch.top ≡ length ch.bottom → (net column1 side1 column2 side2 : ℕ)
      → First (of_added_net ch.top ch.bottom net column1 side1 column2 side2) (change_refused ch (Add net column1 side1 column2 side2))
  pub drop : (ch : Channel) (net : ℕ) → First (of_dropped_net ch.top ch.bottom net) (change_refused ch (Drop net))

-- the other nets have the pins that they had
abbrev pub OthersAsBefore : (net : ℕ) (before after : Channel) → Type 0
OthersAsBefore net ch ch' = (v : ℕ) → v ≢ 0 → v ≢ net → pins ch'.top ch'.bottom v ≡ pins ch.top ch.bottom v

-- A CHANNEL of two-pin nets on the board
pub record TakesChanges (ch : Channel) : Type 0 where
  -- it "takes a new net", which has two pins then
  pub adds : (net column1 side1 column2 side2 : ℕ) → change_refused ch (Add net column1 side1 column2 side2) ≡ 0
      → let ch' = after_change ch (Add net column1 side1 column2 side2) in (pins ch'.top ch'.bottom net ≡ 2) × OthersAsBefore net ch ch'
  -- "drops a net", which has none then
  pub drops : (net : ℕ) → change_refused ch (Drop net) ≡ 0
      → let ch' = after_change ch (Drop net) in (pins ch'.top ch'.bottom net ≡ 0) × OthersAsBefore net ch ch'
  -- "A dropped number may be used again": only its terminals may be a reason to refuse it
  pub again : (net column1 side1 column2 side2 : ℕ) → change_refused ch (Drop net) ≡ 0
      → let k = change_refused (after_change ch (Drop net)) (Add net column1 side1 column2 side2) in (k ≡ 0) ⊎ (k ≡ 22)
  -- a net that is added and dropped leaves the channel as it was
  pub undone : (net column1 side1 column2 side2 : ℕ) → change_refused ch (Add net column1 side1 column2 side2) ≡ 0
      → after_change (after_change ch (Add net column1 side1 column2 side2)) (Drop net) ≡ ch
  -- a refused change alters nothing
  pub refused : (change : Change) → change_refused ch change ≢ 0 → after_change ch change ≡ ch
  -- the count told at a gap is that of the nets open there; "a gap outside 1 to one less than the columns has count 0"
  pub counts : (gap : ℕ) → gap_count ch gap ≡ open_at ch.top ch.bottom gap
  pub outside : (gap : ℕ) → (gap ≡ 0) ⊎ (length ch.top ≤ gap) → gap_count ch gap ≡ 0

-- d is the largest of some numbers
pub record LargestOf (numbers : List ℕ) (d : ℕ) : Type 0 where
  pub one : (i : ℕ) × (get_or numbers i 0 ≡ d)
  pub most : (i : ℕ) → get_or numbers i 0 ≤ d

-- A BOARD of n columns, whatever the changes
module _ (n : ℕ) where
  -- the channel after a list of changes
  abbrev pub channel_after : List Change → Channel
  channel_after changes = after_changes (start_channel n) changes

  pub record KeepsCounts : Type 0 where
    -- "starting empty"
    pub empty : (v : ℕ) → v ≢ 0 → pins (start_channel n).top (start_channel n).bottom v ≡ 0
    -- "a fixed number of columns"
    pub columns : (changes : List Change) → length (channel_after changes).top ≡ if_accepted (board_refused n) n 0
    -- a channel of two-pin nets that the router takes
    pub channel : (changes : List Change) → TwoPinChannel (channel_after changes).top (channel_after changes).bottom
    pub takes : (changes : List Change) → TakesChanges (channel_after changes)
    -- calls that keep their promise, on the board that the start left, refused ones among them: the board stands for that channel
    pub stands : (x y : Board) (changes : List Change) → x ≡ board_of (start_channel n) → LeadsTo x changes y → StandsFor (channel_after changes) y
    -- "After any list of changes, refused ones among them, the stored counts are those of the channel as it then is"
    pub counts : (x y : Board) (changes : List Change) → x ≡ board_of (start_channel n) → LeadsTo x changes y
        → (gap : ℕ) → gap < 256 → get_or y.counts gap 0 ≡ open_at (channel_after changes).top (channel_after changes).bottom gap
    -- and its density is the largest of them
    pub dense : (x y : Board) (changes : List Change) → x ≡ board_of (start_channel n) → LeadsTo x changes y
        → LargestOf y.counts (density (channel_after changes).top (channel_after changes).bottom)

-- ALL BOARDS
pub record OnTheDrawingBoard : Type 0 where
  pub refuses : BoardRefuses
  pub keeps : (n : ℕ) → KeepsCounts n
