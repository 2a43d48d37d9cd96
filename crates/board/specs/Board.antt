-- Document 02, Job 11, "A channel on the drawing board": the board that stands for a channel, and what each call answers and leaves. As in Job 10 a call is
-- given the board "as the call before left it"; of made-up boards nothing is promised but that the call stops, and that a refused one changes nothing.
use Rattle.std.specs.Prelude.{ℕ, ◌≤◌, ◌≡◌, ◌≢◌, ◌&&◌, List, [], ◌∷◌, ltb, length}
use Rattle.grid.specs.Channel.{pick, open_at}
use Rattle.grid.specs.Nets.{from}
use Rattle.grid.specs.Places.{padded}
use Rattle.grid.specs.Refusals.{if_accepted}
use Rattle.board.specs.Changes.{Channel, empty_channel, Change, change_refused, after_change}

-- THE BOARD that the caller holds: the number of columns, the rows, and the count at each gap
pub record Board : Type 0 where
  pub columns : ℕ
  pub top : List ℕ
  pub bottom : List ℕ
  pub counts : List ℕ

-- the board of these
abbrev pub board_with : (columns : ℕ) (top bottom counts : List ℕ) → Board
board_with columns top bottom counts = record { columns = columns; top = top; bottom = bottom; counts = counts }

-- "the stored counts are those of the channel": at place g the count at gap g, which is 0 where there is no gap
unfoldable pub counts_of : Channel → List ℕ
counts_of ch = from (open_at ch.top ch.bottom) 0 256

-- THE BOARD THAT STANDS FOR A CHANNEL
unfoldable pub board_of : Channel → Board
board_of ch = board_with (length ch.top) (padded ch.top) (padded ch.bottom) (counts_of ch)

-- the channel has two rows of one length, up to 256 columns
pub record StandsFor (ch : Channel) (x : Board) : Type 0 where
  pub same : length ch.top ≡ length ch.bottom
  pub short : length ch.top ≤ 256
  pub board : x ≡ board_of ch

-- START: "More than 256 columns is a 5"
abbrev pub board_refused : (columns : ℕ) → ℕ
board_refused columns = pick (ltb 256 columns) 5 0

-- the channel then: "starting empty"; a refused start leaves one without columns
abbrev pub start_channel : (columns : ℕ) → Channel
start_channel columns = empty_channel (if_accepted (board_refused columns) columns 0)

-- A CHANGE of a channel: r is the number of its refusal, and y the board then
pub record Answers (ch : Channel) (change : Change) (r : ℕ) (y : Board) : Type 0 where
  pub number : r ≡ change_refused ch change
  pub board : y ≡ board_of (after_change ch change)

-- THE PROMISE of a call that makes a change, from the board x to the board y with the answer r
pub record Makes (change : Change) (r : ℕ) (x y : Board) : Type 0 where
  -- where the board stands for a channel
  pub answers : (ch : Channel) → StandsFor ch x → Answers ch change r y
  -- a refused change leaves the board as it was, whatever it stands for
  pub kept : r ≢ 0 → y ≡ x

-- THE COUNT AT A GAP; "a gap outside 1 to one less than the columns has count 0"
abbrev pub gap_count : Channel → (gap : ℕ) → ℕ
gap_count ch gap = pick (ltb 0 gap && ltb gap (length ch.top)) (open_at ch.top ch.bottom gap) 0

-- WHAT CALLS WITH THIS PROMISE LEAVE, one change after the other: from the board x to the board y. Each is given what the one before left
pub data LeadsTo : Board → List Change → Board → Type 0 where
  stays : (x : Board) → LeadsTo x [] x
  goes : (x x' y : Board) (change : Change) (r : ℕ) (changes : List Change) → Makes change r x x' → LeadsTo x' changes y → LeadsTo x (change ∷ changes) y
