-- A channel on the drawing board is as document 02, Job 11, asks. Assumes nothing.
use Prim.Native.Nat.{ℕ, ◌<◌}
use mathlib.Core.Path.{◌≡◌, sym, ap, subst, ◌∙◌}
use mathlib.Core.List.{List}
use lib.Dec.{eqb}
use lib.ListN.{length, get_or}
use Rattle.grid.specs.Channel.{pins, open_at, density}
use Rattle.grid.proofs.Tests.{eqb-true, eqb-false}
use Rattle.grid.proofs.Answers.{no_later}
use Rattle.grid.proofs.Rows.{rows_fit}
use Rattle.placing.specs.Placing.{place_refused}
use Rattle.board.specs.Changes.{Channel, Change, Add, Drop, drop_refused, change_refused}
use Rattle.board.specs.Board.{Board, board_of, StandsFor, start_channel, LeadsTo}
use Rattle.board.proofs.Channels.{TwoPins, start_columns, start_same, start_short, start_pins, start_two_pins, change_refused_lem, dropped_pins, used_again}
use Rattle.board.proofs.Channels.{added-pins, added_dropped, changes_two_pins, changes_columns, changes_stand}
use Rattle.board.proofs.Stored.{counts_at, counts_of_lem, gap-count, gap_outside, density_stored, density_above}
use Rattle.demands.specs.Table.{First, end, of_added_net, of_dropped_net}
use Rattle.demands.specs.Boards.{BoardRefuses, TakesChanges, LargestOf, channel_after, KeepsCounts, OnTheDrawingBoard}
use Rattle.demands.proofs.Table.{by_test, at_end}
use Rattle.demands.proofs.Lines.{slice_first}
use Rattle.demands.proofs.NewNets.{number-line, new_net_lines}
use Rattle.demands.proofs.Beginnings.{two_pin_channel}

-- THE NUMBERS

module _ (ch : Channel) where
  add_first : length ch.top ≡ length ch.bottom → (net column1 side1 column2 side2 : ℕ)
      → First (of_added_net ch.top ch.bottom net column1 side1 column2 side2) (change_refused ch (Add net column1 side1 column2 side2))
  unfolding change_refused
  add_first even net column1 side1 column2 side2 =
      subst (λ (k : ℕ). First (of_added_net ch.top ch.bottom net column1 side1 column2 side2) k)
      (no_later (place_refused ch.top ch.bottom 0 net column1 side1 column2 side2))
      (new_net_lines ch.top ch.bottom even 0 net column1 side1 column2 side2 0 end at_end)

  drop-first : (net : ℕ) → First (of_dropped_net ch.top ch.bottom net) (change_refused ch (Drop net))
  unfolding change_refused drop_refused
  drop-first net =
      let k = pins ch.top ch.bottom net in
      number-line net _ _ (λ a. by_test (eqb k 0) 24 0 end (eqb-true k 0) (eqb-false k 0) (λ e. at_end))

refuses : BoardRefuses
refuses = record { start = λ columns. slice_first 5 columns 256; add = add_first; drop = drop-first }

-- A CHANNEL of two-pin nets
takes_changes : (ch : Channel) → TwoPins ch → TakesChanges ch
takes_changes ch t = record {
  adds = added-pins ch t;
  drops = dropped_pins ch;
  again = λ net column1 side1 column2 side2 e. used_again ch net e column1 side1 column2 side2;
  undone = added_dropped ch t;
  refused = change_refused_lem ch;
  counts = gap-count ch (rows_fit ch.top ch.bottom t.accepted).same;
  outside = gap_outside ch;
}

-- A BOARD
-- that stands for a channel has its counts
stored_counts : (ch : Channel) (y : Board) → StandsFor ch y → (gap : ℕ) → gap < 256 → get_or y.counts gap 0 ≡ open_at ch.top ch.bottom gap
stored_counts ch y s gap h = ap (λ (l : List ℕ). get_or l gap 0) (counts_of_lem y ch s.board) ∙ counts_at ch gap h

-- whose largest is the channel's density
largest_is_density : (ch : Channel) (y : Board) → StandsFor ch y → LargestOf y.counts (density ch.top ch.bottom)
largest_is_density ch y s =
    subst (λ (l : List ℕ). LargestOf l (density ch.top ch.bottom)) (sym (counts_of_lem y ch s.board))
    (record { one = density_stored ch s.short; most = density_above ch s.same })

-- of n columns, whatever the changes
module _ (n : ℕ) where
  two_pins : (changes : List Change) → TwoPins (channel_after n changes)
  two_pins changes = changes_two_pins (start_channel n) changes (start_two_pins n)

  stands : (x y : Board) (changes : List Change) → x ≡ board_of (start_channel n) → LeadsTo x changes y → StandsFor (channel_after n changes) y
  stands x y changes e =
      changes_stand (start_channel n) x y changes (record { same = start_same n; short = start_short n; board = e })

  keeps : KeepsCounts n
  keeps = record {
    empty = start_pins n;
    columns = λ changes. changes_columns (start_channel n) changes ∙ start_columns n;
    channel = λ changes.
        two_pin_channel (channel_after n changes).top (channel_after n changes).bottom (two_pins changes).accepted (two_pins changes).pairs;
    takes = λ changes. takes_changes (channel_after n changes) (two_pins changes);
    stands = stands;
    counts = λ x y changes e l. stored_counts (channel_after n changes) y (stands x y changes e l);
    dense = λ x y changes e l. largest_is_density (channel_after n changes) y (stands x y changes e l);
  }

-- ALL BOARDS
pub on_the_drawing_board : OnTheDrawingBoard
on_the_drawing_board = record { refuses = refuses; keeps = keeps }
