-- Document 01, "Channels to try": the cases A to K, each as the definitions have it.
use Rattle.std.specs.Prelude.{ℕ, ◌≡◌, refl, List, [], ◌∷◌, map}
use Rattle.grid.specs.Nets
use Rattle.grid.specs.Channel
use Rattle.grid.specs.Segments
use Rattle.router.specs.declared.Figures.{Figures}
use Rattle.sweep.specs.Tracks
use Rattle.sweep.specs.Rules
use Rattle.sweep.specs.TwoPin
use Rattle.sweep.specs.ManyPin
use Rattle.sweep.specs.Pairs
use Rattle.sweep.specs.ThreePin
use Rattle.sweep.specs.Drawing
use Rattle.router.specs.Answers
use Rattle.grid.specs.Refusals.{number_of}
use Rattle.router.specs.Answers.{layout, answer, figures_of}

-- a channel, the entries of the slice that a routing call is lent, and what it reports: number, d, t, w
pub record Case : Type 0 where
  pub top : List ℕ
  pub bottom : List ℕ
  pub lent : ℕ
  pub number : ℕ
  pub figures : Figures

abbrev case : (top bottom : List ℕ) (lent number d t w : ℕ) → Case
case x y lent number d t w = record { top = x; bottom = y; lent = lent; number = number; figures = record { density = d; tracks = t; width = w } }

-- A to K; of J both channels, of D and K the slices of 15 and 14. Those that are drawn have a slice of just the entries that they need
unfoldable pub cases : List Case
cases =
    case [] [] 0 0 0 0 0
    ∷ case (5 ∷ []) (5 ∷ []) 1 0 0 0 1
    ∷ case (1 ∷ 1 ∷ []) (0 ∷ 0 ∷ []) 6 0 1 1 2
    ∷ case (1 ∷ 2 ∷ []) (2 ∷ 1 ∷ []) 15 0 2 2 3
    ∷ case (1 ∷ 1 ∷ 0 ∷ []) (0 ∷ 2 ∷ 2 ∷ []) 9 0 1 1 3
    ∷ case (1 ∷ 1 ∷ 1 ∷ []) (0 ∷ 0 ∷ 0 ∷ []) 9 0 1 1 3
    ∷ case (1 ∷ 1 ∷ 1 ∷ []) (2 ∷ 2 ∷ 2 ∷ []) 21 0 2 3 3
    ∷ case (1 ∷ 2 ∷ 1 ∷ []) (2 ∷ 1 ∷ 2 ∷ []) 28 0 2 3 4
    ∷ case (1 ∷ []) (0 ∷ []) 100 7 0 0 0
    ∷ case (257 ∷ 257 ∷ []) (0 ∷ 0 ∷ []) 100 6 0 0 0
    ∷ case (256 ∷ 256 ∷ []) (0 ∷ 0 ∷ []) 6 0 1 1 2
    ∷ case (1 ∷ 2 ∷ []) (2 ∷ 1 ∷ []) 14 8 0 0 0
    ∷ []

-- what the definitions say of a case's channel and slice
unfoldable pub computed : Case → Case
computed c =
    let x = answer c.top c.bottom 256 c.lent in
    record { top = c.top; bottom = c.bottom; lent = c.lent; number = number_of x; figures = figures_of x }

-- Naming this on an `unfolding` line opens every definition of the sweeps, so that a closed channel computes
unfoldable pub computing : Unit {0}
unfolding Channel.times Channel.over Channel.sum Channel.count Channel.left Channel.right Channel.is_open Channel.open_at Channel.largest Channel.density
    Channel.pins Channel.pins_within Channel.first_two_at Channel.first_two_to Channel.family Nets.is_pinned Nets.last_to Nets.last_column Channel.tracks Channel.rows_refused Tracks.strands_from Tracks.strands Tracks.first Tracks.last Tracks.lowest Tracks.second
    Tracks.highest Tracks.many Tracks.lesser Tracks.lowest_net Tracks.give Tracks.clear Tracks.after Segments.segment Tracks.values_from Tracks.verticals
    Rules.kind_of Rules.both_end TwoPin.join_or TwoPin.by_kinds TwoPin.choose_two ManyPin.top_continues ManyPin.bottom_continues ManyPin.both_continue
    ManyPin.by_kinds ManyPin.both_pins ManyPin.choose_many Pairs.no_mates Pairs.unpair Pairs.pair_up Pairs.latest_to ThreePin.three_way ThreePin.either_ends ThreePin.join_else ThreePin.both_go_on
    ThreePin.top_starts ThreePin.bottom_starts ThreePin.both_start ThreePin.top_goes_on ThreePin.bottom_goes_on ThreePin.by_kinds ThreePin.choose_three Drawing.free_of Drawing.later Drawing.pin_at Drawing.extended_at Drawing.wide_at Drawing.extended_net
    Drawing.net_to_join Drawing.joint_of Drawing.lone_double Drawing.latest_double Drawing.other_double Drawing.double_of Drawing.end_of Drawing.ending_at Drawing.mates_after Drawing.move_of
    Drawing.empty_at Drawing.empty_column Drawing.move Drawing.state_by Drawing.move_at Drawing.drawn_by Drawing.remains Drawing.rest Drawing.joining Drawing.added Drawing.width_by
    Drawing.layout_by Answers.slice_length Answers.refused Answers.figures Answers.answer
computing = tt

-- every case is as the definitions have it
pub cases_hold : map computed cases ≡ cases
unfolding computing cases computed
cases_hold = refl

-- the layout of case D, column by column
pub case_d_lem : layout (1 ∷ 2 ∷ []) (2 ∷ 1 ∷ []) ≡ 2 ∷ 0 ∷ 1 ∷ 2 ∷ 1 ∷ 1 ∷ 2 ∷ 2 ∷ 1 ∷ 1 ∷ 0 ∷ 1 ∷ 0 ∷ 0 ∷ 0 ∷ []
unfolding computing
case_d_lem = refl
