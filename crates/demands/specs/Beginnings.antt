-- Document 02, Job 9, "Same beginning, same drawing": "For channels of two-pin nets, show that two of equal density whose first k columns agree have the same
-- first k columns in their drawings, for all k up to the shorter channel's columns." Of the columns added after column n nothing is said.
use Rattle.std.specs.Prelude.{ℕ, ◌+◌, ◌*◌, ◌≤◌, min, ◌≡◌, List, length, take}
use Rattle.grid.specs.Refusals.{number_of}
use Rattle.grid.specs.Channel.{density, tracks}
use Rattle.router.specs.Answers.{layout}
use Rattle.router.specs.Answers as routing
use Rattle.demands.specs.Table.{LetsThrough, end, of_rows}
use Rattle.demands.specs.Tracks.{PairsOnly}

-- A CHANNEL whose rows the table lets through, "of two-pin nets". With larger nets the claim is false. Top 1 1 1 over bottom 2 2 1 and 1 1 2 over 2 2 2 have
-- density 2, three tracks by the rules for many-pin nets and the same first two columns; in the second column of the one net 2 ends and net 1 goes on, in the
-- other net 1 ends and net 2 goes on, and they are drawn differently. So are 1 0 1 over 2 1 2 and 1 0 2 over 2 1 2, where the largest net has three pins
pub record TwoPinChannel (top bottom : List ℕ) : Type 0 where
  pub accepted : LetsThrough (of_rows top bottom 256 end)
  pub pairs : PairsOnly top bottom

-- TWO OF THEM
pub record BeginAlike (top bottom top' bottom' : List ℕ) (k : ℕ) : Type 0 where
  pub one : TwoPinChannel top bottom
  pub other : TwoPinChannel top' bottom'
  -- "of equal density"
  pub dense : density top bottom ≡ density top' bottom'
  -- "whose first k columns agree"
  pub tops : take k top ≡ take k top'
  pub bottoms : take k bottom ≡ take k bottom'
  -- "for all k up to the shorter channel's columns"
  pub within : k ≤ min (length top) (length top')

-- the entries of the first k columns of a drawing on t tracks, 2t + 1 for each
abbrev pub first_columns : (k t : ℕ) → List ℕ → List ℕ
first_columns k t D = take (k * (2 * t + 1)) D

-- THEIR DRAWINGS
pub record DrawnAlike (top bottom top' bottom' : List ℕ) (k : ℕ) : Type 0 where
  -- have as many tracks
  pub same_tracks : tracks top bottom ≡ tracks top' bottom'
  -- and "the same first k columns", entry by entry
  pub columns : first_columns k (tracks top bottom) (layout top bottom) ≡ first_columns k (tracks top' bottom') (layout top' bottom')
  -- none of which is missing
  pub all : length (first_columns k (tracks top bottom) (layout top bottom)) ≡ k * (2 * tracks top bottom + 1)
  -- so two routing calls that draw leave the same there, whatever their limits of columns and what their slices held
  pub slices : (most most' : ℕ) (old old' : List ℕ) → number_of (routing.answer top bottom most (length old)) ≡ 0
      → number_of (routing.answer top' bottom' most' (length old')) ≡ 0
      → first_columns k (tracks top bottom) (routing.written top bottom most old)
      ≡ first_columns k (tracks top' bottom') (routing.written top' bottom' most' old')

-- ALL PAIRS OF CHANNELS
abbrev pub SameBeginning : Type 0
SameBeginning = (top bottom top' bottom' : List ℕ) (k : ℕ) → BeginAlike top bottom top' bottom' k → DrawnAlike top bottom top' bottom' k
