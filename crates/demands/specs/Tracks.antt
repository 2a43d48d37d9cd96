-- The third demand, whole: "a single claim about the whole list of columns and about all solutions of the channel".
use Rattle.std.specs.Prelude.{ℕ, ◌+◌, ◌*◌, ◌-◌, ◌/◌, ◌≤◌, min, ◌≡◌, ◌≢◌, ◌⊎◌, ◌↔◌, List, ◌++◌, length, drop, get_or}
use Rattle.grid.specs.Refusals.{number_of}
use Rattle.grid.specs.Channel.{pins, left, density, tracks}
use Rattle.grid.specs.Grid.{Wiring, Solution}
use Rattle.grid.specs.Answers as counting
use Rattle.router.specs.Answers.{width, layout}
use Rattle.router.specs.Answers as routing
use Rattle.record.specs.Record.{top_row, bottom_row}
use Rattle.listing.specs.Text.{drawing_text}
use Rattle.listing.specs.Listing as listing
use Rattle.demands.specs.Table.{LetsThrough, end, of_record, of_rows, of_layout}

-- THREE KINDS OF CHANNELS, by their nets, the numbers other than 0
-- "each net has two pins"
abbrev pub PairsOnly : (top bottom : List ℕ) → Type 0
PairsOnly top bottom = (v : ℕ) → v ≢ 0 → (pins top bottom v ≡ 0) ⊎ (pins top bottom v ≡ 2)

-- net v has three pins, "its first two pins in one column", column c + 1: the columns 1 to c have none of it
abbrev pub FirstTwo : (top bottom : List ℕ) (v c : ℕ) → Type 0
FirstTwo top bottom v c = (pins top bottom v ≡ 3) × (get_or top c 0 ≡ v) × (get_or bottom c 0 ≡ v) × (left top bottom c v ≡ 0)

-- document 02, Job 3: "channels whose largest net has three pins, none of these nets having its first two pins in one column"
pub record ThreesAtMost (top bottom : List ℕ) : Type 0 where
  pub three : (v : ℕ) × (v ≢ 0) × (pins top bottom v ≡ 3)
  pub most : (v : ℕ) → v ≢ 0 → pins top bottom v ≤ 3
  pub apart : (v c : ℕ) → v ≢ 0 → FirstTwo top bottom v c → ⊥

-- "the other channels with a net of three or more pins": a net has four or more, or one of three has its first two in one column
pub data Others (top bottom : List ℕ) : Type 0 where
  four : (v : ℕ) → v ≢ 0 → 4 ≤ pins top bottom v → Others top bottom
  first_two : (v c : ℕ) → v ≢ 0 → FirstTwo top bottom v c → Others top bottom

-- A CHANNEL whose rows the table lets through
pub record ChannelDrawn (top bottom : List ℕ) : Type 0 where
  -- the drawing is a solution with the tracks and the width reported
  pub solution : Solution top bottom (width top bottom) (tracks top bottom) (layout top bottom)
  -- with two-pin nets only the drawing has d tracks, and no solution of any width, whoever made it, has fewer
  pub pairs : PairsOnly top bottom → tracks top bottom ≡ density top bottom
  pub fewest : PairsOnly top bottom → (w t : ℕ) (D : List ℕ) → Solution top bottom w t D → tracks top bottom ≤ t
  -- nor has one of document 01's drawings, loose ends or not
  pub fewest_wiring : PairsOnly top bottom → (w t : ℕ) (D : List ℕ) → Wiring top bottom w t D → tracks top bottom ≤ t
  -- where the largest net has three pins, as above: document 02, Job 3, "on 3d/2 tracks rounded down"
  pub threes : ThreesAtMost top bottom → tracks top bottom ≡ 3 * density top bottom / 2
  -- "else 2d - 1"; document 02, Job 3: "The limit of 2d - 1 then concerns the other channels with a net of three or more pins"
  pub more : Others top bottom → tracks top bottom ≡ 2 * density top bottom - 1
  -- the channel is of one of the three kinds
  pub one : PairsOnly top bottom ⊎ (ThreesAtMost top bottom ⊎ Others top bottom)
  -- n columns, and added ones: "At most d/2, rounded down", with two-pin nets only
  pub covers : length top ≤ width top bottom
  pub added_pairs : PairsOnly top bottom → width top bottom ≤ length top + density top bottom / 2
  -- where the largest net has three pins: document 02, Job 3, "At most half the tracks, rounded down, are added as columns"
  pub added_threes : ThreesAtMost top bottom → width top bottom ≤ length top + 3 * density top bottom / 2 / 2
  -- with the others: "at most d - 1"
  pub added_more : Others top bottom → width top bottom ≤ length top + (density top bottom - 1)
  -- the densities reported are the d of the definition: the row check's, alone and with the net facts, and the density call's
  pub rows_density : (most : ℕ) → number_of (counting.row_check top bottom most) ≡ 0 → (counting.size_of (counting.row_check top bottom most)).density ≡ density top bottom
  pub facts_density : (most : ℕ) → number_of (counting.facts_check top bottom most) ≡ 0
      → (counting.size_of (counting.rows_of (counting.facts_check top bottom most))).density ≡ density top bottom
  pub counted_density : counting.count_density (counting.density_count top bottom) ≡ density top bottom

-- ROUTING, with a limit of columns `most` (256; 64 in `knee`; one over 256 stands for 256) and a slice that held `old`: it draws exactly when the table lets the call through
pub record Routes (top bottom : List ℕ) (most : ℕ) (old : List ℕ) : Type 0 where
  pub exactly : (number_of (routing.answer top bottom most (length old)) ≡ 0) ↔ LetsThrough (of_rows top bottom (min most 256) (of_layout top bottom (length old)))
  -- then it reports the density, tracks and width of the channel, and leaves the drawing in front of the old contents
  pub reports : number_of (routing.answer top bottom most (length old)) ≡ 0
      → ((routing.figures_of (routing.answer top bottom most (length old))).density ≡ density top bottom)
      × ((routing.figures_of (routing.answer top bottom most (length old))).tracks ≡ tracks top bottom)
      × ((routing.figures_of (routing.answer top bottom most (length old))).width ≡ width top bottom)
  pub draws : number_of (routing.answer top bottom most (length old)) ≡ 0
      → routing.written top bottom most old ≡ layout top bottom ++ drop (length (layout top bottom)) old
  pub keeps : number_of (routing.answer top bottom most (length old)) ≢ 0 → routing.written top bottom most old ≡ old

-- THE LISTING of a record: it lists exactly when the table lets the call through, and then the channel's figures and the columns of its drawing
pub record ListsRecord (s : List ℕ) : Type 0 where
  pub exactly : (number_of (listing.listed s) ≡ 0) ↔ LetsThrough (of_record s (of_rows (top_row s) (bottom_row s) 64 end))
  pub text : listing.text_of s
      ≡ drawing_text (density (top_row s) (bottom_row s)) (tracks (top_row s) (bottom_row s)) (width (top_row s) (bottom_row s)) (layout (top_row s) (bottom_row s))
  pub reports : number_of (listing.listed s) ≡ 0 → ChannelDrawn (top_row s) (bottom_row s)

-- THE THIRD DEMAND
pub record ThirdDemand : Type 0 where
  pub channels : (top bottom : List ℕ) → LetsThrough (of_rows top bottom 256 end) → ChannelDrawn top bottom
  pub routes : (top bottom : List ℕ) (most : ℕ) (old : List ℕ) → Routes top bottom most old
  pub lists : (s : List ℕ) → ListsRecord s
