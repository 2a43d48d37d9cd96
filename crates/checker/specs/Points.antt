-- What the functions of a column and of a point promise each other, said of the structs of the code.
use Rattle.std.specs.Prelude.{ℕ, List}
use Rattle.checker.specs.declared.meeting.Counts.{Counts}
use Rattle.checker.specs.declared.points.Column.{Column}
use Rattle.checker.specs.declared.points.Point.{Point}
use Rattle.checker.specs.declared.ends.Loose.{Loose}
use Rattle.checker.specs.Working.{Crossings, seen, seen₁, Labs, Labels, Labels₁, Labels₂, Labels₃, JoinsLeft, BeginsUp, BeginsRight, State, CountedTo, Kept, lowest_point}

-- A COLUMN
module _ (c : Column) where
  -- nets only cross from point j up to point k
  abbrev pub CrossingsIn : (j k : ℕ) → Type 0
  CrossingsIn = Crossings c.layout.now c.t c.b c.q

  -- what holds before point j
  abbrev pub StateAt : (j vl : ℕ) (lab : List ℕ) (counts : Counts) → Type 0
  StateAt j vl lab counts = State c.layout.now c.t c.b c.q j vl lab counts.begun counts.joined

  -- what is kept before it
  abbrev pub KeptBefore : (j : ℕ) (s : Loose) → Type 0
  KeptBefore = Kept c.t c.layout.now c.x

  -- the labels of the tracks before it
  abbrev pub LabsBefore : (j : ℕ) (lab : List ℕ) → Type 0
  LabsBefore j = Labs c.layout.now c.t c.b c.q j (seen c.layout.now c.t c.b c.q j)

  -- the counts when the entries below p are met, with the labels before it
  abbrev pub CountedBefore : (j p : ℕ) (counts : Counts) → Type 0
  CountedBefore j p counts = CountedTo c.layout.now (seen c.layout.now c.t c.b c.q j) p counts.begun counts.joined

-- A POINT
module _ (p : Point) where
  -- the lowest net with a loose end there, else 257
  abbrev pub lowest_at : ℕ
  lowest_at = lowest_point p.column.layout.now p.column.t p.column.b p.column.q p.j

  -- the labels before it
  abbrev pub LabelsAt : (vl : ℕ) (lab : List ℕ) → Type 0
  LabelsAt = Labels p.column.layout.now p.column.t p.column.b p.column.q p.j

  -- after its left edge
  abbrev pub LabelsLeft : (vl nl : ℕ) → Type 0
  LabelsLeft = Labels₁ p.column.layout.now p.column.t p.column.b p.column.q p.j

  abbrev pub LabsLeft : (lab : List ℕ) → Type 0
  LabsLeft =
      Labs p.column.layout.now p.column.t p.column.b p.column.q p.j
      (seen₁ p.column.layout.now p.column.t p.column.b p.column.q p.j)

  abbrev pub JoinsOf : (joined joined' : List ℕ) → Type 0
  JoinsOf = JoinsLeft p.column.layout.now p.column.t p.column.b p.column.q p.j

  -- after its upper edge
  abbrev pub LabelsUp : (vl nl ul : ℕ) → Type 0
  LabelsUp = Labels₂ p.column.layout.now p.column.t p.column.b p.column.q p.j

  abbrev pub BeginsUpOf : (begun begun' : List ℕ) → Type 0
  BeginsUpOf = BeginsUp p.column.layout.now p.column.t p.column.b p.column.q p.j

  -- after its right edge
  abbrev pub LabelsRight : (ul rl : ℕ) → Type 0
  LabelsRight = Labels₃ p.column.layout.now p.column.t p.column.b p.column.q p.j

  abbrev pub BeginsRightOf : (begun begun' : List ℕ) → Type 0
  BeginsRightOf = BeginsRight p.column.layout.now p.column.t p.column.b p.column.q p.j
