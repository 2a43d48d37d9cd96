-- The arrays that the router's structs lend, and what they hold, in the words of `Working`. Serves private functions alone.
use Rattle.std.specs.Prelude.{ℕ, ◌≡◌, List}
use Rattle.router.specs.declared.lent.Plan.{Plan}
use Rattle.router.specs.declared.lent.Tracks.{Tracks}
use Rattle.router.specs.declared.lent.Strands.{Strands}
use Rattle.router.specs.declared.lent.Marks.{Marks}
use Rattle.router.specs.declared.lent.Mates.{Mates}
use Rattle.router.specs.declared.lent.Sweep.{Sweep}
use Rattle.router.specs.Working.{tracks_in, Holds, Ready, Keeps, Mated, AtGap}

-- THE SAME ARRAYS: y lends those that x does, whatever they hold
pub record SameTracks (x y : Tracks) : Type 0 where
  pub nets : y.nets.ghost_name ≡ x.nets.ghost_name
  pub free : y.free.ghost_name ≡ x.free.ghost_name

pub record SameStrands (x y : Strands) : Type 0 where
  pub tracks : SameTracks x.tracks y.tracks
  pub low : y.low.ghost_name ≡ x.low.ghost_name
  pub high : y.high.ghost_name ≡ x.high.ghost_name
  pub many : y.many.ghost_name ≡ x.many.ghost_name

pub record SameMarks (x y : Marks) : Type 0 where
  pub extended : y.extended.ghost_name ≡ x.extended.ghost_name
  pub wide : y.wide.ghost_name ≡ x.wide.ghost_name

pub record SameMates (x y : Mates) : Type 0 where
  pub mates : y.mates.ghost_name ≡ x.mates.ghost_name
  pub lone : y.lone.ghost_name ≡ x.lone.ghost_name

-- and the plan is the same
pub record SameSweep (x y : Sweep) : Type 0 where
  pub plan : y.plan ≡ x.plan
  pub strands : SameStrands x.strands y.strands
  pub marks : SameMarks x.marks y.marks
  pub mates : SameMates x.mates y.mates

-- WHAT THEY HOLD
-- the tracks 1 to t
abbrev pub on : ℕ → Strands → List ℕ
on t s = tracks_in t s.tracks.nets.now

-- the t tracks tr, with each net's strands and the free tracks
abbrev pub Held : ℕ → Strands → List ℕ → Type 0
Held t s tr = Holds t tr s.tracks.nets.now s.tracks.free.now s.low.now s.high.now s.many.now

-- what the sweep of a channel goes by
abbrev pub Planned : (top bottom : List ℕ) → Plan → Type 0
Planned top bottom p = Ready top bottom p.first.now p.last.now p.t p.family

-- by a plan, the tracks tr in gap c, with the nets marked as they are there
abbrev pub Keeping : Plan → (c : ℕ) (tr : List ℕ) → Sweep → Type 0
Keeping p c tr s =
    Keeps p.last.now p.t p.family c tr s.strands.tracks.nets.now s.strands.tracks.free.now s.strands.low.now s.strands.high.now s.strands.many.now
    s.marks.extended.now s.marks.wide.now

-- the mates m
abbrev pub Mating : Plan → (m : List ℕ) → Sweep → Type 0
Mating p m s = Mated p.family m s.strands.many.now s.mates.mates.now s.mates.lone.now

-- gap c of the sweep
abbrev pub At : (top bottom : List ℕ) → Plan → (c : ℕ) → Sweep → Type 0
At top bottom p c s =
    AtGap top bottom p.last.now p.t p.family c s.strands.tracks.nets.now s.strands.tracks.free.now s.strands.low.now s.strands.high.now
    s.strands.many.now s.marks.extended.now s.marks.wide.now s.mates.mates.now s.mates.lone.now
