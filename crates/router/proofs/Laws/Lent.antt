-- Arrays that are the same as others are the same as those.
use mathlib.Core.Path.{◌∙◌}
use Rattle.router.specs.declared.lent.Strands.{Strands}
use Rattle.router.specs.declared.lent.Marks.{Marks}
use Rattle.router.specs.declared.lent.Mates.{Mates}
use Rattle.router.specs.declared.lent.Sweep.{Sweep}
use Rattle.router.specs.Lent.{SameStrands, SameMarks, SameMates, SameSweep}

pub same_strands : {x y z : Strands} → SameStrands x y → SameStrands y z → SameStrands x z
same_strands p q = record {
  tracks = record { nets = q.tracks.nets ∙ p.tracks.nets; free = q.tracks.free ∙ p.tracks.free };
  low = q.low ∙ p.low;
  high = q.high ∙ p.high;
  many = q.many ∙ p.many;
}

pub same_marks : {x y z : Marks} → SameMarks x y → SameMarks y z → SameMarks x z
same_marks p q = record { extended = q.extended ∙ p.extended; wide = q.wide ∙ p.wide }

pub same_mates : {x y z : Mates} → SameMates x y → SameMates y z → SameMates x z
same_mates p q = record { mates = q.mates ∙ p.mates; lone = q.lone ∙ p.lone }

pub same_sweep : {x y z : Sweep} → SameSweep x y → SameSweep y z → SameSweep x z
same_sweep p q = record {
  plan = q.plan ∙ p.plan;
  strands = same_strands p.strands q.strands;
  marks = same_marks p.marks q.marks;
  mates = same_mates p.mates q.mates;
}
