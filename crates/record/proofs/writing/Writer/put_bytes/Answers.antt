use native.Mathlib.Omega.{arith}
use mathlib.Core.Path.{refl}
use Rattle.std.proofs.lemmas.Grind.{common_steps}
use Rattle.record.specs.Writing.{overwritten}
use Rattle.record.proofs.writing.Writer.put_bytes.Goals as goal

pub returns : goal.returns
unfolding overwritten
returns c = record {
  holds = grind (arith, common_steps);
  ends = refl;
  fits = c.requires.room;
  keeps = grind (arith, common_steps);
  same = refl;
}
