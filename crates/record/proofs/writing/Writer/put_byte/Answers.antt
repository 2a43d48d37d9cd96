use native.Mathlib.Omega.{arith}
use mathlib.Core.Path.{refl}
use lib.ListN.{length-set}
use Rattle.record.proofs.Put.{over_one}
use Rattle.record.proofs.writing.Writer.put_byte.Goals as goal

pub returns : goal.returns
returns c = record {
  holds = over_one _ _ _ (omega (arith, c.requires.room));
  ends = refl;
  fits = omega (arith, c.requires.room);
  keeps = length-set _ _ _;
  same = refl;
}
