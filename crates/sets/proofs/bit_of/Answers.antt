-- `sets::bit_of` meets its contract: the mask gives the rest of k by 64, which is that of k % 512.
use mathlib.Core.Path.{◌∙◌}
use native.Mathlib.Omega.{arith}
use Rattle.sets.proofs.Places.{mask_rest}
use Rattle.sets.proofs.bit_of.Goals as goal

pub returns : goal.returns
returns c = mask_rest c.args.k ∙ omega arith
