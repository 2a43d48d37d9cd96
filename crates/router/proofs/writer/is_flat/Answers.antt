-- `is_flat` meets its contract.
use mathlib.Core.Path.{refl}
use Rattle.router.proofs.writer.is_flat.Goals as goal

pub returns : goal.returns
returns c = refl
