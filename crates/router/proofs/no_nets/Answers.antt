-- `no_nets` meets its contract.
use Rattle.router.specs.Working
use mathlib.Core.Path.{refl}
use Rattle.router.proofs.no_nets.Goals as goal

pub returns : goal.returns
unfolding Working.no_nets
returns c = refl
