-- `no_tracks` meets its contract.
use Rattle.router.specs.Working
use mathlib.Core.Path.{refl}
use Rattle.router.proofs.no_tracks.Goals as goal

pub returns : goal.returns
unfolding Working.blank
returns c = refl
