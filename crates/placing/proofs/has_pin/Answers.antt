-- `placing::has_pin` meets its contract: a net that is found has a pin.
use mathlib.Core.Path.{◌∙◌}
use Rattle.placing.proofs.Search.{found_times}
use Rattle.placing.proofs.has_pin.Goals as goal

pub returns : goal.returns
returns c = c.contains.ensures.value ∙ found_times c.args.net c.args.row.now
