-- `route` meets its contract: that of `route_within`, with 256 columns.
use Rattle.router.proofs.route.Goals as goal

pub returns : goal.returns
returns c = c.route_within.ensures
