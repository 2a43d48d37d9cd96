-- `checker::entries::stranger` meets its contract: each way out is a case of `unknown`.
use Rattle.grid.proofs.Tests.{eq-eqb, ne_eqb, lt-ltb, le-ltb}
use Rattle.checker.specs.Working.{unknown}
use Rattle.checker.proofs.entries.stranger.Goals as goal

pub returns-then-e-gt256 : goal.returns-then-e-gt256
unfolding unknown
returns-then-e-gt256 c = rw (ne_eqb c.args.e 0 c.if-e-ne0.true, lt-ltb 256 c.args.e c.if-e-gt256.true)

pub returns-else-e-gt256 : goal.returns-else-e-gt256
unfolding unknown
returns-else-e-gt256 c = rw (c.from.ensures, ne_eqb c.args.e 0 c.if-e-ne0.true, le-ltb 256 c.args.e c.if-e-gt256.false)

pub returns-else-e-ne0 : goal.returns-else-e-ne0
unfolding unknown
returns-else-e-ne0 c = rw (eq-eqb c.args.e 0 c.if-e-ne0.false)
