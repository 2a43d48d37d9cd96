-- `checker::ends::alone_net` meets its contract: the entry's net if it is alone, else 257.
use mathlib.Core.Path.{sym, ◌∙◌}
use Rattle.checker.specs.Working.{alone_net}
use Rattle.checker.proofs.ends.alone_net.Goals as goal

pub returns-then-is_alone : goal.returns-then-is_alone
unfolding alone_net
returns-then-is_alone c = rw (sym c.is_alone.ensures ∙ c.if-is_alone.true)

pub returns-else-is_alone : goal.returns-else-is_alone
unfolding alone_net
returns-else-is_alone c = rw (sym c.is_alone.ensures ∙ c.if-is_alone.false)
