-- `net_at` meets its contract: past the end of a row stands 0.
use mathlib.Core.Path.{sym}
use lib.ListN.{get_or-eq_default}
use native.Mathlib.Omega.{arith}
use Rattle.router.proofs.columns.net_at.Goals as goal

pub returns-then-c-row : goal.returns-then-c-row
returns-then-c-row c = record {
  is_net = c.net_of.ensures.0;
  pin = c.net_of.ensures.1;
}

pub returns : goal.returns
returns c = record {
  is_net = omega arith;
  pin = λ b. sym (get_or-eq_default c.args.row.now 0 c.if-c-row.false);
}
