-- `vertical_of_two` meets its contract.
use borrow.Author.Tests.{lt-ltb, le-ltb}
use Rattle.router.proofs.writer.vertical_of_two.Goals as goal

pub returns-then-k-a : goal.returns-then-k-a
returns-then-k-a c = rw (lt-ltb _ _ c.if-k-a.true)

pub returns-else-k-a : goal.returns-else-k-a
returns-else-k-a c = rw (le-ltb _ _ c.if-k-a.false)
