-- `vertical_at` meets its contract.
use borrow.Author.Tests.{lt-ltb, le-ltb}
use Rattle.router.proofs.writer.vertical_at.Goals as goal

pub returns-then-k-a : goal.returns-then-k-a
returns-then-k-a c = rw (lt-ltb _ _ c.if-k-a.true)

pub returns-then-k-b : goal.returns-then-k-b
returns-then-k-b c = rw (le-ltb _ _ c.if-k-a.false, lt-ltb _ _ c.if-k-b.true)

pub returns-else-k-b : goal.returns-else-k-b
returns-else-k-b c = rw (le-ltb _ _ c.if-k-a.false, le-ltb _ _ c.if-k-b.false)
