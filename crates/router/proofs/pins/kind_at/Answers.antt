-- `kind_at` meets its contract.
use borrow.Author.Tests.{eq-eqb, ne_eqb, lt-ltb, le-ltb, le-leb, lt-leb}
use Rattle.router.proofs.pins.kind_at.Goals as goal

pub returns-then-first-eq0 : goal.returns-then-first-eq0
returns-then-first-eq0 c = rw (eq-eqb _ _ c.if-first-eq0.true)

pub returns-then-c-first : goal.returns-then-c-first
returns-then-c-first c = rw (ne_eqb _ _ c.if-first-eq0.false, lt-leb _ _ c.if-c-first.true)

pub returns-then-c-last : goal.returns-then-c-last
returns-then-c-last c = rw (ne_eqb _ _ c.if-first-eq0.false, le-leb _ _ c.if-c-first.false, lt-ltb _ _ c.if-c-last.true)

pub returns-else-c-last : goal.returns-else-c-last
returns-else-c-last c = rw (ne_eqb _ _ c.if-first-eq0.false, le-leb _ _ c.if-c-first.false, le-ltb _ _ c.if-c-last.false)
