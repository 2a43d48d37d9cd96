-- `grid::gaps::after` meets its contract: the nets of the two pins that start and end in the column, of what its callee ensures.
use Rattle.grid.proofs.OpenNets.{on_one, on_two, on_le}
use native.Mathlib.Omega.{arith}
use Rattle.grid.proofs.gaps.after.Goals as goal

pub overflow_add-result : goal.overflow_add-result
overflow_add-result c =
    let a = c.args in
    let s = on_one a.first.now a.c a.p a.q c.if-p-q.true in
    let e = on_one a.last.now a.c a.p a.q c.if-p-q.true in
    omega (arith, s, e, c.from.ensures, c.requires.count.0, c.requires.count.1, on_le a.first.now a.c a.p a.q)

pub overflow_sub-result : goal.overflow_sub-result
overflow_sub-result c =
    let a = c.args in
    let s = on_one a.first.now a.c a.p a.q c.if-p-q.true in
    let e = on_one a.last.now a.c a.p a.q c.if-p-q.true in
    omega (arith, s, e, c.from.ensures, c.from-then-p-q.ensures, c.requires.count.0, c.requires.count.1, on_le a.first.now a.c a.p a.q)

pub returns-then-p-q : goal.returns-then-p-q
returns-then-p-q c =
    let a = c.args in
    let s = on_one a.first.now a.c a.p a.q c.if-p-q.true in
    let e = on_one a.last.now a.c a.p a.q c.if-p-q.true in
    omega (arith, s, e, c.from.ensures, c.from-then-p-q.ensures, c.requires.count.0, c.requires.count.1, on_le a.first.now a.c a.p a.q)

pub overflow_add-result-2 : goal.overflow_add-result-2
overflow_add-result-2 c =
    let a = c.args in
    let s = on_two a.first.now a.c a.p a.q c.if-p-q.false in
    let e = on_two a.last.now a.c a.p a.q c.if-p-q.false in
    omega (arith, s, e, c.from-2.ensures, c.requires.count.0, c.requires.count.1, on_le a.first.now a.c a.p a.q)

pub overflow_add-result-3 : goal.overflow_add-result-3
overflow_add-result-3 c =
    let a = c.args in
    let s = on_two a.first.now a.c a.p a.q c.if-p-q.false in
    let e = on_two a.last.now a.c a.p a.q c.if-p-q.false in
    omega (arith, s, e, c.from-2.ensures, c.from-3.ensures, c.requires.count.0, c.requires.count.1, on_le a.first.now a.c a.p a.q)

pub overflow_sub-result-2 : goal.overflow_sub-result-2
overflow_sub-result-2 c =
    let a = c.args in
    let s = on_two a.first.now a.c a.p a.q c.if-p-q.false in
    let e = on_two a.last.now a.c a.p a.q c.if-p-q.false in
    omega (arith, s, e, c.from-2.ensures, c.from-3.ensures, c.from-4.ensures, c.requires.count.0, c.requires.count.1, on_le a.first.now a.c a.p a.q)

pub overflow_sub-result-3 : goal.overflow_sub-result-3
overflow_sub-result-3 c =
    let a = c.args in
    let s = on_two a.first.now a.c a.p a.q c.if-p-q.false in
    let e = on_two a.last.now a.c a.p a.q c.if-p-q.false in
    omega (arith, s, e, c.from-2.ensures, c.from-3.ensures, c.from-4.ensures, c.from-5.ensures, c.requires.count.0, c.requires.count.1, on_le a.first.now a.c a.p a.q)

pub returns : goal.returns
returns c =
    let a = c.args in
    let s = on_two a.first.now a.c a.p a.q c.if-p-q.false in
    let e = on_two a.last.now a.c a.p a.q c.if-p-q.false in
    omega (arith, s, e, c.from-2.ensures, c.from-3.ensures, c.from-4.ensures, c.from-5.ensures, c.requires.count.0, c.requires.count.1, on_le a.first.now a.c a.p a.q)
