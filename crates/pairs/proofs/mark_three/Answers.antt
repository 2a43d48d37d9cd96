-- `mark_three` meets its contract, net by net; the first is marked by itself where it is none of the others.
use Rattle.pairs.proofs.Laws.{apart_most, marked_apart}
use Rattle.pairs.proofs.Renewal.{three_told}
use mathlib.Core.Path.{sym}
use native.Mathlib.Omega.{arith}
use Rattle.pairs.proofs.mark_three.Goals as goal

pub returns : goal.returns
returns c h k l z =
    let a = c.apart in
    marked_apart c.args.u c.args.v c.args.w
    (rw (sym a.ensures) (three_told c.args.many.now c.args.mates.now c.args.lone.now _ _ _ a.result c.args.v c.args.w z
    (c.mark.ensures (omega (arith, a.ensures, apart_most c.args.u c.args.v c.args.w, h))) (c.mark-2.ensures k) (c.mark-3.ensures l)))
