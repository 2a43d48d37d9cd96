-- `mark_three` meets its contract, net by net; the first is marked by itself where it is none of the others.
use Rattle.router.proofs.Laws.Sets.{three_marked}
use Rattle.router.proofs.Laws.Lent.{same_marks}
use Rattle.pairs.proofs.Laws.{apart_most, marked_apart}
use mathlib.Core.Logic.{inr}
use mathlib.Core.Path.{sym}
use native.Mathlib.Omega.{arith}
use Rattle.router.proofs.lent.Marks.mark_three.Goals as goal

pub returns : goal.returns
returns c =
    let o = c.args in
    let a = c.apart-a in
    let e1 = c.mark_net.ensures in
    let e2 = c.mark_net-2.ensures in
    let e3 = c.mark_net-3.ensures in
    record {
      marks = λ bu bv bw z.
          let most = apart_most o.u o.v o.w in
          let m = e1.marks (omega (arith, a.ensures, most)) z in
          let m2 = e2.marks bv (m 0 (inr z)) in
          marked_apart o.u o.v o.w (rw (sym a.ensures) (three_marked _ _ _ m m2 (e3.marks bw (m2 0 (inr (m 0 (inr z)))))));
      lent = same_marks (same_marks e1.lent e2.lent) e3.lent;
    }
