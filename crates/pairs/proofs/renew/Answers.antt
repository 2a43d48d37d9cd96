-- `renew` meets its contract.
use Rattle.pairs.proofs.Renewal.{renewed_by, tells_all}
use Rattle.pairs.proofs.renew.Goals as goal

pub returns : goal.returns
returns c =
    let x = c.ending in
    let y = c.ending-2 in
    let u = c.unpair-g in
    let v = c.unpair-h in
    let w = c.pair_up in
    let last = c.args.last.now in
    let m = c.args.mates.now in
    let em = renewed_by last m _ _ w.new.mates c.args.c c.args.p c.args.q c.args.d c.args.s _ _ x.ensures y.ensures u.ensures.mates v.ensures.mates w.ensures in record {
      mates = em;
      lone = tells_all last c.args.many.now m _ w.new.mates c.args.c c.args.a c.args.p c.args.q c.args.d c.args.s _ _ _ _ x.ensures y.ensures u.ensures.mates em u.ensures.former v.ensures.former
          c.args.lone.now _ _ _ c.mark_three.ensures c.mark_three-2.ensures c.mark.ensures;
    }
