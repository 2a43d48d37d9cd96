-- `checker::points::Point::meet` meets its contract: the three edges follow one after the other, and the track takes its label.
use native.Mathlib.Omega.{arith}
use Rattle.checker.proofs.counting.Counts.{per_net_grown, per_net_mono}
use Rattle.checker.proofs.counting.Positions.{column_at, small_right}
use Rattle.checker.proofs.counting.Step.{next_state}
use Rattle.checker.proofs.points.Point.meet.Goals as goal

pub label_left-nl-requires : goal.label_left-nl-requires
label_left-nl-requires c =
    let p = c.args.self in
    let small = small_right _ _ _ _ (column_at p.column) _ p.row in
    record { labels = c.requires.labels; per_net = per_net_mono _ _ _ c.requires.counted.fits' (omega arith) }

pub label_up-ul-requires : goal.label_up-ul-requires
label_up-ul-requires c =
    let p = c.args.self in
    let small = small_right _ _ _ _ (column_at p.column) _ p.row in
    let l = c.label_left-nl.ensures in
    record { labels_left = l.labels_left; per_net = rw l.begun (per_net_mono _ _ _ c.requires.counted.fits (omega arith)) }

pub label_right-rl-requires : goal.label_right-rl-requires
label_right-rl-requires c =
    let p = c.args.self in
    let small = small_right _ _ _ _ (column_at p.column) _ p.row in
    let u = c.label_up-ul.ensures in
    record {
      labels_up = u.labels_up;
      per_net = per_net_mono _ _ _ (per_net_grown _ _ _ c.requires.counted.fits (rw c.label_left-nl.ensures.begun at u.begins_up.grown)) (omega arith);
    }

pub returns : goal.returns
returns c =
    let p = c.args.self in
    let l = c.label_left-nl.ensures in
    let u = c.label_up-ul.ensures in
    let r = c.label_right-rl.ensures in
    rw (r.joined, u.joined)
    (next_state _ _ _ _ (column_at p.column) _ p.row _ _ _ _ _ _ _ _ _ _ c.requires l.labs r.labels_right l.joins_left (rw l.begun at u.begins_up) r.begins_right)
