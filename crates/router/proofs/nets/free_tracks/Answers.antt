-- `free_tracks` meets its contract, by `free_two`.
use Rattle.router.proofs.Laws.Sets.{free_two}
use Rattle.router.proofs.nets.free_tracks.Goals as goal

pub returns : goal.returns
returns c = λ t a l z f. free_two t a c.args.free.now l z f c.lowest_member-f.result c.above-g.result c.lowest_member-f.ensures c.above-g.ensures
