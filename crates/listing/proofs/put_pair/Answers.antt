use Rattle.listing.proofs.Lines.{number_pair, pair_room}
use Rattle.listing.proofs.put_pair.Goals as goal

pub put_bytes-requires : goal.put_bytes-requires
put_bytes-requires c = pair_room _ c.requires.n_at_least c.requires.n_bound c.requires.room

pub returns : goal.returns
returns c = number_pair _ c.requires.n_at_least c.requires.n_bound c.put_bytes.ensures
