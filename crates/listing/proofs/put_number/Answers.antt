use Rattle.listing.proofs.Lines.{number_small, small_room}
use Rattle.listing.proofs.put_number.Goals as goal

pub put_byte-requires : goal.put_byte-requires
put_byte-requires c = small_room _ c.if-n-lt10.true c.requires

pub returns-then-n-lt10 : goal.returns-then-n-lt10
returns-then-n-lt10 c = number_small _ c.if-n-lt10.true c.put_byte.ensures
