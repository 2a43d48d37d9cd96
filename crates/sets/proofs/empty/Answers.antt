-- `sets::empty` meets its contract: the words are 0.
use lib.ListN.{replicate}
use Rattle.sets.proofs.Members.{none_member, get_or_zeros}
use Rattle.sets.proofs.empty.Goals as goal

pub returns : goal.returns
returns c = none_member (replicate 8 0) (λ w. get_or_zeros 8 w)
