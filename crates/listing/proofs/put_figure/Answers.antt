use Rattle.record.proofs.Put.{put_then}
use Rattle.listing.proofs.put_figure.Goals as goal

pub returns : goal.returns
returns c = put_then c.put_bytes.ensures c.put_number.ensures
