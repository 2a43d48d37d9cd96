-- `listing::list` meets its contract: the record's refusal, else the listing of its channel.
use Rattle.grid.proofs.Numbers.{passed_on}
use Rattle.listing.proofs.Records.{channel_lists, refused_lists_record, promise}
use Rattle.listing.proofs.list.Goals as goal

pub returns-in_err-n : goal.returns-in_err-n
returns-in_err-n c =
    let a = c.args in
    let r = c.in_err-n.field-0.0 in
    let l = refused_lists_record a.bytes.now r a.text.now c.in_err-n.ensures.number in
    let p = promise a.bytes.now _ _ _ l in
    rw (passed_on _ r c.from_residual.ensures.1)
    (record {
      answer = p.answer;
      number = p.number;
      length = p.size;
      text = p.text;
      counts = l.counts;
    })

pub returns : goal.returns
returns c =
    let a = c.args in
    let e = c.in_ok-n.ensures in
    let l = channel_lists a.bytes.now _ _ _ _ _ _ _ _ e.answer e.number e.top e.bottom c.list_channel.ensures in
    let p = promise a.bytes.now _ _ _ l in
    record {
      answer = p.answer;
      number = p.number;
      length = p.size;
      text = p.text;
      counts = l.counts;
    }
