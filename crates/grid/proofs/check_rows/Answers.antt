-- `grid::check_rows` meets its contract: of what `checked` ensures.
use Rattle.grid.proofs.Answers.{rows_promise}
use Rattle.grid.proofs.check_rows.Goals as goal

pub returns : goal.returns
returns c =
    let a = c.args in
    let e = c.checked.ensures.answer in
    record {
      answer = e;
      number = (rows_promise a.top.now a.bottom.now a.most _ e).0;
      figures = (rows_promise a.top.now a.bottom.now a.most _ e).1;
    }
