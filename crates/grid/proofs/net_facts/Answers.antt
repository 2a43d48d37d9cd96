-- `grid::net_facts` meets its contract: of what `checked` answers and leaves in the tables.
use mathlib.Core.Path.{◌∙◌}
use Rattle.grid.proofs.Numbers.{passed_on}
use Rattle.grid.proofs.Answers.{facts_refused, facts_told, rows_promised, number_promised, table_promised, figures_promised}
use Rattle.grid.proofs.net_facts.Goals as goal

pub returns-in_err-size : goal.returns-in_err-size
returns-in_err-size c =
    let a = c.args in
    let e = c.in_err-size.field-0.0 in
    let p = passed_on _ e c.from_residual.ensures.1 ∙ facts_refused a.top.now a.bottom.now a.most e c.in_err-size.ensures.answer in
    let table = table_promised a.top.now a.bottom.now a.most _ p in
    record {
      answer = p;
      rows = rows_promised a.top.now a.bottom.now a.most _ p;
      first = table (λ f. f.first);
      last = table (λ f. f.last);
      pins = table (λ f. f.pins);
      number = number_promised a.top.now a.bottom.now a.most _ p;
      figures = figures_promised a.top.now a.bottom.now a.most _ p;
    }

pub returns : goal.returns
returns c =
    let a = c.args in
    let p = facts_told a.top.now a.bottom.now a.most _ _ _ _ c.in_ok-size.ensures.answer c.in_ok-size.ensures.tables in
    let table = table_promised a.top.now a.bottom.now a.most _ p in
    record {
      answer = p;
      rows = rows_promised a.top.now a.bottom.now a.most _ p;
      first = table (λ f. f.first);
      last = table (λ f. f.last);
      pins = table (λ f. f.pins);
      number = number_promised a.top.now a.bottom.now a.most _ p;
      figures = figures_promised a.top.now a.bottom.now a.most _ p;
    }
