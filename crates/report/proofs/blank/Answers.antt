-- `report::blank` meets its contract: the array is the table of zeros, by its definition.
use borrow.Author.Rules.{rules}
use Rattle.report.specs.Report.{blank_table}
use Rattle.report.proofs.blank.Goals as goal

pub returns : goal.returns
unfolding blank_table
returns c = search rules
