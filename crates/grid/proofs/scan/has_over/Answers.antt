-- `grid::scan::has_over` meets its contract: a number over 256 found so far stays found.
use mathlib.Core.Path.{◌∙◌}
use mathlib.Core.Bool.{false, ◌||◌}
use lib.Dec.{ltb}
use borrow.Author.Tests.{tests}
use Rattle.std.proofs.Common.{rules}
use Rattle.std.proofs.lemmas.Iterator.{YieldsList-from_slice}
use Rattle.std.proofs.lemmas.Iterator.Consumers.{fold_from_yields_List}
use Rattle.grid.proofs.Scanning.{over_fold}
use Rattle.grid.proofs.scan.has_over.Goals as goal

pub returns : goal.returns
returns c =
    fold_from_yields_List _ (λ found x. found || ltb 256 x) false c.fold.result c.fold.ensures.ran (YieldsList-from_slice c.args.row.now (cc)) (λ found x r f k. search (rules, tests))
    ∙ over_fold false c.args.row.now
