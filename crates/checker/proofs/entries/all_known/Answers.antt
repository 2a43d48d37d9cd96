-- `checker::entries::all_known` meets its contract: with no number over 256 the table says it, else nothing is said.
use mathlib.Core.Path.{sym, ◌∙◌, subst}
use native.Mathlib.Omega.{arith}
use lib.ListN.{get_or}
use lib.Dec.{T}
use Rattle.grid.proofs.Scanning.{none_over}
use Rattle.checker.proofs.entries.all_known.Goals as goal

pub returns-then-has_over : goal.returns-then-has_over
returns-then-has_over c = λ e. absurd (subst T (sym e) tt)

pub known_numbers-known-requires : goal.known_numbers-known-requires
known_numbers-known-requires c = c.requires

pub all_marked-requires : goal.all_marked-requires
all_marked-requires c = sym c.has_over.ensures ∙ c.if-has_over.false

pub returns : goal.returns
returns c =
    λ e p l.
    let D = c.args.layout.now in
    c.known_numbers-known.ensures.known (get_or D p 0)
    (omega (arith, none_over D p (sym c.has_over.ensures ∙ c.if-has_over.false)))
    (c.all_marked.ensures e p l)
