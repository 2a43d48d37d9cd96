-- `clear` meets its contract: the places passed are cleared.
use Prim.Native.Nat.{ℕ}
use mathlib.Core.Path.{◌≡◌, ap, ◌∙◌}
use native.Mathlib.Omega.{arith}
use lib.ListN.{get_or, set}
use Rattle.std.proofs.lemmas.List.{get_or_default}
use Rattle.std.proofs.lemmas.List.Edits.{map_over_more}
use Rattle.std.proofs.lemmas.Bool.Decides.{nat_tests}
use Rattle.board.proofs.Without.{rest_of}
use Rattle.board.proofs.rows.clear.Goals as goal
use Rattle.board.proofs.rows.clear.Goals.{then-pin-net, else-pin-net}

pub loop-pin-preserved : goal.loop-pin-preserved
loop-pin-preserved c =
    let h = c.loop-pin in
    let x : ℕ = get_or h.row h.pin-index (get_or h.row h.pin-index 0) in
    let same : get_or h.row h.pin-index 0 ≡ x = get_or_default h.row h.pin-index 0 (get_or h.row h.pin-index 0) (omega arith) in
    let e : c.if-pin-net.pin ≡ rest_of c.args.net (get_or h.row h.pin-index 0) =
    elim c.if-pin-net.branch [ then-pin-net w ↦ grind (arith, nat_tests) | else-pin-net w ↦ grind (arith, nat_tests) ] in
    ap (set h.row h.pin-index) e ∙ map_over_more (rest_of c.args.net) c.args.row.now h.row h.pin-index (get_or h.row h.pin-index 0) (omega arith) h.invariant same
