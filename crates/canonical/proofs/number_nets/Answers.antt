-- `canonical::number_nets` meets its contract: the nets of the columns passed are numbered.
use Prim.Native.Nat.{ℕ, ◌<◌}
use native.Mathlib.Omega.{arith}
use mathlib.Core.Path.{◌≡◌}
use mathlib.Core.List.{List}
use lib.ListN.{length, get_or}
use Rattle.grid.proofs.Tables.{zero_table-length}
use Rattle.std.proofs.lemmas.List.{length_push}
use Rattle.std.proofs.lemmas.Slice.Zip.{zip_turn, zip_end}
use Rattle.canonical.proofs.Numbering.{column_small, numbered_none, numbered_more, given_few, given_next, numbered_all}
use Rattle.canonical.proofs.number_nets.Goals as goal
use Rattle.canonical.proofs.number_nets.Goals.{In-Some, After-number_pin-given}

-- a turn's pins are those of the next column
pub record Turn (top bottom : List ℕ) (i above below : ℕ) : Type 0 where
  pub few : i < 256
  pub top-is : above ≡ get_or top i 0
  pub bottom-is : below ≡ get_or bottom i 0

turn : (c : In-Some) → Turn c.args.top.now c.args.bottom.now (length c.loop-above.yielded) c.in-Some.field-0-0.now c.in-Some.field-0-1.now
turn c =
    let t = zip_turn c.args.top.now c.args.bottom.now c.loop-above.yielded c.into_iter-above-iterator.result c.loop-above.above-iterator c.next.new.self c.next.result (cc) (cc) c.loop-above.yielded_by _ c.in-Some.is c.next.ensures.steps in
    record { few = omega (arith, t.0, c.requires.0.short); top-is = t.2 0; bottom-is = t.3 0 }

pub bounds-numbers-0 : goal.bounds-numbers-0
bounds-numbers-0 c = omega (arith, zero_table-length _ c.requires.1)

pub loop-above-init : goal.loop-above-init
loop-above-init c = numbered_none _ _ _ c.requires.1

pub number_pin-given-requires : goal.number_pin-given-requires
number_pin-given-requires c =
    let t = turn (goal.at.number_pin-given-requires c).In-Some in (
      omega (arith, t.top-is, column_small _ _ c.requires.0 (length c.loop-above.yielded)),
      omega (arith, given_few _ _ _ _ _ t.few c.loop-above.invariant),
      c.loop-above.invariant.ranks.size,
    )

pub number_pin-given-requires-in-loop-above : goal.number_pin-given-requires-in-loop-above
number_pin-given-requires-in-loop-above c =
    let t = turn (goal.at.number_pin-given-requires-in-loop-above c).In-Some in
    let p = c.number_pin-given.ensures _ c.loop-above.invariant in (
      omega (arith, t.bottom-is, column_small _ _ c.requires.0 (length c.loop-above.yielded)),
      omega (arith, given_next _ _ _ _ _ _ t.few p),
      p.ranks.size,
    )

pub loop-above-preserved : goal.loop-above-preserved
loop-above-preserved c =
    let t = turn (goal.at.loop-above-preserved c).In-Some in
    let p = c.number_pin-given.ensures _ c.loop-above.invariant in
    numbered_more _ _ _ _ _ _ _ _ (length_push c.loop-above.yielded _) t.top-is t.bottom-is (c.number_pin-given-in-loop-above.ensures _ p)

pub returns : goal.returns
returns c =
    let e = zip_end c.args.top.now c.args.bottom.now c.loop-above.yielded c.into_iter-above-iterator.result c.loop-above.above-iterator c.next.new.self c.next.result (cc) (cc) c.loop-above.yielded_by c.in-None.is c.next.ensures.steps in
    numbered_all _ _ _ _ _ (omega (arith, e, c.requires.0.same)) c.loop-above.invariant
