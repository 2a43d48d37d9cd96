-- `checker::counting::faulty_nets` meets its contract: the counts say which nets are split, and what is kept is passed on.
use mathlib.Core.Path.{◌∙◌}
use Prim.Native.Nat.{ℕ}
use native.Mathlib.Omega.{arith}
use lib.ListN.{replicate, length-replicate, get_or-replicate}
use Rattle.checker.specs.Working.{PerNet}
use Rattle.checker.proofs.Least.{first_same}
use Rattle.checker.proofs.counting.Counts.{per_net_mono}
use Rattle.checker.proofs.counting.Positions.{within_short}
use Rattle.checker.proofs.counting.Splits.{in_pieces-split}
use Rattle.checker.proofs.counting.faulty_nets.Goals as goal

-- a table of zeros
blank : PerNet 0 (replicate 257 0)
blank = record { long = length-replicate {A = ℕ} 257 0; most = λ N l. omega (arith, get_or-replicate {A = ℕ} 257 N 0 0 (omega arith)) }

pub count_pieces-loose-requires : goal.count_pieces-loose-requires
count_pieces-loose-requires c = record {
  within = c.requires;
  begun_zero = blank;
  joined_zero = blank;
}

pub find_in_pieces-requires : goal.find_in_pieces-requires
find_in_pieces-requires c =
    let d = c.requires in
    per_net_mono _ _ _ c.count_pieces-loose.ensures.counted_all.fits' (omega (arith, within_short _ _ _ d))

pub returns : goal.returns
returns c =
    let e = c.count_pieces-loose.ensures in record {
      split_value = c.find_in_pieces.ensures ∙ first_same 257 _ _ (in_pieces-split _ _ _ _ _ c.requires e.counted_all);
      lowest_loose = e.lowest_loose;
    }
