-- The vertical entries of a column, as the sweeps draw them: the bottom net below row `low`, nothing to `start`, the middle net to `stop`, nothing to `high`,
-- the top net above. The three nets may coincide, and any may be 0.
use Rattle.std.specs.Prelude.{ℕ, ltb}
use Rattle.grid.specs.declared.Segments.{Segments}
use Rattle.grid.specs.Channel.{pick}

-- the entry between the rows y and y + 1
unfoldable pub segment : Segments → ℕ → ℕ
segment s y =
    pick (ltb y s.low) s.bottom
    (pick (ltb y s.start) 0
    (pick (ltb y s.stop) s.middle
    (pick (ltb y s.high) 0
    s.top)))
