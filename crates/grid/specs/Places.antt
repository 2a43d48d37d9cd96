-- Rows in 256 places, as callers hold them from call to call: document 02, Job 10, "Each call is given the state … as the call before left it", and Job 11,
-- "Keep a channel with a fixed number of columns".
use Rattle.std.specs.Prelude.{ℕ, ◌-◌, List, ◌++◌, length, replicate}

-- a row in 256 places, with zeros behind it
unfoldable pub padded : List ℕ → List ℕ
padded row = row ++ replicate (256 - length row) 0

-- 256 places without a number
unfoldable pub no_row : List ℕ
no_row = replicate 256 0
