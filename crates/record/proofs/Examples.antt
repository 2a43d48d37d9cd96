-- The document's record, read. Assumes nothing.
use Prim.Native.Nat.{ℕ}
use mathlib.Core.Path.{◌≡◌, refl}
use mathlib.Core.List.{List, [], ◌∷◌}
use Rattle.std.specs.Prelude.{Ok}
use Rattle.record.specs.Record.{wrong_length, wrong_kind, wrong_body, record_refused, record_read, row, top_row, bottom_row}

-- 0C 00 01 00 02 00 01 00 02 00 02 00 01 00
abbrev pub case_d : List ℕ
case_d = 0x0C ∷ 0 ∷ 1 ∷ 0 ∷ 2 ∷ 0 ∷ 1 ∷ 0 ∷ 2 ∷ 0 ∷ 2 ∷ 0 ∷ 1 ∷ 0 ∷ []

-- case D: 1 2 / 2 1
pub case_D : (record_read case_d ≡ Ok 2) × ((top_row case_d ≡ 1 ∷ 2 ∷ []) × (bottom_row case_d ≡ 2 ∷ 1 ∷ []))
unfolding record_read record_refused wrong_length wrong_kind wrong_body row top_row bottom_row
case_D = (refl, (refl, refl))

-- the same with a length of 13, kind 2, or three columns
pub damaged : (record_refused (0x0D ∷ 0 ∷ 1 ∷ 0 ∷ 2 ∷ 0 ∷ 1 ∷ 0 ∷ 2 ∷ 0 ∷ 2 ∷ 0 ∷ 1 ∷ 0 ∷ []) ≡ 1)
    × ((record_refused (0x0C ∷ 0 ∷ 2 ∷ 0 ∷ 2 ∷ 0 ∷ 1 ∷ 0 ∷ 2 ∷ 0 ∷ 2 ∷ 0 ∷ 1 ∷ 0 ∷ []) ≡ 2)
    × (record_refused (0x0C ∷ 0 ∷ 1 ∷ 0 ∷ 3 ∷ 0 ∷ 1 ∷ 0 ∷ 2 ∷ 0 ∷ 2 ∷ 0 ∷ 1 ∷ 0 ∷ []) ≡ 3))
unfolding record_refused wrong_length wrong_kind wrong_body
damaged = (refl, (refl, refl))
