-- Document 01, "Refused, by place": "One column's entries are handed back as that part of the caller's layout slice".
use Rattle.std.specs.Prelude.{ℕ, ◌+◌, ◌*◌, ◌-◌, not, List, eqb, ltb, length, take, drop}
use Rattle.grid.specs.declared.Part.{Part}
use Rattle.grid.specs.Channel.{pick}

-- the empty part
abbrev pub no_part : Part
no_part = record { offset = 0; length = 0 }

-- "an empty part if w or t is over 511, the length is not w × (2t + 1), or the column is not 1 to w": where column c lies in a layout of len entries
unfoldable pub column_part : (len w t c : ℕ) → Part
column_part len w t c =
    pick (ltb 511 w) no_part
    (pick (ltb 511 t) no_part
    (pick (not (eqb len (w * (2 * t + 1)))) no_part
    (pick (ltb c 1) no_part
    (pick (ltb w c) no_part
    (record { offset = (c - 1) * (2 * t + 1); length = 2 * t + 1 })))))

-- the entries of a part of a layout
abbrev pub part_of : List ℕ → Part → List ℕ
part_of layout p = take p.length (drop p.offset layout)

-- the entries that are handed back
unfoldable pub column_view : (layout : List ℕ) (w t c : ℕ) → List ℕ
column_view layout w t c = part_of layout (column_part (length layout) w t c)
