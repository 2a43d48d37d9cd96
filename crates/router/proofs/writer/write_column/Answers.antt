-- `write_column` meets its contract.
use Rattle.router.proofs.Laws.Columns.{column_whole}
use mathlib.Core.Path.{◌∙◌}
use Rattle.router.proofs.writer.write_column.Goals as goal

pub write_verticals-requires : goal.write_verticals-requires
write_verticals-requires c = (c.requires.0, c.requires.1)

pub copy_tracks-requires : goal.copy_tracks-requires
copy_tracks-requires c =
    (c.requires.0, c.write_verticals.auto.part ∙ c.requires.1)

pub shape_of-part : goal.shape_of-part
shape_of-part c = c.copy_tracks.auto.part ∙ c.write_verticals.auto.part

pub returns : goal.returns
returns c e =
    column_whole _ _ _ c.args.tracks.now.nets.now _ _ c.write_verticals.ensures (c.copy_tracks.ensures e)
