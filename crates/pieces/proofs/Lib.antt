-- `Hooks`: one hook. `Points`: the hooks of a point, of a column and of all. `Alone`: edges that no hook has reached. `Roots`: the edges that are their own
-- label, and what a hook takes from them. `Edges`: where the edge of an entry lies. `Whole`: at most one root exactly if one piece, and so `whole?`.
pub mod Hooks
pub mod Points
pub mod Alone
pub mod Roots
pub mod Edges
pub mod Whole
