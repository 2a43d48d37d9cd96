-- What an accepted routing call promises of its drawing besides.
use Rattle.std.specs.Prelude.{◌+◌, ◌-◌, ◌*◌, ◌/◌, ◌≡◌, List, ℕ, take}
use Rattle.grid.specs.declared.Family.TheVariants.{TwoPin, ThreePin, ManyPin}
use Rattle.grid.specs.Channel.{density, family}
use Rattle.grid.specs.Grid.{Solution}
use Rattle.router.specs.declared.Figures.{Figures}

-- "A routing call's drawing is the first w × (2t + 1) entries of its slice, with the t and w that it reports": it is a solution, and its tracks
-- are those of its family: "d where each net has two pins, else 2d - 1", and between them document 02's "3d/2 tracks rounded down"
pub record Solves (top bottom slice : List ℕ) (x : Figures) : Type 0 where
  pub solution : Solution top bottom x.width x.tracks (take (x.width * (2 * x.tracks + 1)) slice)
  pub dense : x.density ≡ density top bottom
  pub two_pin : family top bottom ≡ TwoPin → x.tracks ≡ x.density
  pub three_pin : family top bottom ≡ ThreePin → x.tracks ≡ 3 * x.density / 2
  pub many_pin : family top bottom ≡ ManyPin → x.tracks ≡ 2 * x.density - 1
