-- What a solved level gives the next one.
use Rattle.std.specs.Prelude.{◌≡◌, ℕ, List, length}
use Rattle.relax_system.specs.declared.valid.TheConstants.{MOST_COORDINATE}
use Rattle.area_cut.specs.Regions.{AreShares}
use Rattle.net_model.specs.Values.{NetworkValue}
use Rattle.area_cut.specs.declared.axis.Axis.TheVariants.{X, Y}
use Rattle.area_cut.specs.declared.region.Region.{Region}
use Rattle.level_run.specs.declared.level.Level.{Level}
use Rattle.level_run.specs.declared.solving.Unsolved.{Unsolved}
use Rattle.level_run.specs.LevelSystem.{level_system}
use Rattle.level_run.specs.Levels.{IsLevel}

-- what a solved level has: its regions share out the points, and each point has a mid
pub record IsSane (network : NetworkValue) (level : Level) : Type 0 where
  pub shares : AreShares (length network.points) MOST_COORDINATE level.regions
  pub xs : length level.x.mid ≡ length network.points
  pub ys : length level.y.mid ≡ length network.points

-- the regions of a level that isn't solved yet, and their systems, made with these mids
pub record IsUnsolved (network : NetworkValue) (over : List Region) (xs ys : List ℕ) (u : Unsolved) : Type 0 where
  pub regions : u.regions ≡ over
  pub x : u.x ≡ level_system X network over xs
  pub y : u.y ≡ level_system Y network over ys

-- the level over these regions, in which their systems are solved
abbrev pub Solves : Unsolved → Level → Type 0
Solves u level = (network : NetworkValue) (over : List Region) (xs ys : List ℕ) → IsUnsolved network over xs ys u → IsLevel network over xs ys level
