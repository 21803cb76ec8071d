-- Steps of the projection.
use Rattle.std.specs.Prelude.{◌≡◌, ℕ, ◌<◌, ◌≤◌, List, length, slice_index}
use Rattle.relax_system.specs.declared.valid.TheConstants.{MOST_COORDINATE}
use Rattle.area_cut.specs.declared.axis.Axis.{Axis}
use Rattle.area_cut.specs.declared.region.Region.{Region}
use Rattle.area_cut.specs.Regions.{low_end, high_end, home_of}

-- the number of the region of each of so many points
pub record AreHomes (points : ℕ) (regions : List Region) (homes : List ℕ) : Type 0 where
  pub all : length homes ≡ points
  pub each : (p : ℕ) → p < points → slice_index homes p ≡ home_of regions p
  pub there : (p : ℕ) → p < points → home_of regions p < length regions

-- a region's range on an axis
pub record IsRange (axis : Axis) (region : Region) : Type 0 where
  pub ordered : low_end axis region ≤ high_end axis region
  pub limit : high_end axis region ≤ MOST_COORDINATE
