-- Regions: rectangles, each with points of its own.
use Rattle.std.specs.Prelude.{◌≡◌, ℕ, ◌-◌, ◌<◌, ◌≤◌, Bool, nat_eq, nat_lt, nat_le, ◌==◌, List, [], length, slice_index_or, All, Contains, Option, Some, None, if◌then◌else◌}
use Rattle.std.specs.List.{flat_map, list_any, position_or_len, range_with_len}
use Rattle.std.specs.List.Sorted.{IsPermutation, IsStrictlyIncreasing}
use Rattle.area_cut.specs.declared.axis.Axis.{Axis}
use Rattle.area_cut.specs.declared.axis.Axis.TheVariants.{X, Y}
use Rattle.area_cut.specs.declared.region.Region.{Region}

-- a region's range on an axis
abbrev pub low_end : Axis → Region → ℕ
low_end X region = region.xlo
low_end Y region = region.ylo

abbrev pub high_end : Axis → Region → ℕ
high_end X region = region.xhi
high_end Y region = region.yhi

abbrev pub side_of : Axis → Region → ℕ
side_of axis region = high_end axis region - low_end axis region

-- the ends are in order, and the points ascend
pub record IsGood (region : Region) : Type 0 where
  pub wide : region.xlo ≤ region.xhi
  pub high : region.ylo ≤ region.yhi
  pub ascending : IsStrictlyIncreasing region.points

abbrev pub AreGood : List Region → Type 0
AreGood regions = All IsGood regions

-- the upper ends are at most a limit
pub record IsWithin (limit : ℕ) (region : Region) : Type 0 where
  pub x : region.xhi ≤ limit
  pub y : region.yhi ≤ limit

abbrev pub AreWithin : ℕ → List Region → Type 0
AreWithin limit regions = All (IsWithin limit) regions

-- the points of all regions, one region after another
abbrev pub all_points : List Region → List ℕ
all_points regions = flat_map (λ region. region.points) regions

-- each of so many points stands in exactly one region
abbrev pub ArePartition : ℕ → List Region → Type 0
ArePartition points regions = IsPermutation (range_with_len 0 points) (all_points regions)

-- The regions share out so many points: each point stands in exactly one of them, each is good, and no end is above a limit.
pub record AreShares (points limit : ℕ) (regions : List Region) : Type 0 where
  pub partition : ArePartition points regions
  pub good : AreGood regions
  pub within : AreWithin limit regions

-- past the end there is a region without points
abbrev pub no_region : Region
no_region = record { xlo = 0; xhi = 0; ylo = 0; yhi = 0; points = [] }

abbrev pub has_point : ℕ → Region → Bool
has_point p region = list_any (nat_eq p) region.points

-- the number of the first region that has a point: its home, where each point stands in exactly one region
abbrev pub home_of : List Region → ℕ → ℕ
home_of regions p = position_or_len (has_point p) regions

abbrev pub region_of : List Region → ℕ → Region
region_of regions p = slice_index_or regions (home_of regions p) no_region

-- Each of so many points has one home: there is a region that has it, and no other region does. No other number stands in a region.
pub record HaveHomes (points : ℕ) (regions : List Region) : Type 0 where
  pub there : (p : ℕ) → p < points → home_of regions p < length regions
  pub has : (p : ℕ) → p < points → Contains (region_of regions p).points p
  pub only : (p k : ℕ) → k < length regions → Contains (slice_index_or regions k no_region).points p → home_of regions p ≡ k
  pub bounded : (p k : ℕ) → k < length regions → Contains (slice_index_or regions k no_region).points p → p < points

-- a part lies in a region: its rectangle in the region's, and its points among the region's
pub record IsInside (region part : Region) : Type 0 where
  pub xlo : region.xlo ≤ part.xlo
  pub xhi : part.xhi ≤ region.xhi
  pub ylo : region.ylo ≤ part.ylo
  pub yhi : part.yhi ≤ region.yhi
  pub points : All (Contains region.points) part.points

-- The longer side is cut, the x side where both are as long. A region with fewer than two points, or whose longer side is 0, stays.
abbrev pub axis_to_cut : Region → Option Axis
axis_to_cut region = if nat_lt (length region.points) 2 then None
    else if nat_le (side_of Y region) (side_of X region) then (if side_of X region == 0 then None else Some X)
    else Some Y
