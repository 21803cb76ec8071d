-- The rounds of a placement: the regions of its levels, solved several times each.
use Rattle.std.specs.Prelude.{◌≡◌, ◌⊎◌, ℕ, zero, suc, ◌+◌, ◌-◌, ◌/◌, ◌<◌, ◌≤◌, ◌==◌, if◌then◌else◌, List, [], ◌∷◌, ◌++◌, length, map, replicate, slice_index, slice_index_or, All, Contains, ℤ}
use Rattle.std.specs.List.{range_with_len, flat_map}
use Rattle.relax_system.specs.declared.points.Point.{Point}
use Rattle.relax_system.specs.Means.{AtMost, IsFloorFixed, IsCeilFixed}
use Rattle.relax_system.specs.Exact.{IsExact, IsBetween, HasLowerResiduals, HasUpperResiduals}
use Rattle.relax_system.specs.Extremal.{IsLeast, IsGreatest}
use Rattle.area_cut.specs.declared.axis.Axis.{Axis}
use Rattle.area_cut.specs.declared.axis.Axis.TheVariants.{X, Y}
use Rattle.area_cut.specs.declared.region.Region.{Region}
use Rattle.area_cut.specs.Cut.{cut_of}
use Rattle.pad_reach.specs.Chain.{HasChain}
use Rattle.net_model.specs.Webs.{joints_of}
use Rattle.net_model.specs.Values.{NetworkValue}
use Rattle.level_run.specs.declared.level.Solve.{Solve}
use Rattle.level_run.specs.declared.level.Level.{Level}
use Rattle.level_run.specs.declared.rounds.Rounds.{Rounds}
use Rattle.level_run.specs.LevelSystem.{coordinate, level_system}
use Rattle.level_run.specs.Rounds.{rounds_in, level_of}

-- half of the sum of the two entries of each point, rounded down
abbrev pub halfway : List ℕ → List ℕ → List ℕ
halfway lo hi = map (λ i. (slice_index lo i + slice_index hi i) / 2) (range_with_len 0 (length lo))

-- the least and the greatest vector of a system, and what lies halfway
pub record IsSolve (points : List Point) (solve : Solve) : Type 0 where
  pub lo : IsLeast points solve.lo
  pub hi : IsGreatest points solve.hi
  pub mid : solve.mid ≡ halfway solve.lo solve.hi

-- a round over these regions, solved with these mids
pub record IsLevel (network : NetworkValue) (over : List Region) (xs ys : List ℕ) (level : Level) : Type 0 where
  pub regions : level.regions ≡ over
  pub x : IsSolve (level_system X network over xs) level.x
  pub y : IsSolve (level_system Y network over ys) level.y

-- the core with all points: the movable nodes, and behind them the star points
abbrev pub core_region : NetworkValue → Region
core_region network = record {
  xlo = coordinate network.core.xlo;
  xhi = coordinate network.core.xhi;
  ylo = coordinate network.core.ylo;
  yhi = coordinate network.core.yhi;
  points = range_with_len 0 (length network.points);
}

-- the areas of the points; that of a star point is 0
abbrev pub areas_of : NetworkValue → List ℕ
areas_of network = map (λ point. point.area) network.points

-- no point has a mid yet
abbrev pub no_mids : NetworkValue → List ℕ
no_mids network = replicate (length network.points) 0

-- the regions of the level after this one
abbrev pub next_regions : NetworkValue → Level → List Region
next_regions network level = cut_of (areas_of network) level.x.mid level.y.mid level.regions

-- the regions of the round after this one, which is round r: the same where it belongs to the same level
abbrev pub regions_after : NetworkValue → ℕ → ℕ → Level → List Region
regions_after network passes r round = if level_of passes (r + 1) == level_of passes r then round.regions else next_regions network round

-- the first round: all points share the core, so no mids are used
abbrev pub IsFirst : NetworkValue → Level → Type 0
IsFirst network round = IsLevel network (core_region network ∷ []) (no_mids network) (no_mids network) round

-- the round after round r: it is solved with the mids of that one
abbrev pub IsNext : NetworkValue → ℕ → ℕ → Level → Level → Type 0
IsNext network passes r round next = IsLevel network (regions_after network passes r round) round.x.mid round.y.mid next

-- so many rounds, where each level is solved so often
pub record AreRounds (network : NetworkValue) (passes count : ℕ) (levels : List Level) : Type 0 where
  pub many : length levels ≡ count
  pub first : (d : Level) → IsFirst network (slice_index_or levels 0 d)
  pub next : (r : ℕ) (d : Level) → r + 1 < count → IsNext network passes r (slice_index_or levels r d) (slice_index_or levels (r + 1) d)

-- the rounds of all levels
abbrev pub IsLevels : NetworkValue → Rounds → List Level → Type 0
IsLevels network rounds levels = AreRounds network rounds.passes (rounds_in rounds) levels

-- each point reaches a pad
abbrev pub HasChains : NetworkValue → Type 0
HasChains network = (p : ℕ) → p < length network.points → HasChain (joints_of network) p

abbrev pub solve_on : Axis → Level → Solve
solve_on X level = level.x
solve_on Y level = level.y

-- past the end there is a round without regions
abbrev pub no_level : Level
no_level = record { regions = []; x = record { lo = []; hi = []; mid = [] }; y = record { lo = []; hi = []; mid = [] } }

abbrev pub level_at : List Level → ℕ → Level
level_at levels k = slice_index_or levels k no_level

-- the mids that a round is solved with: those of the round before
abbrev pub mids_before : Axis → NetworkValue → List Level → ℕ → List ℕ
mids_before axis network levels zero = no_mids network
mids_before axis network levels (suc k) = (solve_on axis (level_at levels k)).mid

-- the system that a round was solved by on an axis
abbrev pub system_of : Axis → NetworkValue → List Level → ℕ → List Point
system_of axis network levels k = level_system axis network (level_at levels k).regions (mids_before axis network levels k)

-- The two vectors are fixed points of the rounded-down and of the rounded-up means, in order and with residuals below the total
-- weights, and enclose every exact solution.
pub record Encloses (points : List Point) (solve : Solve) : Type 0 where
  pub lower_fixed : IsFloorFixed points solve.lo
  pub upper_fixed : IsCeilFixed points solve.hi
  pub ordered : AtMost solve.lo solve.hi
  pub lower : HasLowerResiduals points solve.lo
  pub upper : HasUpperResiduals points solve.hi
  pub encloses : (d : ℕ) (z : List ℤ) → IsExact points d z → IsBetween solve.lo solve.hi d z

-- the greatest of some numbers, 0 where there is none
pub record IsGreatestOf (numbers : List ℕ) (most : ℕ) : Type 0 where
  pub above : All (λ n. n ≤ most) numbers
  pub reached : (most ≡ 0) ⊎ Contains numbers most

-- how far apart the two vectors of a solve are at each point
abbrev pub spreads : Solve → List ℕ
spreads solve = map (λ i. slice_index solve.hi i - slice_index solve.lo i) (range_with_len 0 (length solve.lo))

abbrev pub level_spreads : Level → List ℕ
level_spreads level = spreads level.x ++ spreads level.y

-- the greatest upper entry less the lower one, of all solves
abbrev pub IsGap : List Level → ℕ → Type 0
IsGap levels gap = IsGreatestOf (flat_map level_spreads levels) gap
