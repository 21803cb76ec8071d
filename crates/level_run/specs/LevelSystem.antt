-- The system of a network on an axis, where each point has the range of its region.
use Rattle.std.specs.Prelude.{ℕ, ◌+◌, ◌*◌, Bool, not, ◌==◌, List, length, map, filter, sum_by, slice_index, min, max, ℤ, pos, negsuc, ◌+ℤ◌}
use Rattle.std.specs.List.{range_with_len}
use Rattle.book_text.specs.declared.decimal.TheConstants.{MOST_MICRO}
use Rattle.relax_system.specs.declared.points.Near.{Near as Neighbour}
use Rattle.relax_system.specs.declared.points.Point.{Point}
use Rattle.area_cut.specs.declared.axis.Axis.{Axis}
use Rattle.area_cut.specs.declared.axis.Axis.TheVariants.{X, Y}
use Rattle.area_cut.specs.declared.region.Region.{Region}
use Rattle.area_cut.specs.Regions.{low_end, high_end, home_of, region_of}
use Rattle.net_model.specs.declared.parts.Near.{Near}
use Rattle.net_model.specs.declared.parts.FixedPin.{FixedPin}
use Rattle.net_model.specs.Values.{NetworkValue, point_at}

-- a coordinate, clamped to a region's range
abbrev pub clamped : Axis → Region → ℕ → ℕ
clamped axis region at = max (low_end axis region) (min at (high_end axis region))

-- where a fixed pin stands on an axis
abbrev pub place_of : Axis → FixedPin → ℤ
place_of X pin = pin.x
place_of Y pin = pin.y

-- a whole number, or 0 where it is below
abbrev pub from_zero : ℤ → ℕ
from_zero (pos n) = n
from_zero (negsuc n) = 0

-- a place in millionths as a coordinate: shifted by the greatest number of millionths; what is still below 0 is below every region
abbrev pub coordinate : ℤ → ℕ
coordinate at = from_zero (at +ℤ pos MOST_MICRO)

-- the neighbour stands in the point's own region
abbrev pub is_inside : List Region → ℕ → Near → Bool
is_inside regions p near = home_of regions near.point == home_of regions p

abbrev pub inside : List Region → ℕ → List Near → List Near
inside regions p near = filter (is_inside regions p) near

abbrev pub outside : List Region → ℕ → List Near → List Near
outside regions p near = filter (λ n. not (is_inside regions p n)) near

-- where a point stands for those of other regions: at its mid, clamped to its own region
abbrev pub stand_of : Axis → List Region → List ℕ → ℕ → ℕ
stand_of axis regions mids q = clamped axis (region_of regions q) (slice_index mids q)

abbrev pub as_neighbour : Near → Neighbour
as_neighbour near = record { point = near.point; weight = near.weight }

-- the sum of weight times place over neighbours, each clamped to a region
abbrev pub near_pull : Axis → List Region → List ℕ → Region → List Near → ℕ
near_pull axis regions mids region near = sum_by (λ n. n.weight * clamped axis region (stand_of axis regions mids n.point)) near

-- the same over fixed pins
abbrev pub pin_pull : Axis → Region → List FixedPin → ℕ
pin_pull axis region pins = sum_by (λ pin. pin.weight * clamped axis region (coordinate (place_of axis pin))) pins

-- A point: the neighbours in its region are variables, all others and the fixed pins are constants.
abbrev pub level_point : Axis → NetworkValue → List Region → List ℕ → ℕ → Point
level_point axis network regions mids p = record {
  lo = low_end axis (region_of regions p);
  hi = high_end axis (region_of regions p);
  near = map as_neighbour (inside regions p (point_at network.points p).near);
  anchor = sum_by (λ n. n.weight) (outside regions p (point_at network.points p).near) + sum_by (λ pin. pin.weight) (point_at network.points p).pins;
  anchored = near_pull axis regions mids (region_of regions p) (outside regions p (point_at network.points p).near)
      + pin_pull axis (region_of regions p) (point_at network.points p).pins;
}

abbrev pub level_system : Axis → NetworkValue → List Region → List ℕ → List Point
level_system axis network regions mids = map (level_point axis network regions mids) (range_with_len 0 (length network.points))
