-- What holds of every network.
use Rattle.std.specs.Prelude.{◌≢◌, ℕ, ◌*◌, ◌^◌, ◌<◌, ◌≤◌, length, map, pos, neg_ℤ, ◌≤ℤ◌}
use Rattle.std.specs.List.{AllByRecursion}
use Rattle.std.specs.List.Sorted.{IsStrictlyIncreasing}
use Rattle.pad_reach.specs.declared.web.TheConstants.{MOST_POINTS}
use Rattle.book_design.specs.WellFormed.{IsGoodCore}
use Rattle.net_model.specs.declared.limits.TheConstants.{MOST_WEIGHT}
use Rattle.net_model.specs.declared.parts.Near.{Near}
use Rattle.net_model.specs.declared.parts.FixedPin.{FixedPin}
use Rattle.net_model.specs.Values.{PointValue, NetworkValue, point_at}
use Rattle.net_model.specs.Network.{total_weight}

-- a neighbour is another point, with a weight of at least 1
pub record IsGoodNear (points p : ℕ) (near : Near) : Type 0 where
  pub there : near.point < points
  pub other : near.point ≢ p
  pub positive : 1 ≤ near.weight

-- a fixed pin has a weight of at least 1, and stands within 3,000,000 units
pub record IsGoodPin (pin : FixedPin) : Type 0 where
  pub positive : 1 ≤ pin.weight
  pub x_low : neg_ℤ (pos (3 * 10 ^ 12)) ≤ℤ pin.x
  pub x_high : pin.x ≤ℤ pos (3 * 10 ^ 12)
  pub y_low : neg_ℤ (pos (3 * 10 ^ 12)) ≤ℤ pin.y
  pub y_high : pin.y ≤ℤ pos (3 * 10 ^ 12)

-- its neighbours stand in ascending order, its total weight is within the limit, and it takes at most 10 ^ 12 sites
pub record IsGoodPoint (points p : ℕ) (point : PointValue) : Type 0 where
  pub near : AllByRecursion (IsGoodNear points p) point.near
  pub ascending : IsStrictlyIncreasing (map (λ near. near.point) point.near)
  pub pins : AllByRecursion IsGoodPin point.pins
  pub light : total_weight point ≤ MOST_WEIGHT
  pub area : point.area ≤ 10 ^ 12

pub record IsNet (network : NetworkValue) : Type 0 where
  pub few : length network.points ≤ MOST_POINTS
  pub stars : length network.stars ≤ length network.points
  pub each : (p : ℕ) → p < length network.points → IsGoodPoint (length network.points) p (point_at network.points p)
  pub core : IsGoodCore network.core
