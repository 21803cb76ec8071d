-- Both sides in their own words.
use Rattle.std.proofs.Common.{◌≡◌, ℕ, ◌-◌, ◌*◌, ◌<◌, ◌≤◌, List, length, ap, arith}
use Rattle.std.specs.List.{slice_index}
use Rattle.relax_system.specs.declared.side.Side.{Side}
use Rattle.relax_system.specs.declared.side.Side.TheVariants.{Floor, Ceil}
use Rattle.relax_system.specs.declared.points.Point.{Point}
use Rattle.relax_system.specs.Means.{InBoxes}
use Rattle.relax_system.specs.Extremal.{IsLeast, IsGreatest}
use Rattle.relax_system.specs.System.{point_at, IsValid}
use Rattle.relax_system.proofs.Extremes.{extremal_there}
use Rattle.relax_system.proofs.Sided.{IsLeast-from_extremal, IsGreatest-from_extremal}
use Rattle.relax_system.specs.Sides.{apart, distance}
use Rattle.relax_table.specs.Ways.{IsQuietVector}
use Rattle.relax_system.proofs.Ways.{apart-within}
use Rattle.relax_system.proofs.Distances.{distance-wide}
use Rattle.relax_table.specs.Seats.{SeatState, IsSound, Advances}
use Rattle.relax_table.specs.Floor.{IsBelowLeast, Rises}
use Rattle.relax_table.specs.Ceil.{IsAboveGreatest, Falls}

pub pre_fixed_vector : {points : List Point} {u : List ℕ} → IsLeast points u → IsQuietVector Floor points u
pre_fixed_vector h = record { in_boxes = h.in_boxes; quiet = h.pre_fixed }

pub post_fixed_vector : {points : List Point} {u : List ℕ} → IsGreatest points u → IsQuietVector Ceil points u
post_fixed_vector h = record { in_boxes = h.in_boxes; quiet = h.post_fixed }

pub below_least : {s : SeatState} → IsSound Floor s → IsBelowLeast s
below_least h = record {
  start_boxes = h.start_boxes;
  in_boxes = h.in_boxes;
  from_start = h.started;
  below = λ u boxes quiet. h.first u (record { in_boxes = boxes; quiet = quiet });
  raises = λ v least. h.paid v (pre_fixed_vector least);
}

pub above_greatest : {s : SeatState} → IsSound Ceil s → IsAboveGreatest s
above_greatest h = record {
  start_boxes = h.start_boxes;
  in_boxes = h.in_boxes;
  from_start = h.started;
  above = λ u boxes quiet. h.first u (record { in_boxes = boxes; quiet = quiet });
  lowers = λ v greatest. h.paid v (post_fixed_vector greatest);
}

pub rises_of : {old new : SeatState} → Advances Floor old new → Rises old new
rises_of h = record { same_table = h.same_table; same_system = h.same_system; same_start = h.same_start; counts = h.counts; not_lower = h.further; below_least = below_least h.sound }

pub falls_of : {old new : SeatState} → Advances Ceil old new → Falls old new
falls_of h = record { same_table = h.same_table; same_system = h.same_system; same_start = h.same_start; counts = h.counts; not_higher = h.further; above_greatest = above_greatest h.sound }

few : (side : Side) (points : List Point) (start u : List ℕ) (moves width : ℕ) → InBoxes points start → InBoxes points u → moves ≤ distance side start u → ((i : ℕ) → i < length points → (point_at points i).hi - (point_at points i).lo ≤ width) → moves ≤ length points * width
few side points start u moves width boxes boxes' paid wide =
    let far : distance side start u ≤ length start * width = distance-wide side start u width (omega (arith, boxes.all, boxes'.all)) (λ i there.
    let inside : i < length points = omega (arith, boxes.all) in
    let near : apart side (slice_index start i) (slice_index u i) ≤ (point_at points i).hi - (point_at points i).lo =
    apart-within side (slice_index start i) (slice_index u i) (point_at points i).lo (point_at points i).hi (boxes.low i inside) (boxes.high i inside) (boxes'.low i inside) (boxes'.high i inside) in
    omega (arith, wide i inside)) in
    let same : length start * width ≡ length points * width = ap (λ (n : ℕ). n * width) boxes.all in
    omega arith

pub few_raises : (s : SeatState) (width : ℕ) → IsValid s.system → IsBelowLeast s → ((i : ℕ) → i < length s.system → (point_at s.system i).hi - (point_at s.system i).lo ≤ width) → s.moves ≤ length s.system * width
few_raises s width valid h wide =
    let u = extremal_there Floor s.system valid in
    few Floor s.system s.start u.0 s.moves width h.start_boxes u.1.in_boxes (h.raises u.0 (IsLeast-from_extremal u.1)) wide

pub few_lowers : (s : SeatState) (width : ℕ) → IsValid s.system → IsAboveGreatest s → ((i : ℕ) → i < length s.system → (point_at s.system i).hi - (point_at s.system i).lo ≤ width) → s.moves ≤ length s.system * width
few_lowers s width valid h wide =
    let u = extremal_there Ceil s.system valid in
    few Ceil s.system s.start u.0 s.moves width h.start_boxes u.1.in_boxes (h.lowers u.0 (IsGreatest-from_extremal u.1)) wide
