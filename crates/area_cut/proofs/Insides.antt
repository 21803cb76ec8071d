-- The parts of a region lie in it.
use Rattle.std.proofs.Common.{ℕ, ◌≤◌, not, List, [], ◌∷◌, Option, Some, None, arith}
use Rattle.std.specs.Prelude.{All, Contains}
use Rattle.std.proofs.lemmas.List.Elements.{All-cons, All-nil, All-filter, All-contains_itself}
use Rattle.area_cut.specs.declared.axis.Axis.{Axis}
use Rattle.area_cut.specs.declared.axis.Axis.TheVariants.{X, Y}
use Rattle.area_cut.specs.declared.region.Region.{Region}
use Rattle.area_cut.specs.Regions.{IsGood, IsInside, axis_to_cut}
use Rattle.area_cut.specs.Cut.{in_first, first_points, second_points, line_of, below, above, mids_on, parts_on, parts_of}
use Rattle.area_cut.proofs.Goods.{IsLine, is_line}

same_ends : (n : ℕ) → n ≤ n
same_ends n = omega arith

below_inside : (axis : Axis) (region : Region) (line : ℕ) (points : List ℕ) → IsLine axis region line → All (Contains region.points) points → IsInside region (below axis region line points)
below_inside X region line points at among = record { xlo = same_ends region.xlo; xhi = at.high; ylo = same_ends region.ylo; yhi = same_ends region.yhi; points = among }
below_inside Y region line points at among = record { xlo = same_ends region.xlo; xhi = same_ends region.xhi; ylo = same_ends region.ylo; yhi = at.high; points = among }

above_inside : (axis : Axis) (region : Region) (line : ℕ) (points : List ℕ) → IsLine axis region line → All (Contains region.points) points → IsInside region (above axis region line points)
above_inside X region line points at among = record { xlo = at.low; xhi = same_ends region.xhi; ylo = same_ends region.ylo; yhi = same_ends region.yhi; points = among }
above_inside Y region line points at among = record { xlo = same_ends region.xlo; xhi = same_ends region.xhi; ylo = at.low; yhi = same_ends region.yhi; points = among }

on_inside : (areas xs ys : List ℕ) (region : Region) (axis : Option Axis) → IsGood region → All (IsInside region) (parts_on areas xs ys region axis)
on_inside areas xs ys region None good =
    All-cons (IsInside region) region [] (record { xlo = same_ends region.xlo; xhi = same_ends region.xhi; ylo = same_ends region.ylo; yhi = same_ends region.yhi; points = All-contains_itself region.points }) (All-nil (IsInside region))
on_inside areas xs ys region (Some axis) good =
    let mids = mids_on axis xs ys in
    let at = is_line areas mids axis region good in
    let line = line_of areas mids axis region in
    let first = first_points areas mids region.points in
    let second = second_points areas mids region.points in
    let among = All-contains_itself region.points in
    All-cons (IsInside region) (below axis region line first) (above axis region line second ∷ [])
    (below_inside axis region line first at (All-filter (in_first areas mids region.points) (Contains region.points) region.points among))
    (All-cons (IsInside region) (above axis region line second) [] (above_inside axis region line second at (All-filter (λ p. not (in_first areas mids region.points p)) (Contains region.points) region.points among)) (All-nil (IsInside region)))

pub parts_inside : (areas xs ys : List ℕ) (region : Region) → IsGood region → All (IsInside region) (parts_of areas xs ys region)
parts_inside areas xs ys region good = on_inside areas xs ys region (axis_to_cut region) good
