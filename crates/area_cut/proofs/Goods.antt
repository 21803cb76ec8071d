-- The parts of a good region are good, and lie within it.
use Rattle.std.proofs.Common.{◌≡◌, ℕ, ◌+◌, ◌*◌, ◌/◌, ◌≤◌, Bool, true, false, not, cond, eqb, List, [], ◌∷◌, Option, Some, None, refl, ap, arith}
use Rattle.std.specs.Prelude.{slice_index}
use Rattle.std.specs.List.Sorted.{IsStrictlyIncreasing}
use Rattle.std.proofs.Math.Nat.{mul-le-mul_left, div-le_of_le-mul, div-le_self, mul_comm}
use Rattle.std.proofs.lemmas.List.Kept.{IsStrictlyIncreasing-filter}
use Rattle.std.proofs.lemmas.List.Elements.{All-append, All-cons, All-nil, All-head, All-tail}
use Rattle.std.proofs.lemmas.List.Filters.{sum_by-filter_both}
use Rattle.area_cut.specs.declared.axis.Axis.{Axis}
use Rattle.area_cut.specs.declared.axis.Axis.TheVariants.{X, Y}
use Rattle.area_cut.specs.declared.region.Region.{Region}
use Rattle.area_cut.specs.Regions.{IsGood, AreGood, IsWithin, AreWithin, low_end, high_end, side_of, axis_to_cut}
use Rattle.area_cut.specs.Cut.{area_of, in_first, first_points, second_points, line_at, line_of, below, above, halves, mids_on, parts_on, parts_of, cut_of}

-- a share of a side is at most the side
pub share_fits : (side part total : ℕ) → part ≤ total → side * part / total ≤ side
share_fits side part total h =
    let product = mul-le-mul_left side h in
    let turned = mul_comm side total in
    div-le_of_le-mul total (omega arith)

pub line_within : (low side part total : ℕ) → part ≤ total → line_at low side part total ≤ low + side
line_within low side part total h = by_cases (eqb total 0) refl where
  by_cases : (b : Bool) → eqb total 0 ≡ b → low + cond (eqb total 0) (side / 2) (side * part / total) ≤ low + side
  by_cases true e = let is : cond (eqb total 0) (side / 2) (side * part / total) ≡ side / 2 = ap (λ (b : Bool). cond b (side / 2) (side * part / total)) e in omega (arith, div-le_self side 2)
  by_cases false e = let is : cond (eqb total 0) (side / 2) (side * part / total) ≡ side * part / total = ap (λ (b : Bool). cond b (side / 2) (side * part / total)) e in omega (arith, share_fits side part total h)

-- the first part's area is at most the whole
pub part_fits : (areas mids points : List ℕ) → area_of areas (first_points areas mids points) ≤ area_of areas points
part_fits areas mids points =
    let both = sum_by-filter_both (in_first areas mids points) (λ p. not (in_first areas mids points p)) (λ _. refl) (λ p. slice_index areas p) points in
    omega arith

-- a line between the ends
pub record IsLine (axis : Axis) (region : Region) (line : ℕ) : Type 0 where
  pub low : low_end axis region ≤ line
  pub high : line ≤ high_end axis region

ends_good : (axis : Axis) (region : Region) → IsGood region → low_end axis region ≤ high_end axis region
ends_good X region good = good.wide
ends_good Y region good = good.high

pub is_line : (areas mids : List ℕ) (axis : Axis) (region : Region) → IsGood region → IsLine axis region (line_of areas mids axis region)
is_line areas mids axis region good =
    let within = line_within (low_end axis region) (side_of axis region) (area_of areas (first_points areas mids region.points)) (area_of areas region.points) (part_fits areas mids region.points) in
    let ordered = ends_good axis region good in
    record { low = omega arith; high = omega arith }

below_good : (axis : Axis) (region : Region) (line : ℕ) (points : List ℕ) → IsGood region → IsLine axis region line → IsStrictlyIncreasing points → IsGood (below axis region line points)
below_good X region line points good at ascending = record { wide = at.low; high = good.high; ascending = ascending }
below_good Y region line points good at ascending = record { wide = good.wide; high = at.low; ascending = ascending }

above_good : (axis : Axis) (region : Region) (line : ℕ) (points : List ℕ) → IsGood region → IsLine axis region line → IsStrictlyIncreasing points → IsGood (above axis region line points)
above_good X region line points good at ascending = record { wide = at.high; high = good.high; ascending = ascending }
above_good Y region line points good at ascending = record { wide = good.wide; high = at.high; ascending = ascending }

below_within : (axis : Axis) (region : Region) (line limit : ℕ) (points : List ℕ) → IsWithin limit region → IsLine axis region line → IsWithin limit (below axis region line points)
below_within X region line limit points within at = let x = within.x in let high = at.high in record { x = omega arith; y = within.y }
below_within Y region line limit points within at = let y = within.y in let high = at.high in record { x = within.x; y = omega arith }

above_within : (axis : Axis) (region : Region) (line limit : ℕ) (points : List ℕ) → IsWithin limit region → IsWithin limit (above axis region line points)
above_within X region line limit points within = record { x = within.x; y = within.y }
above_within Y region line limit points within = record { x = within.x; y = within.y }

pub first_good : (areas mids : List ℕ) (axis : Axis) (region : Region) → IsGood region → IsGood (below axis region (line_of areas mids axis region) (first_points areas mids region.points))
first_good areas mids axis region good =
    below_good axis region (line_of areas mids axis region) (first_points areas mids region.points) good (is_line areas mids axis region good) (IsStrictlyIncreasing-filter (in_first areas mids region.points) region.points good.ascending)

pub second_good : (areas mids : List ℕ) (axis : Axis) (region : Region) → IsGood region → IsGood (above axis region (line_of areas mids axis region) (second_points areas mids region.points))
second_good areas mids axis region good =
    above_good axis region (line_of areas mids axis region) (second_points areas mids region.points) good (is_line areas mids axis region good) (IsStrictlyIncreasing-filter (λ p. not (in_first areas mids region.points p)) region.points good.ascending)

halves_good : (areas mids : List ℕ) (axis : Axis) (region : Region) → IsGood region → AreGood (halves areas mids axis region)
halves_good areas mids axis region good =
    let line = line_of areas mids axis region in
    let first = first_points areas mids region.points in
    let second = second_points areas mids region.points in
    All-cons IsGood (below axis region line first) (above axis region line second ∷ []) (first_good areas mids axis region good) (All-cons IsGood (above axis region line second) [] (second_good areas mids axis region good) (All-nil IsGood))

halves_within : (areas mids : List ℕ) (axis : Axis) (region : Region) (limit : ℕ) → IsGood region → IsWithin limit region → AreWithin limit (halves areas mids axis region)
halves_within areas mids axis region limit good within =
    let at = is_line areas mids axis region good in
    let line = line_of areas mids axis region in
    let first = first_points areas mids region.points in
    let second = second_points areas mids region.points in
    All-cons (IsWithin limit) (below axis region line first) (above axis region line second ∷ []) (below_within axis region line limit first within at)
    (All-cons (IsWithin limit) (above axis region line second) [] (above_within axis region line limit second within) (All-nil (IsWithin limit)))

parts_good : (areas xs ys : List ℕ) (region : Region) (axis : Option Axis) → IsGood region → AreGood (parts_on areas xs ys region axis)
parts_good areas xs ys region None good = All-cons IsGood region [] good (All-nil IsGood)
parts_good areas xs ys region (Some axis) good = halves_good areas (mids_on axis xs ys) axis region good

parts_within : (areas xs ys : List ℕ) (region : Region) (axis : Option Axis) (limit : ℕ) → IsGood region → IsWithin limit region → AreWithin limit (parts_on areas xs ys region axis)
parts_within areas xs ys region None limit good within = All-cons (IsWithin limit) region [] within (All-nil (IsWithin limit))
parts_within areas xs ys region (Some axis) limit good within = halves_within areas (mids_on axis xs ys) axis region limit good within

pub cut_good : (areas xs ys : List ℕ) (regions : List Region) → AreGood regions → AreGood (cut_of areas xs ys regions)
cut_good areas xs ys [] good = All-nil IsGood
cut_good areas xs ys (region ∷ regions) good =
    All-append IsGood (parts_of areas xs ys region) (cut_of areas xs ys regions) (parts_good areas xs ys region (axis_to_cut region) (All-head IsGood region regions good)) (cut_good areas xs ys regions (All-tail IsGood region regions good))

pub cut_within : (limit : ℕ) (areas xs ys : List ℕ) (regions : List Region) → AreGood regions → AreWithin limit regions → AreWithin limit (cut_of areas xs ys regions)
cut_within limit areas xs ys [] good within = All-nil (IsWithin limit)
cut_within limit areas xs ys (region ∷ regions) good within =
    All-append (IsWithin limit) (parts_of areas xs ys region) (cut_of areas xs ys regions)
    (parts_within areas xs ys region (axis_to_cut region) limit (All-head IsGood region regions good) (All-head (IsWithin limit) region regions within))
    (cut_within limit areas xs ys regions (All-tail IsGood region regions good) (All-tail (IsWithin limit) region regions within))
