-- What the walk over the points in order finds, and what the two parts of a region are by it.
use Rattle.std.proofs.Common.{◌≡◌, ◌⊎◌, ℕ, ◌+◌, ◌-◌, ◌*◌, ◌<◌, ◌≤◌, Bool, true, false, not, cond, ltb, eqb, refl, List, length, get_or, take, Option, Some, None, sym, ◌∙◌, ap, subst, inl, inr, arith}
use Rattle.std.specs.Prelude.{All, slice_index, filter, nat_le}
use Rattle.std.specs.List.Sorted.{IsPermutation}
use Rattle.std.proofs.lemmas.Bool.{cases_lt, ltb-false}
use Rattle.std.proofs.lemmas.List.{length-map, get_or-map}
use Rattle.std.proofs.lemmas.List.Sums.{sum_by_more, sum_by_more_le, sum_by-take-le}
use Rattle.std.proofs.lemmas.List.Sorted.{All-permutation, sum_by-IsPermutation, length_permutation}
use Rattle.area_cut.specs.declared.axis.Axis.{Axis}
use Rattle.area_cut.specs.declared.axis.Axis.TheVariants.{X, Y}
use Rattle.area_cut.specs.declared.region.Region.{Region}
use Rattle.area_cut.specs.declared.order.Placed.{Placed}
use Rattle.area_cut.specs.Regions.{low_end, high_end, side_of, axis_to_cut}
use Rattle.area_cut.specs.Cut.{area_of, precedes, first_points, second_points, line_at, line_of}
use Rattle.area_cut.specs.Order.{IsInOrder}
use Rattle.area_cut.specs.Forms.Placed.{IsFirstCount, numbers_of}
use Rattle.area_cut.proofs.Counts.{first_are, second_are, first_area}

number_at : (order : List Placed) (k : ℕ) (d : Placed) → k < length order → get_or (numbers_of order) k 0 ≡ (get_or order k d).point
number_at order k d inside = get_or-map (λ (placed : Placed). placed.point) order k d 0 inside

pub many_numbers : (order : List Placed) → length (numbers_of order) ≡ length order
many_numbers order = length-map order (λ (placed : Placed). placed.point)

-- ---- the walk

pub walk_fits : (areas : List ℕ) (order : List Placed) (count : ℕ) (d : Placed) → count < length order → area_of areas (take count (numbers_of order)) + slice_index areas (get_or order count d).point ≤ area_of areas (numbers_of order)
walk_fits areas order count d inside =
    let more = sum_by_more_le (λ (p : ℕ). slice_index areas p) (numbers_of order) count 0 (omega (arith, many_numbers order)) in
    let at : slice_index areas (get_or (numbers_of order) count 0) ≡ slice_index areas (get_or order count d).point = ap (slice_index areas) (number_at order count d inside) in
    omega arith

pub walk_more : (areas : List ℕ) (order : List Placed) (count : ℕ) (d : Placed) → count < length order → area_of areas (take (count + 1) (numbers_of order)) ≡ area_of areas (take count (numbers_of order)) + slice_index areas (get_or order count d).point
walk_more areas order count d inside =
    let more = sum_by_more (λ (p : ℕ). slice_index areas p) (numbers_of order) count 0 (omega (arith, many_numbers order)) in
    let at : slice_index areas (get_or (numbers_of order) count 0) ≡ slice_index areas (get_or order count d).point = ap (slice_index areas) (number_at order count d inside) in
    omega arith

pub fewer_more : (areas numbers : List ℕ) (count total : ℕ) → ((m : ℕ) → 1 ≤ m → m < count → 2 * area_of areas (take m numbers) < total) → 2 * area_of areas (take count numbers) < total
    → (m : ℕ) → 1 ≤ m → m < count + 1 → 2 * area_of areas (take m numbers) < total
fewer_more areas numbers count total fewer last m some below = by_cases (cases_lt m count) where
  by_cases : (m < count) ⊎ (count ≤ m) → 2 * area_of areas (take m numbers) < total
  by_cases (inl less) = fewer m some less
  by_cases (inr at) = let same : count ≡ m = omega arith in subst (λ (j : ℕ). 2 * area_of areas (take j numbers) < total) same last

pub part_of_total : (areas numbers : List ℕ) (count : ℕ) → area_of areas (take count numbers) ≤ area_of areas numbers
part_of_total areas numbers count = sum_by-take-le (λ (p : ℕ). slice_index areas p) numbers count

-- ---- what is put in order

pub there_in_order : (n : ℕ) (points : List ℕ) (order : List Placed) → IsPermutation points (numbers_of order) → All (λ p. p < n) points → All (λ placed. placed.point < n) order
there_in_order n points order moved there = λ k d inside.
    let numbers = All-permutation (λ (p : ℕ). p < n) points (numbers_of order) moved there in
    subst (λ (p : ℕ). p < n) (number_at order k d inside) (numbers k 0 (omega (arith, many_numbers order)))

pub many_in_order : (points : List ℕ) (order : List Placed) → IsPermutation points (numbers_of order) → length order ≡ length points
many_in_order points order moved = sym (many_numbers order) ∙ length_permutation points (numbers_of order) moved

pub total_in_order : (areas points : List ℕ) (order : List Placed) → IsPermutation points (numbers_of order) → area_of areas (numbers_of order) ≡ area_of areas points
total_in_order areas points order moved = sum_by-IsPermutation (λ (p : ℕ). slice_index areas p) points (numbers_of order) moved

-- a region that is cut has two points
pub has_two : (region : Region) (axis : Axis) → axis_to_cut region ≡ Some axis → 2 ≤ length region.points
has_two region axis is = by_cases (ltb (length region.points) 2) (cond (nat_le (side_of Y region) (side_of X region)) (cond (eqb (side_of X region) 0) None (Some X)) (Some Y)) refl is where
  by_cases : (b : Bool) (other : Option Axis) → ltb (length region.points) 2 ≡ b → cond b None other ≡ Some axis → 2 ≤ length region.points
  by_cases true other few none = absurd cc
  by_cases false other many some = ltb-false (length region.points) 2 many

-- ---- the parts

-- what the code makes of a region is what the definition says
pub record AreHalves (areas mids : List ℕ) (axis : Axis) (region : Region) (line : ℕ) (first second : List ℕ) : Type 0 where
  pub line_is : line ≡ line_of areas mids axis region
  pub first_is : first ≡ first_points areas mids region.points
  pub second_is : second ≡ second_points areas mids region.points

pub are_halves : (areas mids : List ℕ) (axis : Axis) (region : Region) (order : List Placed) (count part total line last : ℕ) (first second : List ℕ)
    → IsInOrder mids region.points (numbers_of order) → IsFirstCount areas (numbers_of order) total count → total ≡ area_of areas region.points → part ≡ area_of areas (take count (numbers_of order))
    → last ≡ get_or (numbers_of order) (count - 1) 0 → first ≡ filter (λ p. not (precedes mids last p)) region.points → second ≡ filter (precedes mids last) region.points
    → line ≡ line_at (low_end axis region) (side_of axis region) part total → AreHalves areas mids axis region line first second
are_halves areas mids axis region order count part total line last first second ordered counted total_is part_is last_is first_is second_is line_is =
    let numbers = numbers_of order in
    let points = region.points in
    let by_area = subst (λ (n : ℕ). IsFirstCount areas numbers n count) total_is counted in
    record {
      line_is = line_is ∙ ap (λ (n : ℕ). line_at (low_end axis region) (side_of axis region) n total) (part_is ∙ sym (first_area areas mids points numbers count ordered by_area)) ∙ ap (λ (n : ℕ). line_at (low_end axis region) (side_of axis region) (area_of areas (first_points areas mids points)) n) total_is;
      first_is = first_is ∙ ap (λ (n : ℕ). filter (λ p. not (precedes mids n p)) points) last_is ∙ sym (first_are areas mids points numbers count ordered by_area);
      second_is = second_is ∙ ap (λ (n : ℕ). filter (precedes mids n) points) last_is ∙ sym (second_are areas mids points numbers count ordered by_area);
    }

last_number : (order : List Placed) (k : ℕ) (last : Placed) → k < length order → last ≡ get_or order k last → last.point ≡ get_or (numbers_of order) k 0
last_number order k last inside is = ap (λ (placed : Placed). placed.point) is ∙ sym (number_at order k last inside)

-- the same by calls: slice and walked are what the region's points and the points in order were lent as
pub halved : (areas mids : List ℕ) (axis : Axis) (region : Region) (slice : List ℕ) (order walked : List Placed) (last : Placed) (count part total low high line : ℕ) (first second : List ℕ)
    → slice ≡ region.points → walked ≡ order → IsInOrder mids slice (numbers_of order) → IsFirstCount areas (numbers_of walked) total count → total ≡ area_of areas slice → part ≡ area_of areas (take count (numbers_of walked))
    → last ≡ get_or order (count - 1) last → first ≡ filter (λ p. not (precedes mids last.point p)) slice → second ≡ filter (precedes mids last.point) slice
    → low ≡ low_end axis region → high ≡ high_end axis region → line ≡ line_at low (high - low) part total → AreHalves areas mids axis region line first second
halved areas mids axis region slice order walked last count part total low high line first second slice_is walked_is ordered counted total_is part_is last_is first_is second_is low_is high_is line_is =
    let by_region = subst (λ (ps : List ℕ). IsInOrder mids ps (numbers_of order)) slice_is ordered in
    let by_order = subst (λ (ps : List Placed). IsFirstCount areas (numbers_of ps) total count) walked_is counted in
    let short = by_order.short in
    are_halves areas mids axis region order count part total line last.point first second by_region by_order
    (total_is ∙ ap (area_of areas) slice_is)
    (part_is ∙ ap (λ (ps : List Placed). area_of areas (take count (numbers_of ps))) walked_is)
    (last_number order (count - 1) last (omega (arith, many_numbers order)) last_is)
    (first_is ∙ ap (filter (λ p. not (precedes mids last.point p))) slice_is)
    (second_is ∙ ap (filter (precedes mids last.point)) slice_is)
    (line_is ∙ ap (λ (n : ℕ). line_at n (high - n) part total) low_is ∙ ap (λ (n : ℕ). line_at (low_end axis region) (n - low_end axis region) part total) high_is)
