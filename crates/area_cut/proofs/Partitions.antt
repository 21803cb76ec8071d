-- Each point in exactly one region: what that says of a region, and that the cut keeps it.
use Rattle.std.proofs.Common.{◌≡◌, ℕ, zero, suc, ◌<◌, ◌≤◌, not, List, [], ◌∷◌, ◌++◌, length, get_or, sum, Option, Some, None, refl, sym, ◌∙◌, ap, subst, arith}
use Rattle.std.specs.Prelude.{map, All, sum_by, slice_index}
use Rattle.std.specs.List.{range_with_len}
use Rattle.std.specs.List.Sorted.{IsPermutation}
use Rattle.std.proofs.lemmas.List.{take_at, drop_at, append-nil}
use Rattle.std.proofs.lemmas.List.Concat.{flat_map-append}
use Rattle.std.proofs.lemmas.List.Elements.{All-take, All-drop, All-from_get_or}
use Rattle.std.proofs.lemmas.List.FromFn.{length-range_with_len, get_or-range_with_len, fill_by_all}
use Rattle.std.proofs.lemmas.List.Sums.{sum-map, sum_by-append}
use Rattle.std.proofs.lemmas.List.Sorted.{All-permutation, sum_by-IsPermutation, IsPermutation-refl, IsPermutation-trans, IsPermutation-append, IsPermutation-filter_both}
use Rattle.area_cut.specs.declared.axis.Axis.{Axis}
use Rattle.area_cut.specs.declared.axis.Axis.TheVariants.{X, Y}
use Rattle.area_cut.specs.declared.region.Region.{Region}
use Rattle.area_cut.specs.Regions.{all_points, ArePartition, axis_to_cut}
use Rattle.area_cut.specs.Cut.{area_of, in_first, first_points, second_points, line_of, below, above, halves, mids_on, parts_on, parts_of, cut_of}

-- what holds of all points holds of those of a region
pub of_region : (P : ℕ → Type 0) (regions : List Region) (k : ℕ) (d : Region) → k < length regions → All P (all_points regions) → All P (get_or regions k d).points
of_region P [] k d inside all = absurd (omega arith)
of_region P (region ∷ regions) zero d inside all = subst (All P) (take_at region.points (all_points regions) (length region.points) refl) (All-take P (length region.points) (region.points ++ all_points regions) all)
of_region P (region ∷ regions) (suc k) d inside all =
    of_region P regions k d (omega arith) (subst (All P) (drop_at region.points (all_points regions) (length region.points) refl) (All-drop P (length region.points) (region.points ++ all_points regions) all))

all_there : (n : ℕ) → All (λ p. p < n) (range_with_len 0 n)
all_there n = All-from_get_or (λ (p : ℕ). p < n) (range_with_len 0 n) 0 (λ i inside. let many = length-range_with_len 0 n in omega (arith, get_or-range_with_len 0 n i 0 (omega arith)))

-- each number that stands in a region is a point
pub are_points : (n : ℕ) (regions : List Region) (k : ℕ) (d : Region) → ArePartition n regions → k < length regions → All (λ p. p < n) (get_or regions k d).points
are_points n regions k d partition inside = of_region (λ p. p < n) regions k d inside (All-permutation (λ (p : ℕ). p < n) (range_with_len 0 n) (all_points regions) partition (all_there n))

part_of_sum : (f : ℕ → ℕ) (regions : List Region) (k : ℕ) (d : Region) → k < length regions → sum_by f (get_or regions k d).points ≤ sum_by f (all_points regions)
part_of_sum f [] k d inside = absurd (omega arith)
part_of_sum f (region ∷ regions) zero d inside = omega (arith, sum_by-append f region.points (all_points regions))
part_of_sum f (region ∷ regions) (suc k) d inside = omega (arith, sum_by-append f region.points (all_points regions), part_of_sum f regions k d (omega arith))

whole_sum : (areas : List ℕ) → sum areas ≡ area_of areas (range_with_len 0 (length areas))
whole_sum areas =
    let entries : areas ≡ map (slice_index areas) (range_with_len 0 (length areas)) = fill_by_all (slice_index areas) areas (length areas) 0 refl (λ k l. refl) in
    ap sum entries ∙ sum-map (slice_index areas) (range_with_len 0 (length areas))

-- the area of a region is at most that of all points
pub area_within : (areas : List ℕ) (regions : List Region) (k : ℕ) (d : Region) → ArePartition (length areas) regions → k < length regions → area_of areas (get_or regions k d).points ≤ sum areas
area_within areas regions k d partition inside =
    let part = part_of_sum (λ p. slice_index areas p) regions k d inside in
    let moved = sum_by-IsPermutation (λ p. slice_index areas p) (range_with_len 0 (length areas)) (all_points regions) partition in
    let all = whole_sum areas in
    omega arith

-- ---- the cut keeps the points

points_below : (axis : Axis) (region : Region) (line : ℕ) (points : List ℕ) → (below axis region line points).points ≡ points
points_below X region line points = refl
points_below Y region line points = refl

points_above : (axis : Axis) (region : Region) (line : ℕ) (points : List ℕ) → (above axis region line points).points ≡ points
points_above X region line points = refl
points_above Y region line points = refl

halves_keep : (areas mids : List ℕ) (axis : Axis) (region : Region) → IsPermutation region.points (all_points (halves areas mids axis region))
halves_keep areas mids axis region =
    let first = first_points areas mids region.points in
    let second = second_points areas mids region.points in
    let line = line_of areas mids axis region in
    let is : all_points (halves areas mids axis region) ≡ first ++ second =
    ap (λ (ps : List ℕ). ps ++ ((above axis region line second).points ++ [])) (points_below axis region line first)
    ∙ ap (λ (ps : List ℕ). first ++ (ps ++ [])) (points_above axis region line second) ∙ ap (λ (ps : List ℕ). first ++ ps) (append-nil second) in
    subst (λ (ps : List ℕ). IsPermutation region.points ps) (sym is) (IsPermutation-filter_both (in_first areas mids region.points) (λ p. not (in_first areas mids region.points p)) (λ _. refl) region.points)

parts_keep_points : (areas xs ys : List ℕ) (region : Region) (axis : Option Axis) → IsPermutation region.points (all_points (parts_on areas xs ys region axis))
parts_keep_points areas xs ys region None = subst (λ (ps : List ℕ). IsPermutation region.points ps) (sym (append-nil region.points)) (IsPermutation-refl region.points)
parts_keep_points areas xs ys region (Some axis) = halves_keep areas (mids_on axis xs ys) axis region

flat_points : (parts regions : List Region) → all_points (parts ++ regions) ≡ all_points parts ++ all_points regions
flat_points parts regions = flat_map-append (λ (region : Region). region.points) parts regions

pub cut_keeps_points : (areas xs ys : List ℕ) (regions : List Region) → IsPermutation (all_points regions) (all_points (cut_of areas xs ys regions))
cut_keeps_points areas xs ys [] = IsPermutation-refl []
cut_keeps_points areas xs ys (region ∷ regions) =
    subst (λ (ps : List ℕ). IsPermutation (region.points ++ all_points regions) ps) (sym (flat_points (parts_of areas xs ys region) (cut_of areas xs ys regions)))
    (IsPermutation-append region.points (all_points (parts_of areas xs ys region)) (all_points regions) (all_points (cut_of areas xs ys regions)) (parts_keep_points areas xs ys region (axis_to_cut region)) (cut_keeps_points areas xs ys regions))

pub cut_keeps_partition : (n : ℕ) (areas xs ys : List ℕ) (regions : List Region) → ArePartition n regions → ArePartition n (cut_of areas xs ys regions)
cut_keeps_partition n areas xs ys regions partition = IsPermutation-trans (range_with_len 0 n) (all_points regions) (all_points (cut_of areas xs ys regions)) partition (cut_keeps_points areas xs ys regions)

-- one region with all points
pub one_region : (n : ℕ) (region : Region) → region.points ≡ range_with_len 0 n → ArePartition n (region ∷ [])
one_region n region is = subst (λ (ps : List ℕ). IsPermutation (range_with_len 0 n) ps) (sym (append-nil region.points ∙ is)) (IsPermutation-refl (range_with_len 0 n))
