-- The lines of a placement, node by node.
use Rattle.std.proofs.Common.{◌≡◌, ℕ, ◌+◌, ◌*◌, ◌<◌, ◌≤◌, Bool, true, false, List, [], ◌∷◌, ◌++◌, length, get_or, map, refl, sym, ◌∙◌, ap, subst, arith, zero-add, ℤ, pos, negsuc, ◌+ℤ◌, ◌*ℤ◌, ◌≤ℤ◌, neg_ℤ, rules, w64, to_z, of_z}
use mir.Val.{SFits}
use Rattle.std.specs.Prelude.{Some, None, All, if◌then◌else◌}
use Rattle.std.specs.List.{count_by, range_with_len, AllByRecursion}
use Rattle.std.proofs.Math.Nat.{mul-le-mul_right}
use Rattle.std.proofs.lemmas.Int.{ints, to_z-of_z}
use Rattle.std.proofs.lemmas.List.{get_or-map, map-append}
use Rattle.std.proofs.lemmas.List.FromFn.{map-range_with_len_more, length-map-range_with_len, get_or-map-range_with_len}
use Rattle.std.proofs.lemmas.List.Elements.{All-from_get_or, All-push, recursion_from_All}
use Rattle.book_files.specs.declared.records.PlaceLine.{PlaceLine}
use Rattle.book_files.specs.Entries.{PlaceEntry, place_entry, place_entries}
use Rattle.book_files.specs.Ranges.{IsName, IsMarkedWell}
use Rattle.book_design.specs.declared.parts.Node.{Node}
use Rattle.book_design.specs.Values.{NodeValue, DesignValue, node_value, node_values}
use Rattle.book_design.specs.Points.{is_movable, node_value_at, movable_before}
use Rattle.book_design.specs.WellFormed.{IsDesign, IsGoodNode}
use Rattle.row_space.specs.declared.parts.Segment.{Segment}
use Rattle.row_space.specs.Values.{SegmentsValue, segment_at}
use Rattle.row_space.specs.Ends.{IsGoodSegment, AreGoodSegments}
use Rattle.row_legal.specs.declared.parts.Place.{Place}
use Rattle.row_legal.specs.Cells.{CellsValue, count}
use Rattle.row_legal.specs.Places.{IsLegalised}
use Rattle.row_legal.specs.Apart.{AreApart}
use Rattle.row_legal.specs.Legal.{Spot, spot_at, IsLegal}
use Rattle.row_legal.specs.Spots.{spot_of, spots_of, AreSitesOf}
use Rattle.row_space.specs.Runs.{segments_of}
use Rattle.wire_report.specs.declared.corner.Corner.{Corner}
use Rattle.wire_report.specs.Wire.{IsNearCorner, corner_at}
use Rattle.proud_top.specs.Placement.{corner_from, corner_of, corners_of, place_with, place_of, places_of}
use Rattle.proud_top.specs.Forms.Cells.{ArePlacedIn, AreWithin, IsWithin}
use Rattle.proud_top.proofs.Nodes.{no_node, point_there}
use Rattle.proud_top.proofs.Wishing.{good_node, no_record}

-- ---- places

-- the places of the greedy rule lie within their segments
pub within_of : (design : DesignValue) (rows : SegmentsValue) (places : List Place) → ((cells : CellsValue) → IsLegalised rows cells places → AreApart rows cells places) → ArePlacedIn design rows places
    → AreWithin (count_by is_movable design.nodes) rows places
within_of design rows places law h =
    let apart = law h.cells h.legalised in
    let all = h.sites.all in
    record {
      all = apart.all ∙ all;
      each = λ p below.
          let there : p < count h.cells = omega (arith, below, all) in
          record { there = apart.there p there; within = omega (arith, apart.within p there) };
    }

-- and the cells stand legally there
pub legal_of : (design : DesignValue) (rows : SegmentsValue) (places : List Place) → IsDesign design → ((cells : CellsValue) → IsLegalised rows cells places → AreApart rows cells places)
    → ((cells : CellsValue) → IsDesign design → AreSitesOf design cells.sites → AreApart (segments_of design) cells places → IsLegal design (spots_of (segments_of design) places)) → ArePlacedIn design rows places
    → IsLegal design (spots_of rows places)
legal_of design rows places valid apart legal h =
    let P : SegmentsValue → Type 0 = λ r. IsLegal design (spots_of r places) in
    let Q : SegmentsValue → Type 0 = λ r. AreApart r h.cells places in
    subst P (sym h.spaced) (legal h.cells valid h.sites (subst Q h.spaced (apart h.cells h.legalised)))

-- ---- a spot

-- so many sites right of where a segment begins, up to its end
record IsSide (x pitch : ℤ) (a b : ℕ) : Type 0 where
  start : pos 0 ≤ℤ (pos a *ℤ pitch)
  most : (pos a *ℤ pitch) ≤ℤ (pos b *ℤ pitch)

side : (x pitch : ℤ) (a b : ℕ) → pos 1 ≤ℤ pitch → a ≤ b → IsSide x pitch a b
side x (pos p) a b some le =
    let wide = mul-le-mul_right {m = a} {n = b} p le in
    record { start = omega (arith, ints); most = omega (arith, ints, wide) }
side x (negsuc p) a b some le = absurd (omega (arith, ints))

pub record IsNearSpot (x pitch : ℤ) (site : ℕ) : Type 0 where
  pub product_low : pos 0 ≤ℤ (pos site *ℤ pitch)
  pub product_high : (pos site *ℤ pitch) ≤ℤ pos (2 * 1000000000000)
  pub low : neg_ℤ (pos 1000000000000) ≤ℤ (x +ℤ pos site *ℤ pitch)
  pub high : (x +ℤ pos site *ℤ pitch) ≤ℤ pos 1000000000000
  pub x_low : neg_ℤ (pos 1000000000000) ≤ℤ x
  pub x_high : x ≤ℤ pos 1000000000000
  pub spaced : pos 1 ≤ℤ pitch

pub near_spot : (pitch : ℤ) (segment : Segment) (site : ℕ) → IsGoodSegment pitch segment → site ≤ segment.sites → IsNearSpot segment.x pitch site
near_spot pitch segment site good le =
    let s = side segment.x pitch site segment.sites good.spaced le in
    let start = s.start in
    let most = s.most in
    let left = good.left in
    let right = good.right in
    record {
      product_low = start;
      product_high = omega (arith, ints, start, most, left, right);
      low = omega (arith, ints, start, left);
      high = omega (arith, ints, most, right);
      x_low = left;
      x_high = omega (arith, ints, start, most, right);
      spaced = good.spaced;
    }

-- the numbers of a spot fit
fits : (z : ℤ) → neg_ℤ (pos 1000000000000) ≤ℤ z → z ≤ℤ pos 1000000000000 → SFits w64 z
fits z low high = search (rules, ints)

fits_wide : (z : ℤ) → pos 0 ≤ℤ z → z ≤ℤ pos (2 * 1000000000000) → SFits w64 z
fits_wide z low high = search (rules, ints)

pub spot_fits : (x s p : ℤ) (site : ℕ) (pitch : ℤ) → SFits w64 s → SFits w64 p → s ≡ pos site → p ≡ pitch → IsNearSpot x pitch site
    → SFits w64 (to_z w64 (of_z w64 x) +ℤ to_z w64 (of_z w64 (to_z w64 (of_z w64 s) *ℤ to_z w64 (of_z w64 p))))
spot_fits x s p site pitch s_fits p_fits e f near =
    let P : ℤ → Type 0 = λ z. SFits w64 z in
    let product : (s *ℤ p) ≡ (pos site *ℤ pitch) = ap (λ (z : ℤ). z *ℤ p) e ∙ ap (λ (z : ℤ). pos site *ℤ z) f in
    let x_fits : SFits w64 x = fits x near.x_low near.x_high in
    let product_fits : SFits w64 (s *ℤ p) = subst P (sym product) (fits_wide (pos site *ℤ pitch) near.product_low near.product_high) in
    let sum_fits : SFits w64 (x +ℤ s *ℤ p) = subst P (sym (ap (λ (z : ℤ). x +ℤ z) product)) (fits (x +ℤ pos site *ℤ pitch) near.low near.high) in
    simp to_z-of_z sum_fits

pub spot_value : (x s p : ℤ) (site : ℕ) (pitch : ℤ) → SFits w64 s → SFits w64 p → s ≡ pos site → p ≡ pitch → IsNearSpot x pitch site
    → to_z w64 (of_z w64 (to_z w64 (of_z w64 x) +ℤ to_z w64 (of_z w64 (to_z w64 (of_z w64 s) *ℤ to_z w64 (of_z w64 p))))) ≡ (x +ℤ pos site *ℤ pitch)
spot_value x s p site pitch s_fits p_fits e f near =
    let P : ℤ → Type 0 = λ z. SFits w64 z in
    let product : (s *ℤ p) ≡ (pos site *ℤ pitch) = ap (λ (z : ℤ). z *ℤ p) e ∙ ap (λ (z : ℤ). pos site *ℤ z) f in
    let x_fits : SFits w64 x = fits x near.x_low near.x_high in
    let product_fits : SFits w64 (s *ℤ p) = subst P (sym product) (fits_wide (pos site *ℤ pitch) near.product_low near.product_high) in
    let sum_fits : SFits w64 (x +ℤ s *ℤ p) = subst P (sym (ap (λ (z : ℤ). x +ℤ z) product)) (fits (x +ℤ pos site *ℤ pitch) near.low near.high) in
    simp to_z-of_z (ap (λ (z : ℤ). x +ℤ z) product)

-- the segment that is read
pub spot_near : (rows : SegmentsValue) (list : List Segment) (place : Place) → list ≡ rows.segments → AreGoodSegments rows.pitch rows.segments → IsWithin rows place
    → IsNearSpot (segment_at list place.segment).x rows.pitch place.site
spot_near rows list place same good within =
    let P : List Segment → Type 0 = λ segments. IsNearSpot (segment_at segments place.segment).x rows.pitch place.site in
    subst P (sym same) (near_spot rows.pitch (segment_at rows.segments place.segment) place.site (good place.segment within.there) within.within)

-- and the y of its row
pub row_value : (rows : SegmentsValue) (list : List Segment) (place : Place) → list ≡ rows.segments → AreGoodSegments rows.pitch rows.segments → IsWithin rows place
    → to_z w64 (of_z w64 (segment_at list place.segment).y) ≡ (segment_at rows.segments place.segment).y
row_value rows list place same good within =
    let segment = good place.segment within.there in
    let y_fits : SFits w64 (segment_at rows.segments place.segment).y = fits (segment_at rows.segments place.segment).y segment.low segment.high in
    let P : List Segment → Type 0 = λ segments. to_z w64 (of_z w64 (segment_at segments place.segment).y) ≡ (segment_at rows.segments place.segment).y in
    subst P (sym same) (simp to_z-of_z refl)

-- ---- corners and lines

-- the point of a place that is read
pub point_spot : (rows : SegmentsValue) (places : List Place) (p : ℕ) (d : Place) → p < length places → spot_at (spots_of rows places) p ≡ spot_of rows (get_or places p d)
point_spot rows places p d there = get_or-map (spot_of rows) places p d (record { x = pos 0; y = pos 0 }) there

-- what stands in front of a node
pub moves : (node : NodeValue) → node.fixed ≡ false → is_movable node ≡ true
moves node e = rw e refl

pub corner_fixed : (nodes : List NodeValue) (spots : List Spot) (i : ℕ) → (node_value_at nodes i).fixed ≡ true → corner_of nodes spots i ≡ record { x = (node_value_at nodes i).x; y = (node_value_at nodes i).y }
corner_fixed nodes spots i e = rw e refl

pub corner_moves : (nodes : List NodeValue) (spots : List Spot) (i : ℕ) → (node_value_at nodes i).fixed ≡ false → corner_of nodes spots i ≡ corner_from (spot_at spots (movable_before nodes i))
corner_moves nodes spots i e = rw e refl

-- what an answer of a node's point says
pub record IsPointAt (nodes : List NodeValue) (i point : ℕ) : Type 0 where
  pub fixed : (node_value_at nodes i).fixed ≡ false
  pub number : movable_before nodes i ≡ point
  pub there : point < count_by is_movable nodes

pub some_point : (nodes : List NodeValue) (i point : ℕ) → i < length nodes → Some point ≡ (if (node_value_at nodes i).fixed then None else Some (movable_before nodes i)) → IsPointAt nodes i point
some_point nodes i point inside e = by_test (node_value_at nodes i).fixed refl where
  by_test : (b : Bool) → (node_value_at nodes i).fixed ≡ b → IsPointAt nodes i point
  by_test true t = absurd (clash (e ∙ rw t refl)) where
    clash : Some point ≡ None → ⊥
    clash c = cc
  by_test false t =
      let same : point ≡ movable_before nodes i = same_some (e ∙ rw t refl) in
      record { fixed = t; number = sym same; there = point_there nodes point i (record { there = inside; movable = moves (node_value_at nodes i) t; number = sym same }) } where
        same_some : Some point ≡ Some (movable_before nodes i) → point ≡ movable_before nodes i
        same_some c = cc

pub no_point : (nodes : List NodeValue) (i : ℕ) → None ≡ (if (node_value_at nodes i).fixed then None else Some (movable_before nodes i)) → (node_value_at nodes i).fixed ≡ true
no_point nodes i e = by_test (node_value_at nodes i).fixed refl where
  by_test : (b : Bool) → (node_value_at nodes i).fixed ≡ b → (node_value_at nodes i).fixed ≡ true
  by_test true t = t
  by_test false t = absurd (clash (e ∙ rw t refl)) where
    clash : None ≡ Some (movable_before nodes i) → ⊥
    clash c = cc

-- the spot of the place that is read is the corner of the node
pub spot_same : (nodes : List NodeValue) (rows : SegmentsValue) (places : List Place) (i point : ℕ) (d : Place) → AreWithin (count_by is_movable nodes) rows places → IsPointAt nodes i point
    → corner_from (spot_of rows (get_or places point d)) ≡ corner_of nodes (spots_of rows places) i
spot_same nodes rows places i point d within at =
    let there : point < length places = let all = within.all in let below = at.there in omega arith in
    ap corner_from (sym (point_spot rows places point d there) ∙ ap (λ (q : ℕ). spot_at (spots_of rows places) q) (sym at.number)) ∙ sym (corner_moves nodes (spots_of rows places) i at.fixed)

abbrev pub corner_with : ℤ → ℤ → Corner
corner_with x y = record { x = x; y = y }

-- the corner of a fixed node of the design lies near
pub node_near : (design : DesignValue) (i : ℕ) → IsDesign design → i < length design.nodes → IsNearCorner (record { x = (node_value_at design.nodes i).x; y = (node_value_at design.nodes i).y })
node_near design i valid there = let good = good_node design i valid there in record { x = good.x; y = good.y }

-- and so does the spot of a place
pub place_near : (rows : SegmentsValue) (place : Place) → AreGoodSegments rows.pitch rows.segments → IsWithin rows place → IsNearCorner (corner_from (spot_of rows place))
place_near rows place good within =
    let segment = good place.segment within.there in
    let near = near_spot rows.pitch (segment_at rows.segments place.segment) place.site segment within.within in
    record { x = record { low = near.low; high = near.high }; y = record { low = segment.low; high = segment.high } }

-- the corners of the first so many nodes
pub record AreCornersTo (nodes : List NodeValue) (spots : List Spot) (n : ℕ) (corners : List Corner) : Type 0 where
  pub are : corners ≡ map (corner_of nodes spots) (range_with_len 0 n)
  pub near : All IsNearCorner corners

-- one more corner
pub corners_more : (nodes : List NodeValue) (spots : List Spot) (n : ℕ) (corners more : List Corner) (corner : Corner) → AreCornersTo nodes spots n corners → more ≡ corners ++ corner ∷ [] → corner ≡ corner_of nodes spots n
    → IsNearCorner corner → AreCornersTo nodes spots (n + 1) more
corners_more nodes spots n corners more corner h pushed is near = record {
  are = pushed ∙ ap (λ (front : List Corner). front ++ corner ∷ []) h.are ∙ ap (λ (last : Corner). map (corner_of nodes spots) (range_with_len 0 n) ++ last ∷ []) is
      ∙ sym (map-range_with_len_more (corner_of nodes spots) 0 n n (zero-add n));
  near = subst (λ (list : List Corner). All IsNearCorner list) (sym pushed) (All-push IsNearCorner corners corner h.near near);
}

-- there is one for each node
pub corner_each : (design : DesignValue) (spots : List Spot) → length (corners_of design spots) ≡ length design.nodes
corner_each design spots = length-map-range_with_len (corner_of design.nodes spots) 0 (length design.nodes)

-- one more line
pub lines_more : (nodes : List NodeValue) (corners : List Corner) (lines more : List PlaceLine) (line : PlaceLine) (i : ℕ) → place_entries lines ≡ map (place_of nodes corners) (range_with_len 0 i)
    → more ≡ lines ++ line ∷ [] → place_entry line ≡ place_of nodes corners i → place_entries more ≡ map (place_of nodes corners) (range_with_len 0 (i + 1))
lines_more nodes corners lines more line i h pushed is =
    ap place_entries pushed ∙ map-append place_entry lines (line ∷ []) ∙ ap (λ (front : List PlaceEntry). front ++ place_entry line ∷ []) h
    ∙ ap (λ (entry : PlaceEntry). map (place_of nodes corners) (range_with_len 0 i) ++ entry ∷ []) is ∙ sym (map-range_with_len_more (place_of nodes corners) 0 i i (zero-add i))

-- the line of the node and the corner that are read
pub line_read : (nodes : List Node) (corners : List Corner) (i : ℕ) → i < length nodes → length corners ≡ length nodes
    → place_with (node_value (get_or nodes i no_record)) (corner_at corners i) i ≡ place_of (node_values nodes) corners i
line_read nodes corners i there each = ap (λ (value : NodeValue). place_with value (corner_at corners i) i) (sym (get_or-map node_value nodes i no_record no_node there))

-- a corner of these numbers
pub same_corner : (x y a b : ℤ) → x ≡ a → y ≡ b → corner_with x y ≡ corner_with a b
same_corner x y a b e f = ap (λ (z : ℤ). corner_with z y) e ∙ ap (λ (z : ℤ). corner_with a z) f

-- the node that is read
pub node_read : (design : DesignValue) (nodes : List Node) (i : ℕ) (node : Node) → node_values nodes ≡ design.nodes → i < length nodes → node ≡ get_or nodes i node → node_value node ≡ node_value_at design.nodes i
node_read design nodes i node same there is =
    ap node_value is ∙ sym (get_or-map node_value nodes i node no_node there) ∙ ap (λ (list : List NodeValue). node_value_at list i) same

-- ---- what holds of each line, since it holds of each node

lines_good : (P : PlaceEntry → Type 0) (design : DesignValue) (corners : List Corner) → IsDesign design
    → ((i : ℕ) → IsGoodNode design.row_height (node_value_at design.nodes i) → P (place_of design.nodes corners i)) → AllByRecursion P (places_of design.nodes corners)
lines_good P design corners valid each =
    let n = length design.nodes in
    let line : ℕ → PlaceEntry = place_of design.nodes corners in
    recursion_from_All P (places_of design.nodes corners) (All-from_get_or P (places_of design.nodes corners) (line 0) (λ i inside.
    let below : i < n = omega (arith, inside, length-map-range_with_len line 0 n) in
    subst P (sym (get_or-map-range_with_len line 0 n i i (line 0) below (zero-add i))) (each i (good_node design i valid below))))

pub names_good : (design : DesignValue) (corners : List Corner) → IsDesign design → AllByRecursion (λ place. IsName place.name) (places_of design.nodes corners)
names_good design corners valid = lines_good (λ place. IsName place.name) design corners valid (λ i good. good.name)

pub marks_good : (design : DesignValue) (corners : List Corner) → IsDesign design → AllByRecursion (λ place. IsMarkedWell place.fixed place.overlap) (places_of design.nodes corners)
marks_good design corners valid = lines_good (λ place. IsMarkedWell place.fixed place.overlap) design corners valid (λ i good. good.marks)
