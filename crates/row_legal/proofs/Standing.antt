-- Places that are apart, in segments that are clear, are legal.
use Rattle.std.proofs.Common.{◌≡◌, ◌≢◌, ℕ, ◌+◌, ◌*◌, ◌<◌, ◌≤◌, Bool, true, false, cond, List, [], refl, sym, ap, ◌∙◌, subst, inl, inr, arith, ℤ, pos, negsuc, ◌+ℤ◌, ◌*ℤ◌, ◌≤ℤ◌}
use Rattle.std.specs.Prelude.{◌&&◌}
use Rattle.std.specs.Int.{div_ceil}
use Rattle.std.specs.List.{count_by}
use Rattle.std.proofs.Math.Nat.{mul-le-mul_right}
use Rattle.std.proofs.lemmas.Int.{ints, clamps}
use Rattle.std.proofs.lemmas.Bool.{both_ways, not-true, cases_order, false_from_ne_true}
use Rattle.std.proofs.lemmas.Grind.{div_ceil_times}
use Rattle.std.proofs.lemmas.List.{get_or-map, length-map}
use Rattle.std.proofs.lemmas.List.Sums.{sum_by_more_le}
use Rattle.std.proofs.lemmas.List.Elements.{All-from_recursion}
use Rattle.book_design.specs.Values.{NodeValue, DesignValue}
use Rattle.book_design.specs.Points.{is_movable, node_value_at, IsNodeOf, site_count, movable_before}
use Rattle.book_design.specs.WellFormed.{IsDesign, IsGoodNode, subrow_at}
use Rattle.row_space.specs.declared.parts.Segment.{Segment}
use Rattle.row_space.specs.Values.{segment_at}
use Rattle.row_space.specs.Rectangles.{Rectangle, share_area, node_rectangle, segment_rectangle, forbids_overlap, blocks}
use Rattle.row_space.specs.Runs.{segments_of}
use Rattle.row_space.specs.Clear.{AreClear}
use Rattle.row_space.proofs.Meeting.{Meet, shares, of_shares}
use Rattle.row_legal.specs.declared.parts.Place.{Place}
use Rattle.row_legal.specs.Cells.{CellsValue, count, sites_at}
use Rattle.row_legal.specs.Places.{place_at}
use Rattle.row_legal.specs.Apart.{AreApart}
use Rattle.row_legal.specs.Legal.{Spot, spot_at, LiesIn, IsLegalCell, IsLegal}
use Rattle.row_legal.specs.Spots.{spot_of, spots_of, AreSitesOf}

-- ---- rectangles

-- what shares no area with two rectangles shares none with parts of them
parts_apart : (a b r q : Rectangle) → LiesIn a r → LiesIn b q → share_area r q ≡ false → share_area a b ≡ false
parts_apart a b r q in_r in_q apart = false_from_ne_true (share_area a b) (λ holds.
    let m = shares a b holds in
    let whole : Meet r q = record { columns = omega (arith, ints, clamps, m.columns, in_r.left, in_r.right, in_q.left, in_q.right); rows = omega (arith, ints, clamps, m.rows, in_r.lower, in_r.upper, in_q.lower, in_q.upper) } in
    both_ways (share_area r q) apart (of_shares r q whole))

itself : (a : Rectangle) → LiesIn a a
itself a = record { left = omega (arith, ints); right = omega (arith, ints); lower = omega (arith, ints); upper = omega (arith, ints) }

-- side by side
beside : (a b : Rectangle) → a.right ≤ℤ b.left → share_area a b ≡ false
beside a b h = false_from_ne_true (share_area a b) (λ holds. let m = shares a b holds in absurd (omega (arith, ints, clamps, m.columns)))

beside_too : (a b : Rectangle) → b.right ≤ℤ a.left → share_area a b ≡ false
beside_too a b h = false_from_ne_true (share_area a b) (λ holds. let m = shares a b holds in absurd (omega (arith, ints, clamps, m.columns)))

swapped : (a b : Rectangle) → share_area b a ≡ false → share_area a b ≡ false
swapped a b apart = false_from_ne_true (share_area a b) (λ holds.
    let m = shares a b holds in
    let back : Meet b a = record { columns = omega (arith, ints, clamps, m.columns); rows = omega (arith, ints, clamps, m.rows) } in
    both_ways (share_area b a) apart (of_shares b a back))

-- ---- sites

-- so many sites are as wide as their number times the pitch
record Side (pitch : ℤ) (a b c : ℕ) : Type 0 where
  sum : (pos (a + b) *ℤ pitch) ≡ pos a *ℤ pitch +ℤ pos b *ℤ pitch
  most : (pos (a + b) *ℤ pitch) ≤ℤ (pos c *ℤ pitch)
  start : pos 0 ≤ℤ (pos a *ℤ pitch)

side : (pitch : ℤ) (a b c : ℕ) → pos 1 ≤ℤ pitch → a + b ≤ c → Side pitch a b c
side (pos p) a b c some le =
    let wide = mul-le-mul_right {m = a + b} {n = c} p le in
    record { sum = omega (arith, ints); most = omega (arith, ints, wide); start = omega (arith, ints) }
side (negsuc p) a b c some le = absurd (omega (arith, ints))

-- so many sites at a spot
abbrev sites_at_spot : DesignValue → ℕ → Spot → Rectangle
sites_at_spot design sites spot = record { left = spot.x; right = spot.x +ℤ pos sites *ℤ design.pitch; lower = spot.y; upper = spot.y +ℤ design.row_height }

cell_within : (design : DesignValue) (segment : Segment) (site w : ℕ) (spot : Spot) → pos 1 ≤ℤ design.pitch → site + w ≤ segment.sites
    → spot.x ≡ segment.x +ℤ pos site *ℤ design.pitch → spot.y ≡ segment.y → LiesIn (sites_at_spot design w spot) (segment_rectangle design segment)
cell_within design segment site w spot some fits x y =
    let s = side design.pitch site w segment.sites some fits in
    record {
      left = omega (arith, ints, s.start, x);
      right = omega (arith, ints, s.sum, s.most, x);
      lower = omega (arith, ints, y);
      upper = omega (arith, ints, y);
    }

times : (w p n : ℕ) → w ≤ div_ceil w p * p → div_ceil w p ≤ n → w ≤ n * p
times w p n h le = omega (arith, h, mul-le-mul_right {m = div_ceil w p} {n = n} p le)

wide_enough : (width pitch : ℤ) → pos 0 ≤ℤ width → pos 1 ≤ℤ pitch → width ≤ℤ (pos (site_count width pitch) *ℤ pitch)
wide_enough (pos w) (pos p) sign some =
    let enough = times w p (site_count (pos w) (pos p)) ((div_ceil_times w p (omega (arith, ints))).0) (omega arith) in
    omega (arith, ints, enough)
wide_enough (pos w) (negsuc p) sign some = absurd (omega (arith, ints))
wide_enough (negsuc w) pitch sign some = absurd (omega (arith, ints))

-- ---- cells

abbrev one_if : Bool → ℕ
one_if b = cond b 1 0

-- the point of a node is one of the points
point_there : (design : DesignValue) (p i : ℕ) → IsNodeOf design.nodes p i → p < count_by is_movable design.nodes
point_there design p i node =
    let more = sum_by_more_le (λ (n : NodeValue). one_if (is_movable n)) design.nodes i (node_value_at [] 0) node.there in
    let one : one_if (is_movable (node_value_at design.nodes i)) ≡ 1 = ap one_if node.movable in
    omega (arith, more, one, node.number)

two_points : (design : DesignValue) (p q i j : ℕ) → IsNodeOf design.nodes p i → IsNodeOf design.nodes q j → i ≡ j → p ≡ q
two_points design p q i j at_p at_q same = sym at_p.number ∙ ap (movable_before design.nodes) same ∙ at_q.number

-- a cell at its place, as its rectangle
record IsCell (design : DesignValue) (cells : CellsValue) (places : List Place) (p i : ℕ) : Type 0 where
  there : p < count cells
  sites : sites_at cells p ≡ site_count (node_value_at design.nodes i).width design.pitch
  spot : spot_at (spots_of (segments_of design) places) p ≡ spot_of (segments_of design) (place_at places p)

cell_of : (design : DesignValue) (cells : CellsValue) (places : List Place) → AreSitesOf design cells.sites → AreApart (segments_of design) cells places
    → (p i : ℕ) → IsNodeOf design.nodes p i → IsCell design cells places p i
cell_of design cells places sites apart p i node =
    let there : p < count cells = omega (arith, point_there design p i node, sites.all) in
    record {
      there = there;
      sites = sites.each p i node;
      spot = get_or-map (spot_of (segments_of design)) places p (place_at [] 0) (spot_at [] 0) (omega (arith, there, apart.all));
    }

-- the rectangle of a cell lies within that of its segment
in_segment : (design : DesignValue) (cells : CellsValue) (places : List Place) → IsDesign design → AreApart (segments_of design) cells places
    → (p : ℕ) (w : ℕ) → p < count cells → sites_at cells p ≡ w
    → LiesIn (sites_at_spot design w (spot_of (segments_of design) (place_at places p))) (segment_rectangle design (segment_at (segments_of design).segments (place_at places p).segment))
in_segment design cells places valid apart p w lt is =
    cell_within design (segment_at (segments_of design).segments (place_at places p).segment) (place_at places p).site w (spot_of (segments_of design) (place_at places p)) valid.pitch_sign
    (omega (arith, apart.within p lt, is)) refl refl

not_blocked : (node : NodeValue) (r q : Rectangle) → LiesIn r q → blocks node q ≡ false → blocks node r ≡ false
not_blocked node r q within clear = by_forbids (forbids_overlap node) clear where
  by_forbids : (b : Bool) → (b && share_area (node_rectangle node) q) ≡ false → (b && share_area (node_rectangle node) r) ≡ false
  by_forbids true h = parts_apart (node_rectangle node) r (node_rectangle node) q (itself (node_rectangle node)) within h
  by_forbids false h = refl

-- some sites of a run of a subrow, told from the subrow's first
onward : (pitch x seg : ℤ) (from site : ℕ) → pos 1 ≤ℤ pitch → seg ≡ x +ℤ pos from *ℤ pitch → (seg +ℤ pos site *ℤ pitch) ≡ x +ℤ pos (from + site) *ℤ pitch
onward pitch x seg from site some is = let s = side pitch from site (from + site) some (omega arith) in omega (arith, ints, s.sum, is)

legal_cell : (design : DesignValue) (cells : CellsValue) (places : List Place) → IsDesign design → AreClear design → AreSitesOf design cells.sites → AreApart (segments_of design) cells places
    → (p i : ℕ) → IsNodeOf design.nodes p i → IsLegalCell design (node_value_at design.nodes i) (spot_of (segments_of design) (place_at places p))
legal_cell design cells places valid clear sites apart p i node =
    let cell = cell_of design cells places sites apart p i node in
    let at = place_at places p in
    let w = site_count (node_value_at design.nodes i).width design.pitch in
    let segment = segment_at (segments_of design).segments at.segment in
    let run = clear.each at.segment (apart.there p cell.there) in
    let subrow = subrow_at design.subrows run.subrow in
    let good = All-from_recursion (IsGoodNode design.row_height) design.nodes valid.nodes i (node_value_at [] 0) node.there in
    let fits : at.site + w ≤ segment.sites = omega (arith, apart.within p cell.there, cell.sites) in
    let here = onward design.pitch subrow.x segment.x run.from at.site valid.pitch_sign run.left in
    let ends = side design.pitch (run.from + at.site) w subrow.sites valid.pitch_sign (omega (arith, fits, run.within)) in
    record {
      subrow = run.subrow;
      there = run.there;
      pitches = run.from + at.site;
      left = here;
      lower = run.lower;
      within = record {
        left = omega (arith, ints, here, ends.start);
        right = omega (arith, ints, here, ends.sum, ends.most);
        lower = omega (arith, ints, run.lower);
        upper = omega (arith, ints, run.lower);
      };
      contains = record {
        left = omega (arith, ints);
        right = omega (arith, ints, wide_enough (node_value_at design.nodes i).width design.pitch good.width_sign valid.pitch_sign);
        lower = omega (arith, ints);
        upper = omega (arith, ints, good.low (not-true (node_value_at design.nodes i).fixed node.movable));
      };
      free = λ k lt. not_blocked (node_value_at design.nodes k) (sites_at_spot design w (spot_of (segments_of design) at)) (segment_rectangle design segment)
          (in_segment design cells places valid apart p w cell.there cell.sites) (run.free k lt);
    }

-- two cells, in one segment or in two
cells_apart : (design : DesignValue) (cells : CellsValue) (places : List Place) → IsDesign design → AreClear design → AreApart (segments_of design) cells places
    → (p q v w : ℕ) → p ≢ q → p < count cells → q < count cells → sites_at cells p ≡ v → sites_at cells q ≡ w
    → share_area (sites_at_spot design v (spot_of (segments_of design) (place_at places p))) (sites_at_spot design w (spot_of (segments_of design) (place_at places q))) ≡ false
cells_apart design cells places valid clear apart p q v w other lt_p lt_q is_v is_w =
    let a = place_at places p in
    let b = place_at places q in
    let in_a = in_segment design cells places valid apart p v lt_p is_v in
    let in_b = in_segment design cells places valid apart q w lt_q is_w in
    let rect_a = sites_at_spot design v (spot_of (segments_of design) a) in
    let rect_b = sites_at_spot design w (spot_of (segments_of design) b) in
    let seg_a = segment_at (segments_of design).segments a.segment in
    let seg_b = segment_at (segments_of design).segments b.segment in
    elim (cases_order a.segment b.segment) [
      | inl same ↦
          let left : seg_a.x ≡ seg_b.x = ap (λ s. (segment_at (segments_of design).segments s).x) same in
          elim (apart.apart p q other lt_p lt_q same) [
            | inl before ↦ let s = side design.pitch a.site v b.site valid.pitch_sign (omega (arith, before, is_v)) in beside rect_a rect_b (omega (arith, ints, s.sum, s.most, left))
            | inr after ↦ let s = side design.pitch b.site w a.site valid.pitch_sign (omega (arith, after, is_w)) in beside_too rect_a rect_b (omega (arith, ints, s.sum, s.most, left))
          ]
      | inr differ ↦ elim differ [
        | inl before ↦ parts_apart rect_a rect_b (segment_rectangle design seg_a) (segment_rectangle design seg_b) in_a in_b (clear.apart a.segment b.segment before (apart.there q lt_q))
        | inr after ↦ parts_apart rect_a rect_b (segment_rectangle design seg_a) (segment_rectangle design seg_b) in_a in_b
            (swapped (segment_rectangle design seg_a) (segment_rectangle design seg_b) (clear.apart b.segment a.segment after (apart.there p lt_p)))
      ]
    ]

pub legal : (design : DesignValue) (cells : CellsValue) (places : List Place) → IsDesign design → AreClear design → AreSitesOf design cells.sites → AreApart (segments_of design) cells places
    → IsLegal design (spots_of (segments_of design) places)
legal design cells places valid clear sites apart = record {
  all = length-map places (spot_of (segments_of design)) ∙ apart.all ∙ sites.all;
  each = λ p i node.
      let cell = cell_of design cells places sites apart p i node in
      subst (λ (spot : Spot). IsLegalCell design (node_value_at design.nodes i) spot) (sym cell.spot) (legal_cell design cells places valid clear sites apart p i node);
  apart = λ p q i j other at_p at_q.
      let one = cell_of design cells places sites apart p i at_p in
      let two = cell_of design cells places sites apart q j at_q in
      let v = site_count (node_value_at design.nodes i).width design.pitch in
      let w = site_count (node_value_at design.nodes j).width design.pitch in
      rw (one.spot, two.spot) (cells_apart design cells places valid clear apart p q v w other one.there two.there one.sites two.sites);
}
