-- Segments: the maximal runs of free sites of the subrows.
use Rattle.std.specs.Prelude.{ℕ, ◌-◌, ◌==◌, Bool, not, ◌&&◌, ◌||◌, List, map, flat_map, pos, ◌+ℤ◌, ◌*ℤ◌}
use Rattle.std.specs.List.{filter, list_any, prefix_len, range_with_len}
use Rattle.book_design.specs.declared.parts.Subrow.{Subrow}
use Rattle.book_design.specs.Values.{DesignValue}
use Rattle.row_space.specs.declared.parts.Segment.{Segment}
use Rattle.row_space.specs.Values.{SegmentsValue}
use Rattle.row_space.specs.Rectangles.{blocks, sites_rectangle}

-- no node stands in the way of a site
abbrev pub is_free : DesignValue → Subrow → ℕ → Bool
is_free design subrow k = not (list_any (λ node. blocks node (sites_rectangle design subrow k 1)) design.nodes)

-- a run begins at a free site that has no free site to its left
abbrev pub begins : (ℕ → Bool) → ℕ → Bool
begins free k = free k && ((k == 0) || not (free (k - 1)))

-- how many sites are free from this one of n on, up to the first that isn't
abbrev pub run_len : (ℕ → Bool) → ℕ → ℕ → ℕ
run_len free n k = prefix_len free (range_with_len k (n - k))

abbrev pub segment_from : DesignValue → Subrow → ℕ → Segment
segment_from design subrow k = record { x = subrow.x +ℤ pos k *ℤ design.pitch; y = subrow.y; sites = run_len (is_free design subrow) subrow.sites k }

-- a subrow's runs, from left to right
abbrev pub segments_in : DesignValue → Subrow → List Segment
segments_in design subrow = map (segment_from design subrow) (filter (begins (is_free design subrow)) (range_with_len 0 subrow.sites))

abbrev pub segments_of : DesignValue → SegmentsValue
segments_of design = record { pitch = design.pitch; segments = flat_map (segments_in design) design.subrows }
