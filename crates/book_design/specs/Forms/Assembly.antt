-- How a design is kept: its points by number, and its core from the subrows.
use Rattle.std.specs.Prelude.{◌≡◌, ℕ, ◌<◌, List, length, slice_index_or, Option, Some, None, if◌then◌else◌, ℤ, pos, neg_ℤ, ◌^◌, ◌≤◌, ◌≤ℤ◌, ◌+ℤ◌}
use Rattle.std.specs.Int.{int_min, int_max}
use Rattle.book_design.specs.declared.rules.TheConstants.{MOST_SITES, ROWS_END}
use Rattle.book_design.specs.declared.strips.Strip.{Strip as Kept}
use Rattle.book_design.specs.declared.parts.Core.{Core}
use Rattle.book_design.specs.declared.parts.Node.{Node}
use Rattle.book_design.specs.declared.parts.Net.{Net}
use Rattle.book_design.specs.declared.parts.Subrow.{Subrow}
use Rattle.book_design.specs.declared.rows.RowShape.{RowShape}
use Rattle.book_design.specs.Values.{NodeValue, DesignValue, node_values}
use Rattle.book_design.specs.Nets.{net_values}
use Rattle.book_design.specs.Points.{node_value_at, movable_before, IsNodeOf}
use Rattle.book_design.specs.Forms.Parts.{kept_at}

-- the point that is the node of this number, and none for a fixed node
abbrev pub point_number : List NodeValue → ℕ → Option ℕ
point_number nodes k = if (node_value_at nodes k).fixed then None else Some (movable_before nodes k)

-- the points among the first so many nodes: the node of each point, and the point of each node
pub record ArePoints (nodes : List NodeValue) (i : ℕ) (movable : List ℕ) (numbers : List (Option ℕ)) : Type 0 where
  pub points : length movable ≡ movable_before nodes i
  pub node : (p : ℕ) → p < length movable → IsNodeOf nodes p (slice_index_or movable p 0)
  pub nodes_so_far : length numbers ≡ i
  pub before : (k : ℕ) → k < i → slice_index_or numbers k None ≡ point_number nodes k

-- one of the first so many subrows, which has a site
abbrev pub HasSiteBefore : List Kept → ℕ → ℕ → Type 0
HasSiteBefore kept i s = (s < i) × (0 < (kept_at kept s).sites)

-- the least, and the greatest, end of the first so many subrows that have a site
pub record IsLowestEnd (end : Kept → ℤ) (kept : List Kept) (i : ℕ) (value : ℤ) : Type 0 where
  pub least : (s : ℕ) → HasSiteBefore kept i s → value ≤ℤ end (kept_at kept s)
  pub there : (s : ℕ) × HasSiteBefore kept i s × (end (kept_at kept s) ≡ value)

pub record IsHighestEnd (end : Kept → ℤ) (kept : List Kept) (i : ℕ) (value : ℤ) : Type 0 where
  pub greatest : (s : ℕ) → HasSiteBefore kept i s → end (kept_at kept s) ≤ℤ value
  pub there : (s : ℕ) × HasSiteBefore kept i s × (end (kept_at kept s) ≡ value)

-- the smallest rectangle around those of the first so many subrows that have a site
pub record IsCoreOf (height : ℤ) (kept : List Kept) (i : ℕ) (core : Core) : Type 0 where
  pub left : IsLowestEnd (λ s. s.left) kept i core.xlo
  pub right : IsHighestEnd (λ s. s.right) kept i core.xhi
  pub lower : IsLowestEnd (λ s. s.lower) kept i core.ylo
  pub upper : IsHighestEnd (λ s. s.lower +ℤ height) kept i core.yhi

-- a subrow's ends lie where they may, and it doesn't have too many sites
pub record IsNarrow (height : ℤ) (s : Kept) : Type 0 where
  pub left : neg_ℤ (pos (10 ^ 12)) ≤ℤ s.left
  pub wide : s.left ≤ℤ s.right
  pub right : s.right ≤ℤ ROWS_END
  pub lower : neg_ℤ (pos (10 ^ 12)) ≤ℤ s.lower
  pub high : s.lower ≤ℤ (s.lower +ℤ height)
  pub upper : (s.lower +ℤ height) ≤ℤ ROWS_END
  pub sites : s.sites ≤ MOST_SITES

abbrev pub AreNarrow : ℤ → List Kept → Type 0
AreNarrow height kept = (s : ℕ) → s < length kept → IsNarrow height (kept_at kept s)

-- the design of these parts
abbrev pub design_value : List Node → List Net → List Subrow → Core → RowShape → DesignValue
design_value nodes nets subrows core shape = record {
  nodes = node_values nodes;
  nets = net_values nets;
  subrows = subrows;
  core = core;
  pitch = shape.pitch;
  row_height = shape.height;
}

-- the rectangle around a subrow and the one before it, if there is one
abbrev pub core_with : ℤ → Kept → Option Core → Core
core_with height s None = record { xlo = s.left; xhi = s.right; ylo = s.lower; yhi = s.lower +ℤ height }
core_with height s (Some core) = record {
  xlo = int_min core.xlo s.left;
  xhi = int_max core.xhi s.right;
  ylo = int_min core.ylo s.lower;
  yhi = int_max core.yhi (s.lower +ℤ height);
}
