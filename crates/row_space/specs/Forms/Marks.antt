-- The sites that fixed nodes take, as the code keeps them.
use Rattle.std.specs.Prelude.{◌≡◌, ◌⊎◌, ℕ, ◌<◌, ◌≤◌, true, false, nat_lt, if◌then◌else◌, List, [], ◌∷◌, ◌++◌, length, slice_index_or, pos, ◌+ℤ◌, ◌<ℤ◌}
use Rattle.book_design.specs.Values.{NodeValue, DesignValue}
use Rattle.book_design.specs.Points.{node_value_at}
use Rattle.book_design.specs.WellFormed.{subrow_at}
use Rattle.row_space.specs.declared.marks.Mark.{Mark}
use Rattle.row_space.specs.Rectangles.{blocks, sites_rectangle}

abbrev pub mark_at : List Mark → ℕ → Mark
mark_at marks i = slice_index_or marks i (record { subrow = 0; first = 0; end = 0 })

-- a node of the design takes the sites of the mark
pub record IsMark (design : DesignValue) (mark : Mark) : Type 0 where
  pub there : mark.subrow < length design.subrows
  pub some : mark.first < mark.end
  pub within : mark.end ≤ (subrow_at design.subrows mark.subrow).sites
  pub node : ℕ
  pub node_there : node < length design.nodes
  pub taken : (site : ℕ) → mark.first ≤ site → site < mark.end → blocks (node_value_at design.nodes node) (sites_rectangle design (subrow_at design.subrows mark.subrow) site 1) ≡ true

-- one of the marks is of the site
pub record HasMark (marks : List Mark) (number site : ℕ) : Type 0 where
  pub at : ℕ
  pub there : at < length marks
  pub subrow : (mark_at marks at).subrow ≡ number
  pub first : (mark_at marks at).first ≤ site
  pub end : site < (mark_at marks at).end

-- Each mark is a node's, and each site that one of the first nodes takes has a mark.
pub record AreMarks (design : DesignValue) (nodes : ℕ) (marks : List Mark) : Type 0 where
  pub each : (i : ℕ) → i < length marks → IsMark design (mark_at marks i)
  pub all : (i number site : ℕ) → i < nodes → number < length design.subrows → site < (subrow_at design.subrows number).sites
      → blocks (node_value_at design.nodes i) (sites_rectangle design (subrow_at design.subrows number) site 1) ≡ true → HasMark marks number site

-- a mark is of an earlier subrow, or of the same and begins no later
abbrev pub IsNoLater : Mark → Mark → Type 0
IsNoLater a b = (a.subrow < b.subrow) ⊎ ((a.subrow ≡ b.subrow) × (a.first ≤ b.first))

abbrev pub AreSorted : List Mark → Type 0
AreSorted marks = (i j : ℕ) → i ≤ j → j < length marks → IsNoLater (mark_at marks i) (mark_at marks j)

-- the marks before a place are of subrows before that number, and those from it on are not
pub record Parts (marks : List Mark) (number at : ℕ) : Type 0 where
  pub within : at ≤ length marks
  pub before : (i : ℕ) → i < at → (mark_at marks i).subrow < number
  pub behind : (i : ℕ) → at ≤ i → i < length marks → number ≤ (mark_at marks i).subrow

-- the node takes the sites of the mark
pub record IsMarkOf (design : DesignValue) (node : NodeValue) (mark : Mark) : Type 0 where
  pub there : mark.subrow < length design.subrows
  pub some : mark.first < mark.end
  pub within : mark.end ≤ (subrow_at design.subrows mark.subrow).sites
  pub taken : (site : ℕ) → mark.first ≤ site → site < mark.end → blocks node (sites_rectangle design (subrow_at design.subrows mark.subrow) site 1) ≡ true

-- marks of a node come behind, one for each site that it takes of the subrows of these numbers
pub record AddsWhere (design : DesignValue) (node : NodeValue) (is_one : ℕ → Type 0) (old new : List Mark) : Type 0 where
  pub added : List Mark
  pub is : new ≡ old ++ added
  pub each : (i : ℕ) → i < length added → IsMarkOf design node (mark_at added i)
  pub all : (number site : ℕ) → is_one number → site < (subrow_at design.subrows number).sites
      → blocks node (sites_rectangle design (subrow_at design.subrows number) site 1) ≡ true → HasMark added number site

-- for each site that the node takes
abbrev pub AddsMarks : DesignValue → NodeValue → List Mark → List Mark → Type 0
AddsMarks design node old new = AddsWhere design node (λ number. number < length design.subrows) old new

-- for each one of a subrow
abbrev pub AddsSubrow : DesignValue → NodeValue → ℕ → List Mark → List Mark → Type 0
AddsSubrow design node subrow old new = AddsWhere design node (λ number. number ≡ subrow) old new

-- the node and the row of the subrow share heights
pub record MeetsRow (design : DesignValue) (node : NodeValue) (number : ℕ) : Type 0 where
  pub below : (subrow_at design.subrows number).y <ℤ (node.y +ℤ node.height)
  pub above : node.y <ℤ ((subrow_at design.subrows number).y +ℤ design.row_height)

abbrev pub with_mark : List Mark → ℕ → ℕ → ℕ → List Mark
with_mark marks subrow first end = if nat_lt first end then marks ++ record { subrow = subrow; first = first; end = end } ∷ [] else marks

-- the node is fixed, forbids overlap, and has area
pub record IsSolid (node : NodeValue) : Type 0 where
  pub fixed : node.fixed ≡ true
  pub forbids : node.overlap ≡ false
  pub wide : pos 0 <ℤ node.width
  pub high : pos 0 <ℤ node.height
