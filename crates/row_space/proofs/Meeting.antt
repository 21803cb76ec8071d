-- Rectangles that share area have columns and rows in common.
use Rattle.std.proofs.Common.{◌≡◌, true, ◌<ℤ◌}
use Rattle.std.specs.Prelude.{int_lt}
use Rattle.std.specs.Int.{int_max, int_min}
use Rattle.std.proofs.lemmas.Bool.{and_parts, and_from}
use Rattle.book_design.specs.Values.{NodeValue}
use Rattle.row_space.specs.Rectangles.{Rectangle, share_area, node_rectangle, forbids_overlap, blocks}
use Rattle.row_space.proofs.Comparing.{lt_of, of_lt}

pub record Meet (a b : Rectangle) : Type 0 where
  pub columns : int_max a.left b.left <ℤ int_min a.right b.right
  pub rows : int_max a.lower b.lower <ℤ int_min a.upper b.upper

pub shares : (a b : Rectangle) → share_area a b ≡ true → Meet a b
shares a b h =
    let parts = and_parts (int_lt (int_max a.left b.left) (int_min a.right b.right)) (int_lt (int_max a.lower b.lower) (int_min a.upper b.upper)) h in
    record { columns = lt_of _ _ parts.0; rows = lt_of _ _ parts.1 }

pub of_shares : (a b : Rectangle) → Meet a b → share_area a b ≡ true
of_shares a b m = and_from _ _ (of_lt _ _ m.columns) (of_lt _ _ m.rows)

-- a node that stands in the way of a rectangle
pub meet_of : (node : NodeValue) (b : Rectangle) → blocks node b ≡ true → Meet (node_rectangle node) b
meet_of node b h = shares (node_rectangle node) b (and_parts (forbids_overlap node) (share_area (node_rectangle node) b) h).1

pub of_meet : (node : NodeValue) (b : Rectangle) → forbids_overlap node ≡ true → Meet (node_rectangle node) b → blocks node b ≡ true
of_meet node b forbids m = and_from _ _ forbids (of_shares (node_rectangle node) b m)
