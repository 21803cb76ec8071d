-- The cells of a design: where each wishes its lower left corner, and how many sites it takes.
use Rattle.std.specs.Prelude.{◌≡◌, ℕ, ◌/◌, List, length, slice_index, slice_index_or, ℤ, pos, nat_abs, ◌-ℤ◌}
use Rattle.std.specs.List.{count_by}
use Rattle.book_text.specs.Coordinates.{micro_of}
use Rattle.book_design.specs.Values.{NodeValue, DesignValue}
use Rattle.book_design.specs.Points.{is_movable, node_value_at, IsNodeOf}
use Rattle.level_run.specs.declared.level.Level.{Level}
use Rattle.row_legal.specs.declared.parts.Wish.{Wish}
use Rattle.row_legal.specs.Cells.{CellsValue}
use Rattle.row_legal.specs.Spots.{AreSitesOf}

-- where a size begins whose middle lies at a coordinate: half of it, rounded down, before that
abbrev pub begin_of : ℕ → ℤ → ℤ
begin_of mid size = micro_of mid -ℤ pos (nat_abs size / 2)

-- the corner of a node whose middle lies at these mids
abbrev pub wished_corner : NodeValue → ℕ → ℕ → Wish
wished_corner node x y = record { x = begin_of x node.width; y = begin_of y node.height }

-- past the end a cell wishes nothing else than the origin
abbrev pub wish_in : List Wish → ℕ → Wish
wish_in wishes p = slice_index_or wishes p (record { x = pos 0; y = pos 0 })

-- Each movable node wishes to have its middle at its point's mids of the level. The mids of star points stand behind these.
pub record AreWishes (design : DesignValue) (level : Level) (wishes : List Wish) : Type 0 where
  pub all : length wishes ≡ count_by is_movable design.nodes
  pub each : (p i : ℕ) → IsNodeOf design.nodes p i → wish_in wishes p ≡ wished_corner (node_value_at design.nodes i) (slice_index level.x.mid p) (slice_index level.y.mid p)

-- the movable nodes as cells: the sites of each, and its wish
pub record AreCells (design : DesignValue) (level : Level) (cells : CellsValue) : Type 0 where
  pub sites : AreSitesOf design cells.sites
  pub wishes : AreWishes design level cells.wishes
