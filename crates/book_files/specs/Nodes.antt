-- The nodes file: a header, count lines and a line per node.
use Rattle.std.specs.Prelude.{ℕ, Bool, true, false, List, codes, Option, Some, None, if◌then◌else◌}
use Rattle.book_files.specs.Words.{is_keyword}
use Rattle.book_files.specs.Entries.{NodeEntry}

-- what a line of a nodes file is
pub data NodeItem : Type 0 where
  header : NodeItem
  total : ℕ → NodeItem
  terminals : ℕ → NodeItem
  node : NodeEntry → NodeItem

-- a mark of a fixed node: whether the node allows overlap
abbrev pub node_mark : List ℕ → Option Bool
node_mark word = if is_keyword (codes "terminal") word then Some false else if is_keyword (codes "terminal_ni") word then Some true else None

abbrev pub total_in : NodeItem → Option ℕ
total_in header = None
total_in (total n) = Some n
total_in (terminals t) = None
total_in (node entry) = None

abbrev pub terminals_in : NodeItem → Option ℕ
terminals_in header = None
terminals_in (total n) = None
terminals_in (terminals t) = Some t
terminals_in (node entry) = None

abbrev pub node_in : NodeItem → Option NodeEntry
node_in header = None
node_in (total n) = None
node_in (terminals t) = None
node_in (node entry) = Some entry
