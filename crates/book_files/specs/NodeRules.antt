-- The rules of the nodes file: a header, count lines, each at most once, and a line per node.
use Rattle.std.specs.Prelude.{◌≡◌, ◌≢◌, ◌⊎◌, ℕ, Bool, true, false, ◌||◌, List, [], length, codes, filter_map, IsTrue, IsFalse, Some, None}
use Rattle.book_text.specs.Lines.{NumberedLine}
use Rattle.book_files.specs.declared.fault.TextKind.{TextKind}
use Rattle.book_files.specs.declared.fault.TextKind.TheVariants.{BadHeader, BadLine, BadNumber, CountMismatch}
use Rattle.book_files.specs.Grammar.{Grammar}
use Rattle.book_files.specs.Words.{latest, is_keyed}
use Rattle.book_files.specs.Shapes.{word_at, IsWhole, IsSize, HasWhole, HasSize, IsOnceShape, IsHeaderLine, IsShapeFault}
use Rattle.book_files.specs.Entries.{NodeEntry}
use Rattle.book_files.specs.Nodes.{NodeItem, header, total, terminals, node, node_mark, total_in, terminals_in, node_in}

-- a count line by its first two words
abbrev pub is_counted : List (List ℕ) → Bool
is_counted words = is_keyed (codes "numnodes") words || is_keyed (codes "numterminals") words

-- `name width height`, or the same and `terminal` or, where the node allows overlap, `terminal_NI`
abbrev pub IsNodeShape : List (List ℕ) → Bool → Bool → Type 0
IsNodeShape words false overlap = IsFalse (is_counted words) × (length words ≡ 3) × (overlap ≡ false)
IsNodeShape words true overlap = IsFalse (is_counted words) × (length words ≡ 4) × (node_mark (word_at words 3) ≡ Some overlap)

-- the line is the node's
pub record IsNodeLine (line : NumberedLine) (entry : NodeEntry) : Type 0 where
  pub shape : IsNodeShape line.words entry.fixed entry.overlap
  pub number : entry.line ≡ line.number
  pub name : entry.name ≡ word_at line.words 0
  pub width : IsSize (word_at line.words 1) entry.width
  pub height : IsSize (word_at line.words 2) entry.height

abbrev pub IsNodesItem : List NodeItem → NumberedLine → NodeItem → Type 0
IsNodesItem before line header = IsHeaderLine (codes "nodes") before line
IsNodesItem before line (total n) = (before ≢ []) × IsOnceShape (codes "numnodes") total_in before line.words × IsWhole (word_at line.words 2) n
IsNodesItem before line (terminals t) = (before ≢ []) × IsOnceShape (codes "numterminals") terminals_in before line.words × IsWhole (word_at line.words 2) t
IsNodesItem before line (node entry) = (before ≢ []) × IsNodeLine line entry

abbrev pub HasNodesShape : List NodeItem → List (List ℕ) → Type 0
HasNodesShape before words = IsOnceShape (codes "numnodes") total_in before words ⊎ (IsOnceShape (codes "numterminals") terminals_in before words
    ⊎ ((fixed : Bool) × (overlap : Bool) × IsNodeShape words fixed overlap))

-- each word in a number's place is a number in its range
pub record HasNodesNumbers (words : List (List ℕ)) : Type 0 where
  pub count : IsTrue (is_counted words) → HasWhole (word_at words 2)
  pub width : IsFalse (is_counted words) → HasSize (word_at words 1)
  pub height : IsFalse (is_counted words) → HasSize (word_at words 2)

-- the nodes are the node lines in order, and their number is stated
pub record IsNodesFile (items : List NodeItem) (nodes : List NodeEntry) : Type 0 where
  pub lines : nodes ≡ filter_map node_in items
  pub count : latest total_in items ≡ Some (length nodes)

-- no line at all; then no number of nodes; then another number than that of the node lines
abbrev pub IsNodesEndFault : List NodeItem → TextKind → Type 0
IsNodesEndFault items BadHeader = items ≡ []
IsNodesEndFault items BadLine = (items ≢ []) × (latest total_in items ≡ None)
IsNodesEndFault items BadNumber = ⊥
IsNodesEndFault items (CountMismatch stated found) = (latest total_in items ≡ Some stated) × (found ≡ length (filter_map node_in items)) × (stated ≢ found)

abbrev pub nodes_grammar : Grammar NodeItem (List NodeEntry)
nodes_grammar = record {
  IsItem = IsNodesItem;
  IsLineFault = IsShapeFault (codes "nodes") HasNodesShape HasNodesNumbers;
  IsFile = IsNodesFile;
  IsEndFault = IsNodesEndFault;
}
