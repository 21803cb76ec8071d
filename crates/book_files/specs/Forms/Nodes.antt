-- The nodes file: a header, count lines and a line per node.
use Rattle.std.specs.Prelude.{ℕ, Bool, true, false, List, [], ◌∷◌, length, codes, ◌==◌, is_some, Option, Some, None, Result, Ok, Err, if◌then◌else◌, filter_map}
use Rattle.book_text.specs.Lines.{NumberedLine}
use Rattle.book_files.specs.declared.fault.TextKind.{TextKind}
use Rattle.book_files.specs.declared.fault.TextKind.TheVariants.{BadHeader, BadLine, CountMismatch}
use Rattle.book_files.specs.Forms.Form.{Form}
use Rattle.book_files.specs.Words.{latest, is_header, is_keyed}
use Rattle.book_files.specs.Forms.Words.{◌>>=◌, count_of, size_of, marked}
use Rattle.book_files.specs.Entries.{NodeEntry}
use Rattle.book_files.specs.Nodes.{NodeItem, node_mark, total_in, terminals_in, node_in}
use Rattle.book_files.specs.Nodes.NodeItem.{header, total, terminals, node}

-- a node with its sizes, tested from left to right
abbrev pub sized : ℕ → List ℕ → List ℕ → List ℕ → Bool → Bool → Result NodeItem TextKind
sized number name width height fixed overlap = size_of width >>= λ w. size_of height >>= λ h. Ok (node (record { line = number; name = name; width = w; height = h; fixed = fixed; overlap = overlap }))

-- a node line: three words, or four of which the last is a mark
abbrev pub node_of : ℕ → List (List ℕ) → Result NodeItem TextKind
node_of number (name ∷ width ∷ height ∷ []) = sized number name width height false false
node_of number (name ∷ width ∷ height ∷ mark ∷ []) = marked (node_mark mark) (sized number name width height true)
node_of number [] = Err BadLine
node_of number (name ∷ []) = Err BadLine
node_of number (name ∷ width ∷ []) = Err BadLine
node_of number (name ∷ width ∷ height ∷ mark ∷ more ∷ rest) = Err BadLine

abbrev pub node_meaning : List NodeItem → NumberedLine → Result NodeItem TextKind
node_meaning [] line = if is_header (codes "nodes") line.words then Ok header else Err BadHeader
node_meaning (item ∷ items) line =
    if is_keyed (codes "numnodes") line.words then (count_of (is_some (latest total_in (item ∷ items))) line.words >>= λ n. Ok (total n))
    else if is_keyed (codes "numterminals") line.words then (count_of (is_some (latest terminals_in (item ∷ items))) line.words >>= λ t. Ok (terminals t))
    else node_of line.number line.words

abbrev pub nodes_stated : Option ℕ → List NodeEntry → Result (List NodeEntry) TextKind
nodes_stated None nodes = Err BadLine
nodes_stated (Some n) nodes = if n == length nodes then Ok nodes else Err (CountMismatch n (length nodes))

-- the node lines, where their number was stated
abbrev pub node_ending : List NodeItem → Result (List NodeEntry) TextKind
node_ending [] = Err BadHeader
node_ending (item ∷ items) = nodes_stated (latest total_in (item ∷ items)) (filter_map node_in (item ∷ items))

abbrev pub node_form : Form NodeItem (List NodeEntry)
node_form = record { meaning = node_meaning; ending = node_ending }
