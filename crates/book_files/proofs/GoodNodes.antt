-- The nodes that a text reads as are few, with names that are words and sizes in range.
use Rattle.std.proofs.Common.{◌≡◌, ℕ, ◌≤◌, Bool, false, true, not, IsTrue, IsFalse, slice_index_or, List, [], ◌∷◌, length, is_some, Result, Ok, Err, IfOk, codes, refl}
use Rattle.std.specs.Option.{IfSome}
use Rattle.std.specs.List.{All, AllByRecursion, filter_map}
use Rattle.std.proofs.lemmas.List.Elements.{recursion_from_All, filter_passes}
use Rattle.book_text.specs.Lines.{NumberedLine, IsWord, is_comment_word, has_content, lines_of, numbered_from, content_of}
use Rattle.book_files.specs.declared.fault.TextKind.{TextKind}
use Rattle.book_files.specs.declared.fault.TextKind.TheVariants.{BadHeader}
use Rattle.book_files.specs.Words.{latest, is_header, is_keyed}
use Rattle.book_files.specs.Forms.Words.{◌>>=◌, count_of, size_of}
use Rattle.book_files.specs.Entries.{NodeEntry}
use Rattle.book_files.specs.Nodes.{NodeItem, header, total, terminals, node, node_mark, node_in, total_in, terminals_in}
use Rattle.book_files.specs.Forms.Nodes.{sized, node_of, node_meaning, node_ending, node_form}
use Rattle.book_files.proofs.FormTexts.{Reads}
use Rattle.book_files.specs.Ranges.{IsName, IsMarkedWell, IsNodeInRange}
use Rattle.book_files.proofs.FewRecords.{records_few, records_good}
use Rattle.book_files.proofs.GoodRecords.{IsSizeInRange, bind_good, if_good, marked_good, size_good}
use Rattle.book_files.proofs.NodeDecides.{nodes_decided}

-- the first word may stand for a node
abbrev IsNamed : List (List ℕ) → Type 0
IsNamed [] = Unit {0}
IsNamed (word ∷ words) = IsName word

plain : (b : Bool) → IsTrue (not b) → IsFalse b
plain true is = cc
plain false is = refl

named : (words : List (List ℕ)) → All IsWord words → has_content words ≡ true → IsNamed words
named [] each content = tt
named (word ∷ words) each content = record { word = (recursion_from_All IsWord (word ∷ words) each).0; plain = plain (is_comment_word word) content }

-- a line that isn't passed over begins with a word that begins no comment
named_lines : (text : List ℕ) → All (λ (line : NumberedLine). All IsWord line.words) (content_of text) → AllByRecursion (λ line. IsNamed line.words) (content_of text)
named_lines text found = recursion_from_All (λ line. IsNamed line.words) (content_of text) (λ k d within.
    named (slice_index_or (content_of text) k d).words (found k d within) (filter_passes (λ line. has_content line.words) (numbered_from 1 (lines_of text)) k d within))

abbrev IsGoodItem : NodeItem → Type 0
IsGoodItem item = IfSome (node_in item) IsNodeInRange

-- a count is no record
count_good : (r : Result ℕ TextKind) (item : ℕ → NodeItem) → ((n : ℕ) → IsGoodItem (item n)) → IfOk (r >>= λ n. Ok (item n)) IsGoodItem
count_good (Ok n) item good = good n
count_good (Err kind) item good = tt

sized_good : (number : ℕ) (name width height : List ℕ) (fixed overlap : Bool) → IsName name → IsMarkedWell fixed overlap → IfOk (sized number name width height fixed overlap) IsGoodItem
sized_good number name width height fixed overlap named marks = bind_good IsSizeInRange IsGoodItem (size_of width) _ (size_good width) (λ w w_good.
    bind_good IsSizeInRange IsGoodItem (size_of height) (λ h. Ok (node (record { line = number; name = name; width = w; height = h; fixed = fixed; overlap = overlap }))) (size_good height)
    (λ h h_good. record { name = named; width = w_good.range; height = h_good.range; width_sign = w_good.sign; height_sign = h_good.sign; marks = marks }))

line_good : (number : ℕ) (words : List (List ℕ)) → IsNamed words → IfOk (node_of number words) IsGoodItem
line_good number (name ∷ width ∷ height ∷ []) named = sized_good number name width height false false named (λ overlaps. overlaps)
line_good number (name ∷ width ∷ height ∷ mark ∷ []) named =
    marked_good IsGoodItem (node_mark mark) (sized number name width height true) (λ overlap. sized_good number name width height true overlap named (λ _. refl))
line_good number [] named = tt
line_good number (name ∷ []) named = tt
line_good number (name ∷ width ∷ []) named = tt
line_good number (name ∷ width ∷ height ∷ mark ∷ more ∷ rest) named = tt

meaning_good : (before : List NodeItem) (line : NumberedLine) → IsNamed line.words → IfOk (node_meaning before line) IsGoodItem
meaning_good [] line named = if_good IsGoodItem (is_header (codes "nodes") line.words) (Ok header) (Err BadHeader) tt tt
meaning_good (item ∷ items) line named = if_good IsGoodItem (is_keyed (codes "numnodes") line.words) _ _
    (count_good (count_of (is_some (latest total_in (item ∷ items))) line.words) total (λ n. tt))
    (if_good IsGoodItem (is_keyed (codes "numterminals") line.words) _ _
    (count_good (count_of (is_some (latest terminals_in (item ∷ items))) line.words) terminals (λ n. tt)) (line_good line.number line.words named))

ending_is : (nodes : List NodeEntry) (items : List NodeItem) → node_ending items ≡ Ok nodes → nodes ≡ filter_map node_in items
ending_is nodes items ends = (nodes_decided.file items nodes ends).lines

pub nodes_few : (text : List ℕ) (nodes : List NodeEntry) → Reads node_form text nodes → length nodes ≤ length text
nodes_few text nodes reads = records_few node_form node_in text nodes (ending_is nodes) reads

pub nodes_good : (text : List ℕ) (nodes : List NodeEntry) → All (λ (line : NumberedLine). All IsWord line.words) (content_of text) → Reads node_form text nodes → AllByRecursion IsNodeInRange nodes
nodes_good text nodes found reads = records_good node_form node_in text nodes (ending_is nodes) reads (λ line. IsNamed line.words) IsNodeInRange (named_lines text found) meaning_good
