-- What the nodes reader decides of a line and of the end is what the rules say.
use Rattle.std.proofs.Common.{◌≡◌, ℕ, ◌≤◌, Bool, true, false, if◌then◌else◌, List, [], ◌∷◌, length, codes, filter_map, is_some, Option, Some, None, Result, Ok, Err, IsFalse, inl, inr, refl, sym, ap, ap₂, ◌∙◌, arith}
use Rattle.std.proofs.lemmas.Bool.{cond-true, cond-false, or_left, or_right, or_from, or_parts}
use Rattle.book_text.specs.Lines.{NumberedLine}
use Rattle.book_files.specs.declared.fault.TextKind.{TextKind}
use Rattle.book_files.specs.declared.fault.TextKind.TheVariants.{BadHeader, BadLine, BadNumber, CountMismatch}
use Rattle.book_files.specs.Words.{latest, is_header, is_keyed}
use Rattle.book_files.specs.Forms.Words.{◌>>=◌, count_of, size_of, marked}
use Rattle.book_files.specs.Entries.{NodeEntry}
use Rattle.book_files.specs.Shapes.{word_at, IsWhole, IsSize, HasWhole, IsOnceShape}
use Rattle.book_files.specs.Nodes.{NodeItem, header, total, terminals, node, node_mark, total_in, terminals_in, node_in}
use Rattle.book_files.specs.Forms.Nodes.{sized, node_of, node_meaning, nodes_stated, node_ending, node_form}
use Rattle.book_files.specs.NodeRules.{is_counted, IsNodeShape, IsNodeLine, IsNodesItem, HasNodesShape, HasNodesNumbers, IsNodesFile, IsNodesEndFault, nodes_grammar}
use Rattle.book_files.proofs.Bridge.{Decides}
use Rattle.book_files.proofs.ShapeSteps.{Judges, spells_size, judges_bind, judges_marked, judges_map, keyed_apart, count_judged, count_back, count_stated, StatedFault, stated_file, stated_file_back, stated_fault, stated_fault_back, shape_item, shape_named, shape_named_back}

apart : codes "numnodes" ≡ codes "numterminals" → ⊥
apart e = let same = ap length e in omega arith

uncounted : (words : List (List ℕ)) (fixed overlap : Bool) → IsNodeShape words fixed overlap → IsFalse (is_counted words)
uncounted words true overlap shape = shape.0
uncounted words false overlap shape = shape.0

shape_length : (words : List (List ℕ)) (fixed overlap : Bool) → IsNodeShape words fixed overlap → (3 ≤ length words) × (length words ≤ 4)
shape_length words true overlap shape = let four = shape.1 in (omega arith, omega arith)
shape_length words false overlap shape = let three = shape.1 in (omega arith, omega arith)

-- a line of three words is a movable node's, of four a fixed one's
movable : (a b c : List ℕ) (fixed overlap : Bool) → IsNodeShape (a ∷ b ∷ c ∷ []) fixed overlap → (fixed ≡ false) × (overlap ≡ false)
movable a b c false overlap shape = (refl, shape.2)
movable a b c true overlap shape = let four = shape.1 in absurd (omega arith)

terminal : (a b c d : List ℕ) (fixed overlap : Bool) → IsNodeShape (a ∷ b ∷ c ∷ d ∷ []) fixed overlap → (fixed ≡ true) × (node_mark d ≡ Some overlap)
terminal a b c d true overlap shape = (refl, shape.2)
terminal a b c d false overlap shape = let three = shape.1 in absurd (omega arith)

module _ (item : NodeItem) (before : List NodeItem) (number : ℕ) where
  abbrev line_of : List (List ℕ) → NumberedLine
  line_of words = record { number = number; words = words }

  abbrev Judged : List (List ℕ) → Result NodeItem TextKind → Type 0
  Judged words r = Judges (HasNodesShape (item ∷ before) words) (HasNodesNumbers words) (IsNodesItem (item ∷ before) (line_of words)) r

  total_judged : (words : List (List ℕ)) → is_keyed (codes "numnodes") words ≡ true
      → Judged words (count_of (is_some (latest total_in (item ∷ before))) words >>= λ n. Ok (total n))
  total_judged words keyed = let counted : is_counted words ≡ true = or_left _ _ keyed in
      judges_map (IsOnceShape (codes "numnodes") total_in (item ∷ before) words) (HasWhole (word_at words 2)) (IsWhole (word_at words 2))
      (HasNodesShape (item ∷ before) words) (HasNodesNumbers words) (IsNodesItem (item ∷ before) (line_of words)) total _
      (λ once. inl once) back
      (λ once has. record { count = λ _. has; width = λ un. let e = sym un ∙ counted in cc; height = λ un. let e = sym un ∙ counted in cc })
      (λ once numbers. numbers.count counted) (λ n once whole. (λ e. cc, once, whole))
      (count_judged (codes "numnodes") total_in (item ∷ before) words keyed) where
        back : HasNodesShape (item ∷ before) words → IsOnceShape (codes "numnodes") total_in (item ∷ before) words
        back (inl once) = once
        back (inr (inl once)) = let e = sym once.keyed ∙ keyed_apart (codes "numnodes") (codes "numterminals") words apart keyed in cc
        back (inr (inr shape)) = let e = sym (uncounted words shape.0 shape.1 shape.2) ∙ or_left (is_keyed (codes "numnodes") words) (is_keyed (codes "numterminals") words) keyed in cc

  terminals_judged : (words : List (List ℕ)) → is_keyed (codes "numnodes") words ≡ false → is_keyed (codes "numterminals") words ≡ true
      → Judged words (count_of (is_some (latest terminals_in (item ∷ before))) words >>= λ t. Ok (terminals t))
  terminals_judged words other keyed = let counted : is_counted words ≡ true = or_right _ _ keyed in
      judges_map (IsOnceShape (codes "numterminals") terminals_in (item ∷ before) words) (HasWhole (word_at words 2)) (IsWhole (word_at words 2))
      (HasNodesShape (item ∷ before) words) (HasNodesNumbers words) (IsNodesItem (item ∷ before) (line_of words)) terminals _
      (λ once. inr (inl once)) back
      (λ once has. record { count = λ _. has; width = λ un. let e = sym un ∙ counted in cc; height = λ un. let e = sym un ∙ counted in cc })
      (λ once numbers. numbers.count counted) (λ n once whole. (λ e. cc, once, whole))
      (count_judged (codes "numterminals") terminals_in (item ∷ before) words keyed) where
        back : HasNodesShape (item ∷ before) words → IsOnceShape (codes "numterminals") terminals_in (item ∷ before) words
        back (inl once) = let e = sym once.keyed ∙ other in cc
        back (inr (inl once)) = once
        back (inr (inr shape)) = let e = sym (uncounted words shape.0 shape.1 shape.2) ∙ or_right (is_keyed (codes "numnodes") words) (is_keyed (codes "numterminals") words) keyed in cc

  sized_judged : (name width height : List ℕ) (rest : List (List ℕ)) (fixed overlap : Bool) → IsNodeShape (name ∷ width ∷ height ∷ rest) fixed overlap
      → Judged (name ∷ width ∷ height ∷ rest) (sized number name width height fixed overlap)
  sized_judged name width height rest fixed overlap shape = let words = name ∷ width ∷ height ∷ rest in let un = uncounted words fixed overlap shape in
      judges_bind (HasNodesShape (item ∷ before) words) (HasNodesNumbers words) (IsNodesItem (item ∷ before) (line_of words)) (IsSize width) (size_of width) _
      (inr (inr (fixed, overlap, shape))) (spells_size width) (λ has. has.width un) (λ w is_w.
      judges_bind (HasNodesShape (item ∷ before) words) (HasNodesNumbers words) (IsNodesItem (item ∷ before) (line_of words)) (IsSize height) (size_of height)
      (λ h. Ok (node (record { line = number; name = name; width = w; height = h; fixed = fixed; overlap = overlap })))
      (inr (inr (fixed, overlap, shape))) (spells_size height) (λ has. has.height un) (λ h is_h. (
        inr (inr (fixed, overlap, shape)),
        record { count = λ counted. let e = sym counted ∙ un in cc; width = λ _. (w, is_w); height = λ _. (h, is_h) },
        (λ e. cc, record { shape = shape; number = refl; name = refl; width = is_w; height = is_h }),
      )))

  -- a line that is no count line has a node's shape or none
  node_shape : (words : List (List ℕ)) → is_keyed (codes "numnodes") words ≡ false → is_keyed (codes "numterminals") words ≡ false
      → HasNodesShape (item ∷ before) words → (fixed : Bool) × (overlap : Bool) × IsNodeShape words fixed overlap
  node_shape words other another (inl once) = let e = sym once.keyed ∙ other in cc
  node_shape words other another (inr (inl once)) = let e = sym once.keyed ∙ another in cc
  node_shape words other another (inr (inr shape)) = shape

  node_judged : (words : List (List ℕ)) → is_keyed (codes "numnodes") words ≡ false → is_keyed (codes "numterminals") words ≡ false → Judged words (node_of number words)
  node_judged [] other another = λ s. let n = node_shape [] other another s in let long = shape_length [] n.0 n.1 n.2 in omega arith
  node_judged (a ∷ []) other another = λ s. let n = node_shape (a ∷ []) other another s in let long = shape_length (a ∷ []) n.0 n.1 n.2 in omega arith
  node_judged (a ∷ b ∷ []) other another = λ s. let n = node_shape (a ∷ b ∷ []) other another s in let long = shape_length (a ∷ b ∷ []) n.0 n.1 n.2 in omega arith
  node_judged (name ∷ width ∷ height ∷ []) other another = sized_judged name width height [] false false (or_from _ _ other another, refl, refl)
  node_judged (name ∷ width ∷ height ∷ mark ∷ []) other another = let words = name ∷ width ∷ height ∷ mark ∷ [] in
      judges_marked (HasNodesShape (item ∷ before) words) (HasNodesNumbers words) (IsNodesItem (item ∷ before) (line_of words)) (node_mark mark) (sized number name width height true)
      (λ s. let n = node_shape words other another s in (n.1, (terminal name width height mark n.0 n.1 n.2).1))
      (λ overlap is. sized_judged name width height (mark ∷ []) true overlap (or_from _ _ other another, refl, is))
  node_judged (a ∷ b ∷ c ∷ d ∷ more ∷ rest) other another =
      λ s. let n = node_shape (a ∷ b ∷ c ∷ d ∷ more ∷ rest) other another s in let long = shape_length (a ∷ b ∷ c ∷ d ∷ more ∷ rest) n.0 n.1 n.2 in omega arith

  judged_words : (words : List (List ℕ)) → Judged words (node_meaning (item ∷ before) (line_of words))
  judged_words words = first (is_keyed (codes "numnodes") words) (is_keyed (codes "numterminals") words) refl refl where
    first : (b d : Bool) → is_keyed (codes "numnodes") words ≡ b → is_keyed (codes "numterminals") words ≡ d
        → Judged words (if b then (count_of (is_some (latest total_in (item ∷ before))) words >>= λ n. Ok (total n))
        else if d then (count_of (is_some (latest terminals_in (item ∷ before))) words >>= λ t. Ok (terminals t)) else node_of number words)
    first true d keyed is = total_judged words keyed
    first false true other keyed = terminals_judged words other keyed
    first false false other another = node_judged words other another

judged : (item : NodeItem) (before : List NodeItem) (line : NumberedLine)
    → Judges (HasNodesShape (item ∷ before) line.words) (HasNodesNumbers line.words) (IsNodesItem (item ∷ before) line) (node_meaning (item ∷ before) line)
judged item before line = judged_words item before line.number line.words

sized_back : (number : ℕ) (name width height : List ℕ) (entry : NodeEntry) → entry.line ≡ number → entry.name ≡ name → IsSize width entry.width → IsSize height entry.height
    → sized number name width height entry.fixed entry.overlap ≡ Ok (node entry)
sized_back number name width height entry same_line same_name is_w is_h = rw ((spells_size width).back entry.width is_w) (rw ((spells_size height).back entry.height is_h)
    (ap₂ (λ l n. Ok (node (record { line = l; name = n; width = entry.width; height = entry.height; fixed = entry.fixed; overlap = entry.overlap }))) (sym same_line) (sym same_name)))

node_back : (words : List (List ℕ)) (number : ℕ) (entry : NodeEntry) → IsNodeLine (record { number = number; words = words }) entry → node_of number words ≡ Ok (node entry)
node_back [] number entry is = let long = shape_length [] entry.fixed entry.overlap is.shape in absurd (omega arith)
node_back (a ∷ []) number entry is = let long = shape_length (a ∷ []) entry.fixed entry.overlap is.shape in absurd (omega arith)
node_back (a ∷ b ∷ []) number entry is = let long = shape_length (a ∷ b ∷ []) entry.fixed entry.overlap is.shape in absurd (omega arith)
node_back (name ∷ width ∷ height ∷ []) number entry is = let m = movable name width height entry.fixed entry.overlap is.shape in
    ap₂ (λ fixed overlap. sized number name width height fixed overlap) (sym m.0) (sym m.1) ∙ sized_back number name width height entry is.number is.name is.width is.height
node_back (name ∷ width ∷ height ∷ mark ∷ []) number entry is = let m = terminal name width height mark entry.fixed entry.overlap is.shape in
    ap₂ (λ fixed stated. marked stated (sized number name width height fixed)) (sym m.0) m.1 ∙ sized_back number name width height entry is.number is.name is.width is.height
node_back (a ∷ b ∷ c ∷ d ∷ more ∷ rest) number entry is = let long = shape_length (a ∷ b ∷ c ∷ d ∷ more ∷ rest) entry.fixed entry.overlap is.shape in absurd (omega arith)

item_back : (before : List NodeItem) (line : NumberedLine) (stated : NodeItem) → IsNodesItem before line stated → node_meaning before line ≡ Ok stated
item_back [] line header is = cond-true (is_header (codes "nodes") line.words) (Ok header) (Err BadHeader) is.1
item_back [] line (total n) is = absurd (is.0 refl)
item_back [] line (terminals t) is = absurd (is.0 refl)
item_back [] line (node entry) is = absurd (is.0 refl)
item_back (item ∷ before) line header is = let e = is.0 in cc
item_back (item ∷ before) line (total n) is = cond-true _ _ _ is.1.keyed ∙ ap (λ r. r >>= λ m. Ok (total m)) (count_back (codes "numnodes") total_in (item ∷ before) line.words n is.1 is.2)
item_back (item ∷ before) line (terminals t) is =
    cond-false _ _ _ (keyed_apart (codes "numterminals") (codes "numnodes") line.words (λ e. apart (sym e)) is.1.keyed) ∙ (cond-true _ _ _ is.1.keyed
    ∙ ap (λ r. r >>= λ m. Ok (terminals m)) (count_back (codes "numterminals") terminals_in (item ∷ before) line.words t is.1 is.2))
item_back (item ∷ before) line (node entry) is = let none = or_parts (is_keyed (codes "numnodes") line.words) (is_keyed (codes "numterminals") line.words) (uncounted line.words entry.fixed entry.overlap is.1.shape) in
    cond-false _ _ _ none.0 ∙ (cond-false _ _ _ none.1 ∙ node_back line.words line.number entry is.1)

stated_is : (stated : Option ℕ) (found : List NodeEntry) → nodes_stated stated found ≡ count_stated stated found
stated_is None found = refl
stated_is (Some n) found = refl

file : (items : List NodeItem) (nodes : List NodeEntry) → node_ending items ≡ Ok nodes → IsNodesFile items nodes
file [] nodes ends = cc
file (item ∷ items) nodes ends = let found = filter_map node_in (item ∷ items) in let is = stated_file (latest total_in (item ∷ items)) found nodes (sym (stated_is _ found) ∙ ends) in
    record { lines = is.0; count = is.1 }

file_back : (items : List NodeItem) (nodes : List NodeEntry) → IsNodesFile items nodes → node_ending items ≡ Ok nodes
file_back [] nodes is = let count = is.count in cc
file_back (item ∷ items) nodes is = let found = filter_map node_in (item ∷ items) in stated_is _ found ∙ stated_file_back (latest total_in (item ∷ items)) found nodes is.lines is.count

end : (items : List NodeItem) (fault : TextKind) → node_ending items ≡ Err fault → IsNodesEndFault items fault
end [] BadHeader ends = refl
end [] BadLine ends = cc
end [] BadNumber ends = cc
end [] (CountMismatch stated found) ends = cc
end (item ∷ items) fault ends = named fault (stated_fault (latest total_in (item ∷ items)) (filter_map node_in (item ∷ items)) fault (sym (stated_is (latest total_in (item ∷ items)) (filter_map node_in (item ∷ items))) ∙ ends)) where
  named : (fault : TextKind) → StatedFault (latest total_in (item ∷ items)) (filter_map node_in (item ∷ items)) fault → IsNodesEndFault (item ∷ items) fault
  named BadHeader is = absurd is
  named BadLine is = (λ e. cc, is)
  named BadNumber is = absurd is
  named (CountMismatch stated found) is = is

end_back : (items : List NodeItem) (fault : TextKind) → IsNodesEndFault items fault → node_ending items ≡ Err fault
end_back [] BadHeader named = refl
end_back [] BadLine named = absurd (named.0 refl)
end_back [] BadNumber named = absurd named
end_back [] (CountMismatch stated found) named = let none = named.0 in cc
end_back (item ∷ items) fault named = stated_is (latest total_in (item ∷ items)) (filter_map node_in (item ∷ items)) ∙ stated_fault_back (latest total_in (item ∷ items)) (filter_map node_in (item ∷ items)) fault (stated_by fault named) where
  stated_by : (fault : TextKind) → IsNodesEndFault (item ∷ items) fault → StatedFault (latest total_in (item ∷ items)) (filter_map node_in (item ∷ items)) fault
  stated_by BadHeader is = cc
  stated_by BadLine is = is.1
  stated_by BadNumber is = absurd is
  stated_by (CountMismatch stated found) is = is

pub nodes_decided : Decides node_form nodes_grammar
nodes_decided = record {
  item = shape_item node_form (codes "nodes") HasNodesShape HasNodesNumbers IsNodesItem header (λ line. refl) judged (λ line is. (refl, is));
  item_back = item_back;
  named = shape_named node_form (codes "nodes") HasNodesShape HasNodesNumbers IsNodesItem header (λ line. refl) judged;
  named_back = shape_named_back node_form (codes "nodes") HasNodesShape HasNodesNumbers IsNodesItem header (λ line. refl) judged;
  file = file;
  file_back = file_back;
  end = end;
  end_back = end_back;
}
