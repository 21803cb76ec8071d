-- What the nets reader decides of a line and of the end is what the rules say.
use Rattle.std.proofs.Common.{◌≡◌, ◌≢◌, ◌⊎◌, ℕ, ◌+◌, Bool, true, false, ◌||◌, nat_lt, ◌==◌, if◌then◌else◌, List, [], ◌∷◌, length, map, codes, is_some, IsTrue, IsFalse, ℤ, pos, Option, Some, None, Result, Ok, Err, inl, inr, refl, sym, ap, ap₂, subst, ◌∙◌, arith}
use Rattle.std.specs.Str.{bytes_eq}
use Rattle.std.proofs.lemmas.Slice.Eq.{bytes_eq-Decides}
use Rattle.std.proofs.lemmas.Bool.{both_ways, cond_both, cond-true, cond-false, or_parts, ltb-true, ltb-false, lt-ltb, eqb-true, eqb-false, eq-eqb, ne_eqb}
use Rattle.std.proofs.lemmas.List.{length-map}
use Rattle.book_text.specs.Lines.{NumberedLine}
use Rattle.book_files.specs.declared.fault.TextKind.{TextKind}
use Rattle.book_files.specs.declared.fault.TextKind.TheVariants.{BadHeader, BadLine, BadNumber, CountMismatch}
use Rattle.book_files.specs.Words.{latest, is_header, is_keyed, is_colon_word}
use Rattle.book_files.specs.Forms.Words.{◌>>=◌, count_of, whole_of, number_of}
use Rattle.book_files.specs.Groups.{Group}
use Rattle.book_files.specs.Entries.{PinEntry, NetEntry}
use Rattle.book_files.specs.Shapes.{word_at, IsWhole, IsNumber, HasWhole, IsOnceShape}
use Rattle.book_files.specs.Nets.{NetHead, NetItem, header, total, pin_total, net, pin, total_in, pin_total_in, nets_in, open_net, is_direction, entry_of_net}
use Rattle.book_files.specs.Forms.Nets.{unless_short, head_of, offset_pin, plain_pin, pin_of, pin_behind, net_meaning, net_ending, totals, net_form}
use Rattle.book_files.specs.NetRules.{is_net_start, is_keyed_line, IsNetShape, IsPinShape, IsPinOffset, IsShort, IsNotShort, IsPinLine, IsNetsItem, HasPinLine, HasNetsShape, HasNetsNumbers, IsShortAtLine, IsPinTooMany, IsNotShortAtLine, IsNetsLineFault, pins_found, IsNetsFile, IsNetsEndFault, nets_grammar}
use Rattle.book_files.proofs.Bridge.{Decides}
use Rattle.book_files.proofs.ShapeSteps.{Judges, spells_whole, spells_number, judges_bind, judges_map, keyed_apart, count_judged, count_back, header_item, header_fault}

-- the last net's pins

abbrev ShortIs : List NetItem → Result (Unit {0}) TextKind → Type 0
ShortIs items (Ok done) = IsNotShort items
ShortIs items (Err BadHeader) = ⊥
ShortIs items (Err BadLine) = ⊥
ShortIs items (Err BadNumber) = ⊥
ShortIs items (Err (CountMismatch stated found)) = IsShort items stated found

same_last : (items : List NetItem) (a b : Group NetHead PinEntry) → open_net items ≡ Some a → open_net items ≡ Some b → a ≡ b
same_last items a b is_a is_b = let e = sym is_a ∙ is_b in cc

short_stated : (items : List NetItem) → ShortIs items (unless_short (open_net items))
short_stated items = at (open_net items) refl where
  at : (o : Option (Group NetHead PinEntry)) → open_net items ≡ o → ShortIs items (unless_short o)
  at None is = λ stated found short. let e = short.begun in cc
  at (Some last) is = tested (nat_lt (length last.parts) last.head.degree) refl where
    tested : (b : Bool) → nat_lt (length last.parts) last.head.degree ≡ b → ShortIs items (if b then Err (CountMismatch last.head.degree (length last.parts)) else Ok (tt {0}))
    tested true less = record { last = last; begun = is; degree = refl; pins = refl; fewer = ltb-true (length last.parts) last.head.degree less }
    tested false not_less = λ stated found short. let same = same_last items short.last last short.begun is in
        let degree = ap (λ (g : Group NetHead PinEntry). g.head.degree) same in let parts = ap (λ (g : Group NetHead PinEntry). length g.parts) same in
        omega (arith, ltb-false (length last.parts) last.head.degree not_less, short.degree, short.pins, short.fewer)

whole_back : (items : List NetItem) → IsNotShort items → unless_short (open_net items) ≡ Ok (tt {0})
whole_back items whole = at (unless_short (open_net items)) (short_stated items) where
  at : (r : Result (Unit {0}) TextKind) → ShortIs items r → r ≡ Ok (tt {0})
  at (Ok done) is = refl
  at (Err BadHeader) is = absurd is
  at (Err BadLine) is = absurd is
  at (Err BadNumber) is = absurd is
  at (Err (CountMismatch stated found)) is = absurd (whole stated found is)

short_one : (items : List NetItem) (stated found more other : ℕ) → IsShort items stated found → IsShort items more other → ◌≡◌ {A = TextKind} (CountMismatch stated found) (CountMismatch more other)
short_one items stated found more other a b = let same = same_last items a.last b.last a.begun b.begun in
    let degree : stated ≡ more = a.degree ∙ (ap (λ (g : Group NetHead PinEntry). g.head.degree) same ∙ sym b.degree) in
    let parts : found ≡ other = a.pins ∙ (ap (λ (g : Group NetHead PinEntry). length g.parts) same ∙ sym b.pins) in cc

short_back : (items : List NetItem) (stated found : ℕ) → IsShort items stated found → unless_short (open_net items) ≡ Err (CountMismatch stated found)
short_back items stated found short = at (unless_short (open_net items)) (short_stated items) where
  at : (r : Result (Unit {0}) TextKind) → ShortIs items r → r ≡ Err (CountMismatch stated found)
  at (Ok done) is = absurd (is stated found short)
  at (Err BadHeader) is = absurd is
  at (Err BadLine) is = absurd is
  at (Err BadNumber) is = absurd is
  at (Err (CountMismatch more other)) is = ap Err (short_one items more other stated found is short)

-- keywords

differ : (a b : List ℕ) → bytes_eq a b ≡ false → a ≡ b → ⊥
differ a b apart same = both_ways (bytes_eq a b) apart ((bytes_eq-Decides a b).1 same)

module _ (words : List (List ℕ)) where
  nets_not_pins : IsTrue (is_keyed (codes "numnets") words) → IsFalse (is_keyed (codes "numpins") words)
  nets_not_pins = keyed_apart (codes "numnets") (codes "numpins") words (differ (codes "numnets") (codes "numpins") refl)

  nets_not_start : IsTrue (is_keyed (codes "numnets") words) → IsFalse (is_net_start words)
  nets_not_start = keyed_apart (codes "numnets") (codes "netdegree") words (differ (codes "numnets") (codes "netdegree") refl)

  pins_not_nets : IsTrue (is_keyed (codes "numpins") words) → IsFalse (is_keyed (codes "numnets") words)
  pins_not_nets = keyed_apart (codes "numpins") (codes "numnets") words (differ (codes "numpins") (codes "numnets") refl)

  pins_not_start : IsTrue (is_keyed (codes "numpins") words) → IsFalse (is_net_start words)
  pins_not_start = keyed_apart (codes "numpins") (codes "netdegree") words (differ (codes "numpins") (codes "netdegree") refl)

  start_not_nets : IsTrue (is_net_start words) → IsFalse (is_keyed (codes "numnets") words)
  start_not_nets = keyed_apart (codes "netdegree") (codes "numnets") words (differ (codes "netdegree") (codes "numnets") refl)

  start_not_pins : IsTrue (is_net_start words) → IsFalse (is_keyed (codes "numpins") words)
  start_not_pins = keyed_apart (codes "netdegree") (codes "numpins") words (differ (codes "netdegree") (codes "numpins") refl)

  keyed_line-nets : IsTrue (is_keyed (codes "numnets") words) → IsTrue (is_keyed_line words)
  keyed_line-nets keyed = rw keyed refl

  keyed_line-pins : IsTrue (is_keyed (codes "numpins") words) → IsTrue (is_keyed_line words)
  keyed_line-pins keyed = rw (pins_not_nets keyed, keyed) refl

  keyed_line-start : IsTrue (is_net_start words) → IsTrue (is_keyed_line words)
  keyed_line-start keyed = rw (start_not_nets keyed, start_not_pins keyed, keyed) refl

record IsOther (words : List (List ℕ)) : Type 0 where
  nets : IsFalse (is_keyed (codes "numnets") words)
  pins : IsFalse (is_keyed (codes "numpins") words)
  start : IsFalse (is_net_start words)

other_of : (words : List (List ℕ)) → IsFalse (is_keyed_line words) → IsOther words
other_of words other = let first = or_parts (is_keyed (codes "numnets") words) (is_keyed (codes "numpins") words || is_net_start words) other in
    let rest = or_parts (is_keyed (codes "numpins") words) (is_net_start words) first.1 in record { nets = first.0; pins = rest.0; start = rest.1 }

other_line : (words : List (List ℕ)) → IsOther words → IsFalse (is_keyed_line words)
other_line words other = rw (other.nets, other.pins, other.start) refl

-- a pin's words

abbrev HasOffset : List (List ℕ) → Type 0
HasOffset words = (dx : ℤ) × (dy : ℤ) × IsPinOffset words dx dy

-- the entry is what the words of a pin give
record IsPinEntry (number : ℕ) (words : List (List ℕ)) (entry : PinEntry) : Type 0 where
  line : entry.line ≡ number
  node : entry.node ≡ word_at words 0
  offset : IsPinOffset words entry.dx entry.dy

abbrev PinJudged : ℕ → List (List ℕ) → Result PinEntry TextKind → Type 0
PinJudged number words r = Judges (IsPinShape words) (HasOffset words) (IsPinEntry number words) r

pin_judged : (number : ℕ) (words : List (List ℕ)) → PinJudged number words (pin_of number words)
pin_judged number [] = λ shape. shape
pin_judged number (node ∷ []) = (tt, (pos 0, pos 0, (refl, refl)), record { line = refl; node = refl; offset = (refl, refl) })
pin_judged number (node ∷ direction ∷ []) = at (is_direction direction) refl where
  at : (b : Bool) → is_direction direction ≡ b → PinJudged number (node ∷ direction ∷ []) (if b then Ok (plain_pin number node) else Err BadLine)
  at true is = (is, (pos 0, pos 0, (refl, refl)), record { line = refl; node = refl; offset = (refl, refl) })
  at false is = λ shape. cc
pin_judged number (node ∷ direction ∷ colon ∷ []) = λ shape. shape
pin_judged number (node ∷ direction ∷ colon ∷ x ∷ []) = λ shape. shape
pin_judged number (node ∷ direction ∷ colon ∷ x ∷ y ∷ []) = at (is_direction direction) (is_colon_word colon) refl refl where
  at : (a b : Bool) → is_direction direction ≡ a → is_colon_word colon ≡ b
      → PinJudged number (node ∷ direction ∷ colon ∷ x ∷ y ∷ []) (if a then (if b then offset_pin number node x y else Err BadLine) else Err BadLine)
  at true true directed colons = let words = node ∷ direction ∷ colon ∷ x ∷ y ∷ [] in
      judges_bind (IsPinShape words) (HasOffset words) (IsPinEntry number words) (IsNumber x) (number_of x) _ (directed, colons) (spells_number x) (λ has. (has.0, has.2.0)) (λ dx is_dx.
      judges_bind (IsPinShape words) (HasOffset words) (IsPinEntry number words) (IsNumber y) (number_of y)
      (λ dy. Ok (record { line = number; node = node; dx = dx; dy = dy })) (directed, colons) (spells_number y)
      (λ has. (has.1, has.2.1)) (λ dy is_dy. ((directed, colons), (dx, dy, (is_dx, is_dy)), record { line = refl; node = refl; offset = (is_dx, is_dy) })))
  at true false directed colons = λ shape. let e = shape.1 in cc
  at false b directed colons = λ shape. let e = shape.0 in cc
pin_judged number (node ∷ direction ∷ colon ∷ x ∷ y ∷ more ∷ rest) = λ shape. shape

-- What is said of a line behind the header: too few pins of the net before, then another shape, then bad numbers, then a pin
-- too many, then an item.
abbrev Judged : List NetItem → NumberedLine → Result NetItem TextKind → Type 0
Judged before line (Ok stated) = IsNotShortAtLine before line.words × HasNetsShape before line.words × HasNetsNumbers line.words
    × ((stated found : ℕ) → IsPinTooMany before line.words stated found → ⊥) × IsNetsItem before line stated
Judged before line (Err BadHeader) = ⊥
Judged before line (Err BadLine) = IsNotShortAtLine before line.words × (HasNetsShape before line.words → ⊥)
Judged before line (Err BadNumber) = IsNotShortAtLine before line.words × HasNetsShape before line.words × (HasNetsNumbers line.words → ⊥)
Judged before line (Err (CountMismatch stated found)) = IsShortAtLine before line.words stated found ⊎ IsPinTooMany before line.words stated found

module _ (first : NetItem) (rest : List NetItem) (line : NumberedLine) where
  abbrev ByShape : Result NetItem TextKind → Type 0
  ByShape r = Judges (HasNetsShape (first ∷ rest) line.words) (HasNetsNumbers line.words) (IsNetsItem (first ∷ rest) line) r

  not_first : first ∷ rest ≢ []
  not_first = λ e. cc

  -- a line that can't be a pin too many, and isn't too early
  by_shape : (r : Result NetItem TextKind) → IsNotShortAtLine (first ∷ rest) line.words → IsTrue (is_keyed_line line.words) → ByShape r → Judged (first ∷ rest) line r
  by_shape (Ok stated) whole keyed j = (whole, j.0, j.1, (λ stated found many. let e = many.shape.other in cc), j.2)
  by_shape (Err BadHeader) whole keyed j = j
  by_shape (Err BadLine) whole keyed j = (whole, j)
  by_shape (Err BadNumber) whole keyed j = (whole, j.0, j.1)
  by_shape (Err (CountMismatch stated found)) whole keyed j = absurd j

  -- what a keyed line has, by its keyword
  numbers_of : IsTrue (is_keyed_line line.words) → HasWhole (word_at line.words 2) → HasNetsNumbers line.words
  numbers_of keyed whole = record { count = λ _. whole; offset = λ other. cc }

  total_shape : IsTrue (is_keyed (codes "numnets") line.words) → HasNetsShape (first ∷ rest) line.words → IsOnceShape (codes "numnets") total_in (first ∷ rest) line.words
  total_shape keyed (inl shape) = shape
  total_shape keyed (inr (inl shape)) = let e = shape.keyed in let apart = nets_not_pins line.words keyed in cc
  total_shape keyed (inr (inr (inl (None, shape)))) = let e = shape.0 in let apart = nets_not_start line.words keyed in cc
  total_shape keyed (inr (inr (inl (Some name, shape)))) = let e = shape.0 in let apart = nets_not_start line.words keyed in cc
  total_shape keyed (inr (inr (inr (last, shape)))) = let e = shape.other in let line = keyed_line-nets line.words keyed in cc

  pin_total_shape : IsTrue (is_keyed (codes "numpins") line.words) → HasNetsShape (first ∷ rest) line.words → IsOnceShape (codes "numpins") pin_total_in (first ∷ rest) line.words
  pin_total_shape keyed (inl shape) = let e = shape.keyed in let apart = pins_not_nets line.words keyed in cc
  pin_total_shape keyed (inr (inl shape)) = shape
  pin_total_shape keyed (inr (inr (inl (None, shape)))) = let e = shape.0 in let apart = pins_not_start line.words keyed in cc
  pin_total_shape keyed (inr (inr (inl (Some name, shape)))) = let e = shape.0 in let apart = pins_not_start line.words keyed in cc
  pin_total_shape keyed (inr (inr (inr (last, shape)))) = let e = shape.other in let line = keyed_line-pins line.words keyed in cc

  net_shape : IsTrue (is_net_start line.words) → HasNetsShape (first ∷ rest) line.words → (name : Option (List ℕ)) × IsNetShape line.words name
  net_shape keyed (inl shape) = let e = shape.keyed in let apart = start_not_nets line.words keyed in cc
  net_shape keyed (inr (inl shape)) = let e = shape.keyed in let apart = start_not_pins line.words keyed in cc
  net_shape keyed (inr (inr (inl shape))) = shape
  net_shape keyed (inr (inr (inr (last, shape)))) = let e = shape.other in let line = keyed_line-start line.words keyed in cc

  pin_shape : IsOther line.words → HasNetsShape (first ∷ rest) line.words → HasPinLine (first ∷ rest) line.words
  pin_shape other (inl shape) = let e = shape.keyed in let not = other.nets in cc
  pin_shape other (inr (inl shape)) = let e = shape.keyed in let not = other.pins in cc
  pin_shape other (inr (inr (inl (None, shape)))) = let e = shape.0 in let not = other.start in cc
  pin_shape other (inr (inr (inl (Some name, shape)))) = let e = shape.0 in let not = other.start in cc
  pin_shape other (inr (inr (inr shape))) = shape

  not_start : IsFalse (is_net_start line.words) → IsNotShortAtLine (first ∷ rest) line.words
  not_start other stated found short = let e = short.0 in cc

  total_judged : IsTrue (is_keyed (codes "numnets") line.words) → Judged (first ∷ rest) line (count_of (is_some (latest total_in (first ∷ rest))) line.words >>= λ n. Ok (total n))
  total_judged keyed = let is_keyed_one = keyed_line-nets line.words keyed in
      by_shape _ (not_start (nets_not_start line.words keyed)) is_keyed_one
      (judges_map (IsOnceShape (codes "numnets") total_in (first ∷ rest) line.words) (HasWhole (word_at line.words 2)) (IsWhole (word_at line.words 2))
      (HasNetsShape (first ∷ rest) line.words) (HasNetsNumbers line.words) (IsNetsItem (first ∷ rest) line) total (count_of (is_some (latest total_in (first ∷ rest))) line.words)
      (λ shape. inl shape) (total_shape keyed) (λ shape whole. numbers_of is_keyed_one whole) (λ shape numbers. numbers.count is_keyed_one)
      (λ n shape is. (not_first, shape, is)) (count_judged (codes "numnets") total_in (first ∷ rest) line.words keyed))

  pin_total_judged : IsTrue (is_keyed (codes "numpins") line.words) → Judged (first ∷ rest) line (count_of (is_some (latest pin_total_in (first ∷ rest))) line.words >>= λ p. Ok (pin_total p))
  pin_total_judged keyed = let is_keyed_one = keyed_line-pins line.words keyed in
      by_shape _ (not_start (pins_not_start line.words keyed)) is_keyed_one
      (judges_map (IsOnceShape (codes "numpins") pin_total_in (first ∷ rest) line.words) (HasWhole (word_at line.words 2)) (IsWhole (word_at line.words 2))
      (HasNetsShape (first ∷ rest) line.words) (HasNetsNumbers line.words) (IsNetsItem (first ∷ rest) line) pin_total (count_of (is_some (latest pin_total_in (first ∷ rest))) line.words)
      (λ shape. inr (inl shape)) (pin_total_shape keyed) (λ shape whole. numbers_of is_keyed_one whole) (λ shape numbers. numbers.count is_keyed_one)
      (λ p shape is. (not_first, shape, is)) (count_judged (codes "numpins") pin_total_in (first ∷ rest) line.words keyed))

-- a line that starts a net

start_of : (words : List (List ℕ)) (name : Option (List ℕ)) → IsNetShape words name → IsTrue (is_net_start words)
start_of words None shape = shape.0
start_of words (Some name) shape = shape.0

three_or_four : (words : List (List ℕ)) (name : Option (List ℕ)) → IsNetShape words name → (length words ≡ 3) ⊎ (length words ≡ 4)
three_or_four words None shape = inl shape.1
three_or_four words (Some name) shape = inr shape.1

other_length : (words : List (List ℕ)) → ((name : Option (List ℕ)) × IsNetShape words name) → length words ≢ 3 → length words ≢ 4 → ⊥
other_length words shape not_three not_four = at (three_or_four words shape.0 shape.1) where
  at : (length words ≡ 3) ⊎ (length words ≡ 4) → ⊥
  at (inl three) = not_three three
  at (inr four) = not_four four

module _ (first : NetItem) (rest : List NetItem) (number : ℕ) where
  abbrev line_of : List (List ℕ) → NumberedLine
  line_of words = record { number = number; words = words }

  head_judged : (words : List (List ℕ)) → IsTrue (is_net_start words) → IsNotShort (first ∷ rest) → ByShape first rest (line_of words) (head_of words)
  head_judged [] keyed whole = λ shape. cc
  head_judged (key ∷ []) keyed whole = λ shape. cc
  head_judged (key ∷ colon ∷ []) keyed whole = λ shape. other_length (key ∷ colon ∷ []) (net_shape first rest (line_of (key ∷ colon ∷ [])) keyed shape) (λ e. omega arith) (λ e. omega arith)
  head_judged (key ∷ colon ∷ degree ∷ []) keyed whole = let words = key ∷ colon ∷ degree ∷ [] in
      let shape : HasNetsShape (first ∷ rest) words = inr (inr (inl (None, (keyed, refl)))) in
      judges_bind (HasNetsShape (first ∷ rest) words) (HasNetsNumbers words) (IsNetsItem (first ∷ rest) (line_of words))
      (IsWhole degree) (whole_of degree) (λ k. Ok (net (record { degree = k; name = None }))) shape (spells_whole degree) (λ numbers. numbers.count (keyed_line-start words keyed))
      (λ k is. (shape, numbers_of first rest (line_of words) (keyed_line-start words keyed) (k, is), (λ e. cc, record { shape = (keyed, refl); degree = is; whole = whole })))
  head_judged (key ∷ colon ∷ degree ∷ name ∷ []) keyed whole = let words = key ∷ colon ∷ degree ∷ name ∷ [] in
      let shape : HasNetsShape (first ∷ rest) words = inr (inr (inl (Some name, (keyed, refl, refl)))) in
      judges_bind (HasNetsShape (first ∷ rest) words) (HasNetsNumbers words) (IsNetsItem (first ∷ rest) (line_of words))
      (IsWhole degree) (whole_of degree) (λ k. Ok (net (record { degree = k; name = Some name }))) shape (spells_whole degree) (λ numbers. numbers.count (keyed_line-start words keyed))
      (λ k is. (shape, numbers_of first rest (line_of words) (keyed_line-start words keyed) (k, is), (λ e. cc, record { shape = (keyed, refl, refl); degree = is; whole = whole })))
  head_judged (key ∷ colon ∷ degree ∷ name ∷ more ∷ others) keyed whole = let words = key ∷ colon ∷ degree ∷ name ∷ more ∷ others in
      λ shape. other_length words (net_shape first rest (line_of words) keyed shape) (λ e. omega arith) (λ e. omega arith)

module _ (first : NetItem) (rest : List NetItem) (line : NumberedLine) where
  start_judged : IsTrue (is_net_start line.words) → Judged (first ∷ rest) line (unless_short (open_net (first ∷ rest)) >>= λ done. head_of line.words)
  start_judged keyed = at (unless_short (open_net (first ∷ rest))) (short_stated (first ∷ rest)) where
    at : (r : Result (Unit {0}) TextKind) → ShortIs (first ∷ rest) r → Judged (first ∷ rest) line (r >>= λ done. head_of line.words)
    at (Ok done) whole = by_shape first rest line (head_of line.words) (λ stated found short. whole stated found short.1) (keyed_line-start line.words keyed)
        (head_judged first rest line.number line.words keyed whole)
    at (Err BadHeader) short = absurd short
    at (Err BadLine) short = absurd short
    at (Err BadNumber) short = absurd short
    at (Err (CountMismatch stated found)) short = inl (keyed, short)

  pin_line_judged : IsOther line.words → Judged (first ∷ rest) line (pin_behind (open_net (first ∷ rest)) line)
  pin_line_judged other = at (open_net (first ∷ rest)) refl where
    early : IsNotShortAtLine (first ∷ rest) line.words
    early = not_start first rest line other.start

    line_in : (last : Group NetHead PinEntry) → open_net (first ∷ rest) ≡ Some last → IsPinShape line.words → IsPinLine (first ∷ rest) line.words last
    line_in last is shape = record { begun = is; other = other_line line.words other; shape = shape }

    numbers_in : HasOffset line.words → HasNetsNumbers line.words
    numbers_in offset = record { count = λ keyed. let no_key = other_line line.words other in cc; offset = λ _. offset }

    in_net : (last : Group NetHead PinEntry) → open_net (first ∷ rest) ≡ Some last → (b : Bool) → nat_lt (length last.parts) last.head.degree ≡ b
        → (r : Result PinEntry TextKind) → PinJudged line.number line.words r
        → Judged (first ∷ rest) line (r >>= λ entry. if b then Ok (pin entry) else Err (CountMismatch last.head.degree (last.head.degree + 1)))
    in_net last is true less (Ok entry) j = let room = ltb-true (length last.parts) last.head.degree less in (
      early,
      inr (inr (inr (last, line_in last is j.0))),
      numbers_in j.1,
      (λ stated found many. let same = same_last (first ∷ rest) many.last last many.shape.begun is in
          let degree = ap (λ (g : Group NetHead PinEntry). g.head.degree) same in let parts = ap (λ (g : Group NetHead PinEntry). length g.parts) same in
          omega (arith, room, many.degree, many.full)),
      (not_first first rest line, record { last = last; shape = line_in last is j.0; number = j.2.line; node = j.2.node; offset = j.2.offset; room = room }),
    )
    in_net last is false not_less (Ok entry) j =
        inr (record { last = last; shape = line_in last is j.0; numbers = numbers_in j.1; degree = refl; more = refl; full = ltb-false (length last.parts) last.head.degree not_less })
    in_net last is b test (Err BadHeader) j = absurd j
    in_net last is b test (Err BadLine) j = (early, λ shape. j (pin_shape first rest line other shape).1.shape)
    in_net last is b test (Err BadNumber) j = (early, inr (inr (inr (last, line_in last is j.0))), λ numbers. j.1 (numbers.offset (other_line line.words other)))
    in_net last is b test (Err (CountMismatch stated found)) j = absurd j

    at : (o : Option (Group NetHead PinEntry)) → open_net (first ∷ rest) ≡ o → Judged (first ∷ rest) line (pin_behind o line)
    at None is = (early, λ shape. let pin_line = pin_shape first rest line other shape in let e = pin_line.1.begun in cc)
    at (Some last) is = in_net last is (nat_lt (length last.parts) last.head.degree) refl (pin_of line.number line.words) (pin_judged line.number line.words)

  line_judged : Judged (first ∷ rest) line (net_meaning (first ∷ rest) line)
  line_judged = cond_both (is_keyed (codes "numnets") line.words) _ _ (Judged (first ∷ rest) line) (total_judged first rest line) (λ nets.
      cond_both (is_keyed (codes "numpins") line.words) _ _ (Judged (first ∷ rest) line) (pin_total_judged first rest line) (λ pins.
      cond_both (is_net_start line.words) _ _ (Judged (first ∷ rest) line) start_judged (λ start. pin_line_judged (record { nets = nets; pins = pins; start = start }))))

item_of : (before : List NetItem) (line : NumberedLine) (stated : NetItem) → net_meaning before line ≡ Ok stated → IsNetsItem before line stated
item_of [] line stated means = let is = header_item (codes "nets") header line stated means in subst (IsNetsItem [] line) is.1 (refl, is.0)
item_of (first ∷ rest) line stated means = (subst (Judged (first ∷ rest) line) means (line_judged first rest line)).4

named_of : (before : List NetItem) (line : NumberedLine) (kind : TextKind) → net_meaning before line ≡ Err kind → IsNetsLineFault before line kind
named_of [] line kind means = let is = header_fault (codes "nets") header line kind means in subst (IsNetsLineFault [] line) is.1 is.0
named_of (first ∷ rest) line kind means = at kind (subst (Judged (first ∷ rest) line) means (line_judged first rest line)) where
  at : (kind : TextKind) → Judged (first ∷ rest) line (Err kind) → IsNetsLineFault (first ∷ rest) line kind
  at BadHeader j = j
  at BadLine j = j
  at BadNumber j = j
  at (CountMismatch stated found) j = j

-- one line, one fault

short_or_many : (before : List NetItem) (words : List (List ℕ)) (stated found more other : ℕ) → IsShortAtLine before words stated found → IsPinTooMany before words more other → ⊥
short_or_many before words stated found more other short many = let keyed = keyed_line-start words short.0 in let e = many.shape.other in cc

many_one : (before : List NetItem) (words : List (List ℕ)) (stated found more other : ℕ) → IsPinTooMany before words stated found → IsPinTooMany before words more other
    → ◌≡◌ {A = TextKind} (CountMismatch stated found) (CountMismatch more other)
many_one before words stated found more other a b = let same = same_last before a.last b.last a.shape.begun b.shape.begun in
    let degree : stated ≡ more = a.degree ∙ (ap (λ (g : Group NetHead PinEntry). g.head.degree) same ∙ sym b.degree) in
    let one : found ≡ other = a.more ∙ (ap (λ n. n + 1) degree ∙ sym b.more) in cc

named_back : (before : List NetItem) (line : NumberedLine) (kind : TextKind) → IsNetsLineFault before line kind → net_meaning before line ≡ Err kind
named_back [] line BadHeader named = cond-false (is_header (codes "nets") line.words) (Ok header) (Err BadHeader) named
named_back [] line BadLine named = absurd named
named_back [] line BadNumber named = absurd named
named_back [] line (CountMismatch stated found) named = absurd named
named_back (first ∷ rest) line kind named = at kind (net_meaning (first ∷ rest) line) named (line_judged first rest line) where
  has_pin_shape : (stated found : ℕ) → IsPinTooMany (first ∷ rest) line.words stated found → HasNetsShape (first ∷ rest) line.words
  has_pin_shape stated found many = inr (inr (inr (many.last, many.shape)))

  at : (kind : TextKind) (r : Result NetItem TextKind) → IsNetsLineFault (first ∷ rest) line kind → Judged (first ∷ rest) line r → r ≡ Err kind
  at BadHeader r named j = absurd named
  at kind (Err BadHeader) named j = absurd j
  at BadLine (Ok stated) named j = absurd (named.1 j.1)
  at BadLine (Err BadLine) named j = refl
  at BadLine (Err BadNumber) named j = absurd (named.1 j.1)
  at BadLine (Err (CountMismatch stated found)) named (inl short) = absurd (named.0 stated found short)
  at BadLine (Err (CountMismatch stated found)) named (inr many) = absurd (named.1 (has_pin_shape stated found many))
  at BadNumber (Ok stated) named j = absurd (named.2 j.2)
  at BadNumber (Err BadLine) named j = absurd (j.1 named.1)
  at BadNumber (Err BadNumber) named j = refl
  at BadNumber (Err (CountMismatch stated found)) named (inl short) = absurd (named.0 stated found short)
  at BadNumber (Err (CountMismatch stated found)) named (inr many) = absurd (named.2 many.numbers)
  at (CountMismatch stated found) (Ok item) (inl short) j = absurd (j.0 stated found short)
  at (CountMismatch stated found) (Ok item) (inr many) j = absurd (j.3 stated found many)
  at (CountMismatch stated found) (Err BadLine) (inl short) j = absurd (j.0 stated found short)
  at (CountMismatch stated found) (Err BadLine) (inr many) j = absurd (j.1 (has_pin_shape stated found many))
  at (CountMismatch stated found) (Err BadNumber) (inl short) j = absurd (j.0 stated found short)
  at (CountMismatch stated found) (Err BadNumber) (inr many) j = absurd (j.2 many.numbers)
  at (CountMismatch stated found) (Err (CountMismatch more other)) (inl short) (inl again) = ap Err (short_one (first ∷ rest) more other stated found again.1 short.1)
  at (CountMismatch stated found) (Err (CountMismatch more other)) (inl short) (inr many) = absurd (short_or_many (first ∷ rest) line.words stated found more other short many)
  at (CountMismatch stated found) (Err (CountMismatch more other)) (inr many) (inl short) = absurd (short_or_many (first ∷ rest) line.words more other stated found short many)
  at (CountMismatch stated found) (Err (CountMismatch more other)) (inr many) (inr again) = ap Err (many_one (first ∷ rest) line.words more other stated found again many)

-- an item of the rules is the form's

head_back : (words : List (List ℕ)) (degree : ℕ) (name : Option (List ℕ)) → IsNetShape words name → IsWhole (word_at words 2) degree → head_of words ≡ Ok (net (record { degree = degree; name = name }))
head_back [] degree name shape whole = absurd (other_length [] (name, shape) (λ e. omega arith) (λ e. omega arith))
head_back (key ∷ []) degree name shape whole = absurd (other_length (key ∷ []) (name, shape) (λ e. omega arith) (λ e. omega arith))
head_back (key ∷ colon ∷ []) degree name shape whole = absurd (other_length (key ∷ colon ∷ []) (name, shape) (λ e. omega arith) (λ e. omega arith))
head_back (key ∷ colon ∷ word ∷ []) degree None shape whole = rw ((spells_whole word).back degree whole) refl
head_back (key ∷ colon ∷ word ∷ []) degree (Some name) shape whole = let four = shape.1 in absurd (omega arith)
head_back (key ∷ colon ∷ word ∷ other ∷ []) degree None shape whole = let three = shape.1 in absurd (omega arith)
head_back (key ∷ colon ∷ word ∷ other ∷ []) degree (Some name) shape whole = rw ((spells_whole word).back degree whole) (ap (λ n. Ok (net (record { degree = degree; name = Some n }))) (sym shape.2))
head_back (key ∷ colon ∷ word ∷ other ∷ more ∷ rest) degree name shape whole = absurd (other_length (key ∷ colon ∷ word ∷ other ∷ more ∷ rest) (name, shape) (λ e. omega arith) (λ e. omega arith))

same_pin : (a b : PinEntry) → a.line ≡ b.line → a.node ≡ b.node → a.dx ≡ b.dx → a.dy ≡ b.dy → a ≡ b
same_pin a b line node dx dy = let make : ℕ → List ℕ → ℤ → ℤ → PinEntry = λ l n x y. record { line = l; node = n; dx = x; dy = y } in
    ap₂ (λ l n. make l n a.dx a.dy) line node ∙ ap₂ (λ x y. make b.line b.node x y) dx dy

plain_back : (number : ℕ) (node : List ℕ) (entry : PinEntry) → entry.line ≡ number → entry.node ≡ node → entry.dx ≡ pos 0 → entry.dy ≡ pos 0 → plain_pin number node ≡ entry
plain_back number node entry line same dx dy = sym (same_pin entry (plain_pin number node) line same dx dy)

pin_back : (number : ℕ) (words : List (List ℕ)) (entry : PinEntry) → IsPinShape words → IsPinEntry number words entry → pin_of number words ≡ Ok entry
pin_back number [] entry shape is = absurd shape
pin_back number (node ∷ []) entry shape is = ap Ok (plain_back number node entry is.line is.node is.offset.0 is.offset.1)
pin_back number (node ∷ direction ∷ []) entry shape is = cond-true (is_direction direction) _ _ shape ∙ ap Ok (plain_back number node entry is.line is.node is.offset.0 is.offset.1)
pin_back number (node ∷ direction ∷ colon ∷ []) entry shape is = absurd shape
pin_back number (node ∷ direction ∷ colon ∷ x ∷ []) entry shape is = absurd shape
pin_back number (node ∷ direction ∷ colon ∷ x ∷ y ∷ []) entry shape is = cond-true (is_direction direction) _ _ shape.0 ∙ (cond-true (is_colon_word colon) _ _ shape.1
    ∙ rw ((spells_number x).back entry.dx is.offset.0, (spells_number y).back entry.dy is.offset.1)
    (ap Ok (sym (same_pin entry (record { line = number; node = node; dx = entry.dx; dy = entry.dy }) is.line is.node refl refl))))
pin_back number (node ∷ direction ∷ colon ∷ x ∷ y ∷ more ∷ rest) entry shape is = absurd shape

item_back : (before : List NetItem) (line : NumberedLine) (stated : NetItem) → IsNetsItem before line stated → net_meaning before line ≡ Ok stated
item_back [] line header is = cond-true (is_header (codes "nets") line.words) (Ok header) (Err BadHeader) is.1
item_back [] line (total n) is = absurd (is.0 refl)
item_back [] line (pin_total p) is = absurd (is.0 refl)
item_back [] line (net head) is = absurd (is.0 refl)
item_back [] line (pin entry) is = absurd (is.0 refl)
item_back (first ∷ rest) line header is = let e = is.0 in cc
item_back (first ∷ rest) line (total n) is = cond-true (is_keyed (codes "numnets") line.words) _ _ is.1.keyed
    ∙ ap (λ r. r >>= λ m. Ok (total m)) (count_back (codes "numnets") total_in (first ∷ rest) line.words n is.1 is.2)
item_back (first ∷ rest) line (pin_total p) is = cond-false (is_keyed (codes "numnets") line.words) _ _ (pins_not_nets line.words is.1.keyed) ∙ (cond-true (is_keyed (codes "numpins") line.words) _ _ is.1.keyed
    ∙ ap (λ r. r >>= λ m. Ok (pin_total m)) (count_back (codes "numpins") pin_total_in (first ∷ rest) line.words p is.1 is.2))
item_back (first ∷ rest) line (net head) is = let keyed = start_of line.words head.name is.1.shape in
    cond-false (is_keyed (codes "numnets") line.words) _ _ (start_not_nets line.words keyed) ∙ (cond-false (is_keyed (codes "numpins") line.words) _ _ (start_not_pins line.words keyed)
    ∙ (cond-true (is_net_start line.words) _ _ keyed ∙ (ap (λ r. r >>= λ done. head_of line.words) (whole_back (first ∷ rest) is.1.whole) ∙ head_back line.words head.degree head.name is.1.shape is.1.degree)))
item_back (first ∷ rest) line (pin entry) is = let of = is.1 in let other = other_of line.words of.shape.other in
    cond-false (is_keyed (codes "numnets") line.words) _ _ other.nets ∙ (cond-false (is_keyed (codes "numpins") line.words) _ _ other.pins ∙ (cond-false (is_net_start line.words) _ _ other.start
    ∙ (ap (λ o. pin_behind o line) of.shape.begun
    ∙ (ap (λ r. r >>= λ e. if nat_lt (length of.last.parts) of.last.head.degree then Ok (pin e) else Err (CountMismatch of.last.head.degree (of.last.head.degree + 1)))
    (pin_back line.number line.words entry of.shape.shape (record { line = of.number; node = of.node; offset = of.offset }))
    ∙ cond-true (nat_lt (length of.last.parts) of.last.head.degree) _ _ (lt-ltb (length of.last.parts) of.last.head.degree of.room)))))

-- the end

abbrev EndIs : List NetItem → Result (List NetEntry) TextKind → Type 0
EndIs items (Ok nets) = IsNetsFile items nets
EndIs items (Err kind) = IsNetsEndFault items kind

module _ (first : NetItem) (rest : List NetItem) where
  abbrev items_of : List NetItem
  items_of = first ∷ rest

  abbrev nets_of : List NetEntry
  nets_of = map entry_of_net (nets_in items_of)

  abbrev totals_of : Option ℕ → Option ℕ → Result (List NetEntry) TextKind
  totals_of stated pin_stated = totals stated pin_stated nets_of (pins_found items_of)

  length_of : length nets_of ≡ length (nets_in items_of)
  length_of = length-map (nets_in items_of) entry_of_net

  totals_judged : IsNotShort items_of → (stated pin_stated : Option ℕ) → latest total_in items_of ≡ stated → latest pin_total_in items_of ≡ pin_stated → EndIs items_of (totals_of stated pin_stated)
  totals_judged whole None pin_stated is pins_are = (λ e. cc, whole, inl is)
  totals_judged whole (Some n) None is pins_are = (λ e. cc, whole, inr pins_are)
  totals_judged whole (Some n) (Some p) is pins_are = at (n == length nets_of) (p == pins_found items_of) refl refl where
    at : (a b : Bool) → (n == length nets_of) ≡ a → (p == pins_found items_of) ≡ b
        → EndIs items_of (if a then (if b then Ok nets_of else Err (CountMismatch p (pins_found items_of))) else Err (CountMismatch n (length nets_of)))
    at true true nets pins = record { blocks = refl; whole = whole; count = is ∙ ap Some (eqb-true n (length nets_of) nets); pins = pins_are ∙ ap Some (eqb-true p (pins_found items_of) pins) }
    at true false nets pins = inr (inr (record { whole = whole; count = is ∙ ap Some (eqb-true n (length nets_of) nets ∙ length_of); pins = pins_are; stand = refl; differ = eqb-false p (pins_found items_of) pins }))
    at false b nets pins = inr (inl (record { whole = whole; count = is; pins = λ none. let e = sym pins_are ∙ none in cc; nets = length_of; differ = eqb-false n (length nets_of) nets }))

  end_judged : EndIs items_of (net_ending items_of)
  end_judged = at (unless_short (open_net items_of)) (short_stated items_of) where
    at : (r : Result (Unit {0}) TextKind) → ShortIs items_of r → EndIs items_of (r >>= λ done. totals_of (latest total_in items_of) (latest pin_total_in items_of))
    at (Ok done) whole = totals_judged whole (latest total_in items_of) (latest pin_total_in items_of) refl refl
    at (Err BadHeader) short = absurd short
    at (Err BadLine) short = absurd short
    at (Err BadNumber) short = absurd short
    at (Err (CountMismatch stated found)) short = inl short

  -- where the last net has its pins, the two totals decide
  end_totals : IsNotShort items_of → (stated pin_stated : Option ℕ) → latest total_in items_of ≡ stated → latest pin_total_in items_of ≡ pin_stated → net_ending items_of ≡ totals_of stated pin_stated
  end_totals whole stated pin_stated is pins_are = ap (λ r. r >>= λ done. totals_of (latest total_in items_of) (latest pin_total_in items_of)) (whole_back items_of whole) ∙ ap₂ totals_of is pins_are

  missing : (stated pin_stated : Option ℕ) → (stated ≡ None) ⊎ (pin_stated ≡ None) → totals_of stated pin_stated ≡ Err BadLine
  missing None pin_stated none = refl
  missing (Some n) None none = refl
  missing (Some n) (Some p) (inl none) = cc
  missing (Some n) (Some p) (inr none) = cc

  other_nets : (n found : ℕ) (pin_stated : Option ℕ) → pin_stated ≢ None → found ≡ length (nets_in items_of) → n ≢ found → totals_of (Some n) pin_stated ≡ Err (CountMismatch n found)
  other_nets n found None some nets differ = absurd (some refl)
  other_nets n found (Some p) some nets differ = let same : found ≡ length nets_of = nets ∙ sym length_of in
      cond-false (n == length nets_of) _ _ (ne_eqb n (length nets_of) (λ e. differ (e ∙ sym same))) ∙ ap (λ k. Err (CountMismatch n k)) (sym same)

  right_nets : (p : ℕ) → totals_of (Some (length (nets_in items_of))) (Some p) ≡ (if p == pins_found items_of then Ok nets_of else Err (CountMismatch p (pins_found items_of)))
  right_nets p = cond-true (length (nets_in items_of) == length nets_of) _ _ (eq-eqb (length (nets_in items_of)) (length nets_of) (sym length_of))

file_of : (items : List NetItem) (nets : List NetEntry) → net_ending items ≡ Ok nets → IsNetsFile items nets
file_of [] nets ends = cc
file_of (first ∷ rest) nets ends = subst (EndIs (first ∷ rest)) ends (end_judged first rest)

end_of : (items : List NetItem) (kind : TextKind) → net_ending items ≡ Err kind → IsNetsEndFault items kind
end_of [] kind ends = let is : BadHeader ≡ kind = cc in subst (IsNetsEndFault []) is refl
end_of (first ∷ rest) kind ends = subst (EndIs (first ∷ rest)) ends (end_judged first rest)

file_back : (items : List NetItem) (nets : List NetEntry) → IsNetsFile items nets → net_ending items ≡ Ok nets
file_back [] nets file = let e = file.count in cc
file_back (first ∷ rest) nets file = let items = first ∷ rest in
    end_totals first rest file.whole _ _ (file.count ∙ ap (λ ns. Some (length ns)) file.blocks ∙ ap Some (length_of first rest)) file.pins
    ∙ (right_nets first rest (pins_found items) ∙ (cond-true (pins_found items == pins_found items) _ _ (eq-eqb (pins_found items) (pins_found items) refl) ∙ ap Ok (sym file.blocks)))

end_back : (items : List NetItem) (kind : TextKind) → IsNetsEndFault items kind → net_ending items ≡ Err kind
end_back [] BadHeader fault = refl
end_back [] BadLine fault = absurd (fault.0 refl)
end_back [] BadNumber fault = absurd fault
end_back [] (CountMismatch stated found) (inl short) = let e = short.begun in cc
end_back [] (CountMismatch stated found) (inr (inl other)) = let e = other.count in cc
end_back [] (CountMismatch stated found) (inr (inr other)) = let e = other.count in cc
end_back (first ∷ rest) BadHeader fault = cc
end_back (first ∷ rest) BadLine fault = end_totals first rest fault.1 _ _ refl refl ∙ missing first rest (latest total_in (first ∷ rest)) (latest pin_total_in (first ∷ rest)) fault.2
end_back (first ∷ rest) BadNumber fault = absurd fault
end_back (first ∷ rest) (CountMismatch stated found) (inl short) =
    ap (λ r. r >>= λ done. totals_of first rest (latest total_in (first ∷ rest)) (latest pin_total_in (first ∷ rest))) (short_back (first ∷ rest) stated found short)
end_back (first ∷ rest) (CountMismatch stated found) (inr (inl other)) =
    end_totals first rest other.whole (Some stated) _ other.count refl ∙ other_nets first rest stated found (latest pin_total_in (first ∷ rest)) other.pins other.nets other.differ
end_back (first ∷ rest) (CountMismatch stated found) (inr (inr other)) = let items = first ∷ rest in
    end_totals first rest other.whole _ (Some stated) other.count other.pins ∙ (right_nets first rest stated
    ∙ (cond-false (stated == pins_found items) _ _ (ne_eqb stated (pins_found items) (λ e. other.differ (e ∙ sym other.stand))) ∙ ap (λ k. Err (CountMismatch stated k)) (sym other.stand)))

pub nets_decided : Decides net_form nets_grammar
nets_decided = record {
  item = item_of;
  item_back = item_back;
  named = named_of;
  named_back = named_back;
  file = file_of;
  file_back = file_back;
  end = end_of;
  end_back = end_back;
}
