-- The rules of the nets file: a header, count lines, each once, and nets with their pins.
use Rattle.std.specs.Prelude.{◌≡◌, ◌≢◌, ◌⊎◌, ℕ, ◌+◌, ◌<◌, ◌≤◌, Bool, ◌||◌, List, [], ◌∷◌, length, map, codes, filter_map, IsTrue, IsFalse, ℤ, pos, Option, Some, None}
use Rattle.book_text.specs.Lines.{NumberedLine}
use Rattle.book_files.specs.declared.fault.TextKind.{TextKind}
use Rattle.book_files.specs.declared.fault.TextKind.TheVariants.{BadHeader, BadLine, BadNumber, CountMismatch}
use Rattle.book_files.specs.Grammar.{Grammar}
use Rattle.book_files.specs.Groups.{Group}
use Rattle.book_files.specs.Words.{latest, is_header, is_keyed, is_colon_word}
use Rattle.book_files.specs.Shapes.{word_at, IsWhole, IsNumber, HasWhole, IsOnceShape, IsHeaderLine}
use Rattle.book_files.specs.Entries.{PinEntry, NetEntry}
use Rattle.book_files.specs.Nets.{NetHead, NetItem, header, total, pin_total, net, pin, total_in, pin_total_in, pin_in, nets_in, open_net, is_direction, entry_of_net}

-- a line that starts a net, by its first two words
abbrev pub is_net_start : List (List ℕ) → Bool
is_net_start words = is_keyed (codes "netdegree") words

-- a count line or one that starts a net
abbrev pub is_keyed_line : List (List ℕ) → Bool
is_keyed_line words = is_keyed (codes "numnets") words || (is_keyed (codes "numpins") words || is_net_start words)

-- `NetDegree : k`, or the same and the net's name
abbrev pub IsNetShape : List (List ℕ) → Option (List ℕ) → Type 0
IsNetShape words None = IsTrue (is_net_start words) × (length words ≡ 3)
IsNetShape words (Some name) = IsTrue (is_net_start words) × (length words ≡ 4) × (name ≡ word_at words 3)

-- `node`, `node D` or `node D : x y`, with a direction D
abbrev pub IsPinShape : List (List ℕ) → Type 0
IsPinShape [] = ⊥
IsPinShape (node ∷ []) = Unit {0}
IsPinShape (node ∷ direction ∷ []) = IsTrue (is_direction direction)
IsPinShape (node ∷ direction ∷ colon ∷ []) = ⊥
IsPinShape (node ∷ direction ∷ colon ∷ x ∷ []) = ⊥
IsPinShape (node ∷ direction ∷ colon ∷ x ∷ y ∷ []) = IsTrue (is_direction direction) × IsTrue (is_colon_word colon)
IsPinShape (node ∷ direction ∷ colon ∷ x ∷ y ∷ more ∷ rest) = ⊥

-- the offset that a pin's words give: none written is 0
abbrev pub IsPinOffset : List (List ℕ) → ℤ → ℤ → Type 0
IsPinOffset (node ∷ direction ∷ colon ∷ x ∷ y ∷ rest) dx dy = IsNumber x dx × IsNumber y dy
IsPinOffset [] dx dy = (dx ≡ pos 0) × (dy ≡ pos 0)
IsPinOffset (node ∷ []) dx dy = (dx ≡ pos 0) × (dy ≡ pos 0)
IsPinOffset (node ∷ direction ∷ []) dx dy = (dx ≡ pos 0) × (dy ≡ pos 0)
IsPinOffset (node ∷ direction ∷ colon ∷ []) dx dy = (dx ≡ pos 0) × (dy ≡ pos 0)
IsPinOffset (node ∷ direction ∷ colon ∷ x ∷ []) dx dy = (dx ≡ pos 0) × (dy ≡ pos 0)

-- the net that was begun last has fewer pins than it is to have
pub record IsShort (items : List NetItem) (stated found : ℕ) : Type 0 where
  pub last : Group NetHead PinEntry
  pub begun : open_net items ≡ Some last
  pub degree : stated ≡ last.head.degree
  pub pins : found ≡ length last.parts
  pub fewer : found < stated

abbrev pub IsNotShort : List NetItem → Type 0
IsNotShort items = (stated found : ℕ) → IsShort items stated found → ⊥

-- a pin's line stands behind a line that starts a net
pub record IsPinLine (before : List NetItem) (words : List (List ℕ)) (last : Group NetHead PinEntry) : Type 0 where
  pub begun : open_net before ≡ Some last
  pub other : IsFalse (is_keyed_line words)
  pub shape : IsPinShape words

-- the line is the pin's, and the net is to have one more
pub record IsPinOf (before : List NetItem) (line : NumberedLine) (entry : PinEntry) : Type 0 where
  pub last : Group NetHead PinEntry
  pub shape : IsPinLine before line.words last
  pub number : entry.line ≡ line.number
  pub node : entry.node ≡ word_at line.words 0
  pub offset : IsPinOffset line.words entry.dx entry.dy
  pub room : length last.parts < last.head.degree

-- the line starts a net, and the net before has its pins
pub record IsNetLine (before : List NetItem) (line : NumberedLine) (head : NetHead) : Type 0 where
  pub shape : IsNetShape line.words head.name
  pub degree : IsWhole (word_at line.words 2) head.degree
  pub whole : IsNotShort before

abbrev pub IsNetsItem : List NetItem → NumberedLine → NetItem → Type 0
IsNetsItem before line header = IsHeaderLine (codes "nets") before line
IsNetsItem before line (total n) = (before ≢ []) × IsOnceShape (codes "numnets") total_in before line.words × IsWhole (word_at line.words 2) n
IsNetsItem before line (pin_total p) = (before ≢ []) × IsOnceShape (codes "numpins") pin_total_in before line.words × IsWhole (word_at line.words 2) p
IsNetsItem before line (net head) = (before ≢ []) × IsNetLine before line head
IsNetsItem before line (pin entry) = (before ≢ []) × IsPinOf before line entry

abbrev pub HasPinLine : List NetItem → List (List ℕ) → Type 0
HasPinLine before words = (last : Group NetHead PinEntry) × IsPinLine before words last

abbrev pub HasNetsShape : List NetItem → List (List ℕ) → Type 0
HasNetsShape before words = IsOnceShape (codes "numnets") total_in before words ⊎ (IsOnceShape (codes "numpins") pin_total_in before words
    ⊎ (((name : Option (List ℕ)) × IsNetShape words name) ⊎ HasPinLine before words))

-- each word in a number's place is a number in its range
pub record HasNetsNumbers (words : List (List ℕ)) : Type 0 where
  pub count : IsTrue (is_keyed_line words) → HasWhole (word_at words 2)
  pub offset : IsFalse (is_keyed_line words) → (dx : ℤ) × (dy : ℤ) × IsPinOffset words dx dy

-- the line starts a net, and the net before has too few pins: this is seen before anything else of the line
abbrev pub IsShortAtLine : List NetItem → List (List ℕ) → ℕ → ℕ → Type 0
IsShortAtLine before words stated found = IsTrue (is_net_start words) × IsShort before stated found

-- the line is that of a pin, and its net has all its pins already
pub record IsPinTooMany (before : List NetItem) (words : List (List ℕ)) (stated found : ℕ) : Type 0 where
  pub last : Group NetHead PinEntry
  pub shape : IsPinLine before words last
  pub numbers : HasNetsNumbers words
  pub degree : stated ≡ last.head.degree
  pub more : found ≡ stated + 1
  pub full : stated ≤ length last.parts

-- the net before has its pins, where the line starts a net
abbrev pub IsNotShortAtLine : List NetItem → List (List ℕ) → Type 0
IsNotShortAtLine before words = (stated found : ℕ) → IsShortAtLine before words stated found → ⊥

abbrev pub IsNetsLineFault : List NetItem → NumberedLine → TextKind → Type 0
IsNetsLineFault [] line BadHeader = IsFalse (is_header (codes "nets") line.words)
IsNetsLineFault [] line BadLine = ⊥
IsNetsLineFault [] line BadNumber = ⊥
IsNetsLineFault [] line (CountMismatch stated found) = ⊥
IsNetsLineFault (item ∷ before) line BadHeader = ⊥
IsNetsLineFault (item ∷ before) line BadLine = IsNotShortAtLine (item ∷ before) line.words × (HasNetsShape (item ∷ before) line.words → ⊥)
IsNetsLineFault (item ∷ before) line BadNumber = IsNotShortAtLine (item ∷ before) line.words × HasNetsShape (item ∷ before) line.words × (HasNetsNumbers line.words → ⊥)
IsNetsLineFault (item ∷ before) line (CountMismatch stated found) = IsShortAtLine (item ∷ before) line.words stated found ⊎ IsPinTooMany (item ∷ before) line.words stated found

-- how many pins stand there
abbrev pub pins_found : List NetItem → ℕ
pins_found items = length (filter_map pin_in items)

-- the nets are those that stand there, each with its pins, and both numbers are stated
pub record IsNetsFile (items : List NetItem) (nets : List NetEntry) : Type 0 where
  pub blocks : nets ≡ map entry_of_net (nets_in items)
  pub whole : IsNotShort items
  pub count : latest total_in items ≡ Some (length nets)
  pub pins : latest pin_total_in items ≡ Some (pins_found items)

-- another number of nets than stands there
pub record IsOtherNets (items : List NetItem) (stated found : ℕ) : Type 0 where
  pub whole : IsNotShort items
  pub count : latest total_in items ≡ Some stated
  pub pins : latest pin_total_in items ≢ None
  pub nets : found ≡ length (nets_in items)
  pub differ : stated ≢ found

-- the number of nets is right, and another number of pins than stands there
pub record IsOtherPins (items : List NetItem) (stated found : ℕ) : Type 0 where
  pub whole : IsNotShort items
  pub count : latest total_in items ≡ Some (length (nets_in items))
  pub pins : latest pin_total_in items ≡ Some stated
  pub stand : found ≡ pins_found items
  pub differ : stated ≢ found

-- No line at all; then too few pins of the last net; then a missing count line; then another number of nets, then of pins.
abbrev pub IsNetsEndFault : List NetItem → TextKind → Type 0
IsNetsEndFault items BadHeader = items ≡ []
IsNetsEndFault items BadLine = (items ≢ []) × IsNotShort items × ((latest total_in items ≡ None) ⊎ (latest pin_total_in items ≡ None))
IsNetsEndFault items BadNumber = ⊥
IsNetsEndFault items (CountMismatch stated found) = IsShort items stated found ⊎ (IsOtherNets items stated found ⊎ IsOtherPins items stated found)

abbrev pub nets_grammar : Grammar NetItem (List NetEntry)
nets_grammar = record { IsItem = IsNetsItem; IsLineFault = IsNetsLineFault; IsFile = IsNetsFile; IsEndFault = IsNetsEndFault }
