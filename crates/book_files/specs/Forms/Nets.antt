-- The nets file: a header, count lines, and nets with their pins.
use Rattle.std.specs.Prelude.{ℕ, ◌+◌, List, [], ◌∷◌, length, map, codes, nat_lt, ◌==◌, is_some, pos, Option, Some, None, Result, Ok, Err, if◌then◌else◌, filter_map}
use Rattle.book_text.specs.Lines.{NumberedLine}
use Rattle.book_files.specs.declared.fault.TextKind.{TextKind}
use Rattle.book_files.specs.declared.fault.TextKind.TheVariants.{BadHeader, BadLine, CountMismatch}
use Rattle.book_files.specs.Forms.Form.{Form}
use Rattle.book_files.specs.Groups.{Group}
use Rattle.book_files.specs.Entries.{PinEntry, NetEntry}
use Rattle.book_files.specs.Words.{latest, is_header, is_keyed, is_colon_word}
use Rattle.book_files.specs.Forms.Words.{◌>>=◌, count_of, whole_of, number_of}
use Rattle.book_files.specs.Nets.{NetHead, NetItem, total_in, pin_total_in, pin_in, nets_in, open_net, is_direction, entry_of_net}
use Rattle.book_files.specs.Nets.NetItem.{header, total, pin_total, net, pin}

-- the fault where the last net has fewer pins than it is to have
abbrev pub unless_short : Option (Group NetHead PinEntry) → Result (Unit {0}) TextKind
unless_short None = Ok tt
unless_short (Some last) = if nat_lt (length last.parts) last.head.degree then Err (CountMismatch last.head.degree (length last.parts)) else Ok tt

-- `NetDegree : k`, and a name behind it or none
abbrev pub head_of : List (List ℕ) → Result NetItem TextKind
head_of (key ∷ colon ∷ degree ∷ []) = whole_of degree >>= λ k. Ok (net (record { degree = k; name = None }))
head_of (key ∷ colon ∷ degree ∷ name ∷ []) = whole_of degree >>= λ k. Ok (net (record { degree = k; name = Some name }))
head_of [] = Err BadLine
head_of (key ∷ []) = Err BadLine
head_of (key ∷ colon ∷ []) = Err BadLine
head_of (key ∷ colon ∷ degree ∷ name ∷ more ∷ rest) = Err BadLine

abbrev pub offset_pin : ℕ → List ℕ → List ℕ → List ℕ → Result PinEntry TextKind
offset_pin number node x y = number_of x >>= λ dx. number_of y >>= λ dy. Ok (record { line = number; node = node; dx = dx; dy = dy })

abbrev pub plain_pin : ℕ → List ℕ → PinEntry
plain_pin number node = record { line = number; node = node; dx = pos 0; dy = pos 0 }

-- `node`, `node D` or `node D : x y`
abbrev pub pin_of : ℕ → List (List ℕ) → Result PinEntry TextKind
pin_of number (node ∷ []) = Ok (plain_pin number node)
pin_of number (node ∷ direction ∷ []) = if is_direction direction then Ok (plain_pin number node) else Err BadLine
pin_of number (node ∷ direction ∷ colon ∷ x ∷ y ∷ []) = if is_direction direction then (if is_colon_word colon then offset_pin number node x y else Err BadLine) else Err BadLine
pin_of number [] = Err BadLine
pin_of number (node ∷ direction ∷ colon ∷ []) = Err BadLine
pin_of number (node ∷ direction ∷ colon ∷ x ∷ []) = Err BadLine
pin_of number (node ∷ direction ∷ colon ∷ x ∷ y ∷ more ∷ rest) = Err BadLine

-- a pin of the open net, of which it may not be one too many; there is no pin before the first net
abbrev pub pin_behind : Option (Group NetHead PinEntry) → NumberedLine → Result NetItem TextKind
pin_behind None line = Err BadLine
pin_behind (Some begun) line = pin_of line.number line.words >>= λ entry. if nat_lt (length begun.parts) begun.head.degree then Ok (pin entry) else Err (CountMismatch begun.head.degree (begun.head.degree + 1))

abbrev pub net_meaning : List NetItem → NumberedLine → Result NetItem TextKind
net_meaning [] line = if is_header (codes "nets") line.words then Ok header else Err BadHeader
net_meaning (item ∷ items) line =
    if is_keyed (codes "numnets") line.words then (count_of (is_some (latest total_in (item ∷ items))) line.words >>= λ n. Ok (total n))
    else if is_keyed (codes "numpins") line.words then (count_of (is_some (latest pin_total_in (item ∷ items))) line.words >>= λ p. Ok (pin_total p))
    else if is_keyed (codes "netdegree") line.words then (unless_short (open_net (item ∷ items)) >>= λ done. head_of line.words)
    else pin_behind (open_net (item ∷ items)) line

-- the two totals, each of which has to be stated before it is compared
abbrev pub totals : Option ℕ → Option ℕ → List NetEntry → ℕ → Result (List NetEntry) TextKind
totals None pins nets found = Err BadLine
totals (Some n) None nets found = Err BadLine
totals (Some n) (Some p) nets found = if n == length nets then (if p == found then Ok nets else Err (CountMismatch p found)) else Err (CountMismatch n (length nets))

-- the last net's pins, then the missing counts, then the two totals
abbrev pub net_ending : List NetItem → Result (List NetEntry) TextKind
net_ending [] = Err BadHeader
net_ending (item ∷ items) = unless_short (open_net (item ∷ items)) >>= λ done.
    totals (latest total_in (item ∷ items)) (latest pin_total_in (item ∷ items)) (map entry_of_net (nets_in (item ∷ items))) (length (filter_map pin_in (item ∷ items)))

abbrev pub net_form : Form NetItem (List NetEntry)
net_form = record { meaning = net_meaning; ending = net_ending }
