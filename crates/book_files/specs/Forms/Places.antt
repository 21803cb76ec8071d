-- The placement file: a header, and a line per placed node.
use Rattle.std.specs.Prelude.{ℕ, Bool, true, false, List, [], ◌∷◌, ◌++◌, codes, Option, Some, None, Result, Ok, Err, if◌then◌else◌, filter_map}
use Rattle.book_text.specs.Lines.{NumberedLine}
use Rattle.book_files.specs.declared.orient.Orient.{Orient}
use Rattle.book_files.specs.declared.orient.Orient.TheVariants.{N}
use Rattle.book_files.specs.declared.fault.TextKind.{TextKind}
use Rattle.book_files.specs.declared.fault.TextKind.TheVariants.{BadHeader, BadLine}
use Rattle.book_files.specs.Forms.Form.{Form}
use Rattle.book_files.specs.Words.{is_header, is_colon_word}
use Rattle.book_files.specs.Forms.Words.{◌>>=◌, number_of, marked}
use Rattle.book_files.specs.Entries.{PlaceEntry}
use Rattle.book_files.specs.Places.{PlaceItem, place_in, orient_of, place_mark}
use Rattle.book_files.specs.Places.PlaceItem.{header, placed}

-- a place with its numbers, tested from left to right
abbrev pub placed_at : ℕ → List ℕ → List ℕ → List ℕ → Orient → Bool → Bool → Result PlaceItem TextKind
placed_at number name x y orient fixed overlap = number_of x >>= λ at_x. number_of y >>= λ at_y. Ok (placed (record { line = number; name = name; x = at_x; y = at_y; orient = orient; fixed = fixed; overlap = overlap }))

abbrev pub turned : ℕ → List ℕ → List ℕ → List ℕ → List ℕ → Option Orient → Bool → Bool → Result PlaceItem TextKind
turned number name x y colon (Some orient) fixed overlap = if is_colon_word colon then placed_at number name x y orient fixed overlap else Err BadLine
turned number name x y colon None fixed overlap = Err BadLine

-- `name x y`, or the same and a mark, and `name x y : ORIENT`, or the same and a mark
abbrev pub place_of : ℕ → List (List ℕ) → Result PlaceItem TextKind
place_of number (name ∷ x ∷ y ∷ []) = placed_at number name x y N false false
place_of number (name ∷ x ∷ y ∷ mark ∷ []) = marked (place_mark mark) (placed_at number name x y N true)
place_of number (name ∷ x ∷ y ∷ colon ∷ orient ∷ []) = turned number name x y colon (orient_of orient) false false
place_of number (name ∷ x ∷ y ∷ colon ∷ orient ∷ mark ∷ []) = marked (place_mark mark) (turned number name x y colon (orient_of orient) true)
place_of number [] = Err BadLine
place_of number (name ∷ []) = Err BadLine
place_of number (name ∷ x ∷ []) = Err BadLine
place_of number (name ∷ x ∷ y ∷ colon ∷ orient ∷ mark ∷ more ∷ rest) = Err BadLine

abbrev pub place_meaning : List PlaceItem → NumberedLine → Result PlaceItem TextKind
place_meaning [] line = if is_header (codes "pl") line.words then Ok header else Err BadHeader
place_meaning (item ∷ items) line = place_of line.number line.words

abbrev pub place_ending : List PlaceItem → Result (List PlaceEntry) TextKind
place_ending [] = Err BadHeader
place_ending (item ∷ items) = Ok (filter_map place_in (item ∷ items))

abbrev pub place_form : Form PlaceItem (List PlaceEntry)
place_form = record { meaning = place_meaning; ending = place_ending }

-- what ends the line of a place: its mark behind a space, or none, and the line's end
abbrev pub mark_end : Bool → Bool → List ℕ
mark_end false overlap = 10 ∷ []
mark_end true false = codes " /FIXED" ++ 10 ∷ []
mark_end true true = codes " /FIXED_NI" ++ 10 ∷ []
