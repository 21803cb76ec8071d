-- The text of a placement.
use Rattle.std.specs.Prelude.{ℕ, ◌+◌, Bool, true, false, List, [], ◌∷◌, ◌++◌, flat_map, codes}
use Rattle.book_text.specs.Lines.{spaced}
use Rattle.book_text.specs.Decimal.{canonical}
use Rattle.book_files.specs.declared.orient.Orient.{Orient}
use Rattle.book_files.specs.declared.orient.Orient.TheVariants.{N, S, E, W, FN, FS, FE, FW}
use Rattle.book_files.specs.Entries.{PlaceEntry}
use Rattle.book_files.specs.Ranges.{IsName, IsPlaceInRange}

abbrev pub orient_word : Orient → List ℕ
orient_word N = codes "N"
orient_word S = codes "S"
orient_word E = codes "E"
orient_word W = codes "W"
orient_word FN = codes "FN"
orient_word FS = codes "FS"
orient_word FE = codes "FE"
orient_word FW = codes "FW"

-- the mark of a fixed node, by whether it allows overlap
abbrev pub mark_words : Bool → Bool → List (List ℕ)
mark_words false overlap = []
mark_words true false = codes "/FIXED" ∷ []
mark_words true true = codes "/FIXED_NI" ∷ []

-- `NAME X Y : ORIENT`, and behind it `/FIXED_NI` for a fixed node that allows overlap and `/FIXED` for any other fixed node
abbrev pub place_words : PlaceEntry → List (List ℕ)
place_words place = place.name ∷ canonical place.x ∷ canonical place.y ∷ codes ":" ∷ orient_word place.orient ∷ mark_words place.fixed place.overlap

-- the words with a space between each two, and the line's end
abbrev pub line_of : List (List ℕ) → List ℕ
line_of words = spaced words ++ 10 ∷ []

-- the header `UCLA pl 1.0`, and a line for each place
abbrev pub placement_text : List PlaceEntry → List ℕ
placement_text places = line_of (codes "UCLA" ∷ codes "pl" ∷ codes "1.0" ∷ []) ++ flat_map (λ place. line_of (place_words place)) places

-- the same places on the lines from the given number on
abbrev pub numbered : ℕ → List PlaceEntry → List PlaceEntry
numbered n [] = []
numbered n (place ∷ places) = record { line = n; name = place.name; x = place.x; y = place.y; orient = place.orient; fixed = place.fixed; overlap = place.overlap } ∷ numbered (n + 1) places

-- a place that a reader of its text gives back
pub record IsWritable (place : PlaceEntry) : Type 0 where
  pub name : IsName place.name
  pub range : IsPlaceInRange place
