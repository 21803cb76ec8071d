-- The places that a text reads as are few, with coordinates in range.
use Rattle.std.proofs.Common.{◌≡◌, ℕ, ◌≤◌, Bool, false, true, List, [], ◌∷◌, length, Option, Some, None, Ok, Err, IfOk, codes, refl}
use Rattle.std.specs.Option.{IfSome}
use Rattle.std.specs.List.{AllByRecursion, filter_map}
use Rattle.book_text.specs.Lines.{NumberedLine, content_of}
use Rattle.book_files.specs.declared.orient.Orient.{Orient}
use Rattle.book_files.specs.declared.orient.Orient.TheVariants.{N}
use Rattle.book_files.specs.declared.fault.TextKind.TheVariants.{BadHeader, BadLine}
use Rattle.book_files.specs.Words.{is_header, is_colon_word}
use Rattle.book_files.specs.Forms.Words.{number_of}
use Rattle.book_files.specs.Entries.{PlaceEntry}
use Rattle.book_files.specs.Places.{PlaceItem, header, placed, place_in, orient_of, place_mark}
use Rattle.book_files.specs.Forms.Places.{placed_at, turned, place_of, place_meaning, place_ending, place_form}
use Rattle.book_files.proofs.FormTexts.{Reads}
use Rattle.book_files.specs.Ranges.{IsInRange, IsMarkedWell, IsPlaceInRange}
use Rattle.book_files.proofs.FewRecords.{any_lines, records_few, records_good}
use Rattle.book_files.proofs.GoodRecords.{bind_good, if_good, marked_good, number_good}

abbrev IsGoodItem : PlaceItem → Type 0
IsGoodItem item = IfSome (place_in item) IsPlaceInRange

module _ (number : ℕ) where
  at_good : (name x y : List ℕ) (orient : Orient) (fixed overlap : Bool) → IsMarkedWell fixed overlap → IfOk (placed_at number name x y orient fixed overlap) IsGoodItem
  at_good name x y orient fixed overlap marks = bind_good IsInRange IsGoodItem (number_of x) _ (number_good x) (λ at_x x_good.
      bind_good IsInRange IsGoodItem (number_of y) (λ at_y. Ok (placed (record { line = number; name = name; x = at_x; y = at_y; orient = orient; fixed = fixed; overlap = overlap }))) (number_good y)
      (λ at_y y_good. record { x = x_good; y = y_good; marks = marks }))

  turned_good : (name x y colon : List ℕ) (orient : Option Orient) (fixed overlap : Bool) → IsMarkedWell fixed overlap → IfOk (turned number name x y colon orient fixed overlap) IsGoodItem
  turned_good name x y colon (Some orient) fixed overlap marks =
      if_good IsGoodItem (is_colon_word colon) (placed_at number name x y orient fixed overlap) (Err BadLine) (at_good name x y orient fixed overlap marks) tt
  turned_good name x y colon None fixed overlap marks = tt

  line_good : (words : List (List ℕ)) → IfOk (place_of number words) IsGoodItem
  line_good (name ∷ x ∷ y ∷ []) = at_good name x y N false false (λ overlaps. overlaps)
  line_good (name ∷ x ∷ y ∷ mark ∷ []) = marked_good IsGoodItem (place_mark mark) (placed_at number name x y N true) (λ overlap. at_good name x y N true overlap (λ _. refl))
  line_good (name ∷ x ∷ y ∷ colon ∷ orient ∷ []) = turned_good name x y colon (orient_of orient) false false (λ overlaps. overlaps)
  line_good (name ∷ x ∷ y ∷ colon ∷ orient ∷ mark ∷ []) =
      marked_good IsGoodItem (place_mark mark) (turned number name x y colon (orient_of orient) true) (λ overlap. turned_good name x y colon (orient_of orient) true overlap (λ _. refl))
  line_good [] = tt
  line_good (name ∷ []) = tt
  line_good (name ∷ x ∷ []) = tt
  line_good (name ∷ x ∷ y ∷ colon ∷ orient ∷ mark ∷ more ∷ rest) = tt

meaning_good : (before : List PlaceItem) (line : NumberedLine) → IfOk (place_meaning before line) IsGoodItem
meaning_good [] line = if_good IsGoodItem (is_header (codes "pl") line.words) (Ok header) (Err BadHeader) tt tt
meaning_good (item ∷ items) line = line_good line.number line.words

ending_is : (places : List PlaceEntry) (items : List PlaceItem) → place_ending items ≡ Ok places → places ≡ filter_map place_in items
ending_is places [] ends = cc
ending_is places (item ∷ items) ends = cc

pub places_few : (text : List ℕ) (places : List PlaceEntry) → Reads place_form text places → length places ≤ length text
places_few text places reads = records_few place_form place_in text places (ending_is places) reads

pub places_good : (text : List ℕ) (places : List PlaceEntry) → Reads place_form text places → AllByRecursion IsPlaceInRange places
places_good text places reads = records_good place_form place_in text places (ending_is places) reads (λ line. Unit {0}) IsPlaceInRange (any_lines (content_of text)) (λ before line any. meaning_good before line)
