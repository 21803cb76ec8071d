-- What the placement reader decides of a line is what the rules say.
use Rattle.std.proofs.Common.{◌≡◌, ℕ, Bool, true, false, List, [], ◌∷◌, codes, Option, Some, None, Result, Ok, Err, IsTrue, refl, sym, ap₂, ◌∙◌, arith}
use Rattle.std.proofs.lemmas.Bool.{cond-true}
use Rattle.book_text.specs.Lines.{NumberedLine}
use Rattle.book_files.specs.declared.orient.Orient.{Orient}
use Rattle.book_files.specs.declared.orient.Orient.TheVariants.{N}
use Rattle.book_files.specs.declared.fault.TextKind.{TextKind}
use Rattle.book_files.specs.declared.fault.TextKind.TheVariants.{BadHeader}
use Rattle.book_files.specs.Words.{is_header, is_colon_word}
use Rattle.book_files.specs.Forms.Words.{number_of, marked}
use Rattle.book_files.specs.Entries.{PlaceEntry}
use Rattle.book_files.specs.Shapes.{IsNumber}
use Rattle.book_files.specs.Places.{PlaceItem, header, placed, place_in, orient_of, place_mark}
use Rattle.book_files.specs.Forms.Places.{placed_at, turned, place_of, place_meaning, place_ending, place_form}
use Rattle.book_files.specs.PlaceRules.{IsUnmarked, IsMarked, IsPlaceShape, HasPlacesShape, HasPlacesNumbers, IsPlacesItem, IsPlaceLine, places_grammar}
use Rattle.book_files.proofs.Bridge.{Decides}
use Rattle.book_files.proofs.ShapeSteps.{Judges, spells_number, judges_bind, judges_marked, shape_item, shape_named, shape_named_back, plain_file, plain_file_back, plain_end, plain_end_back}

module _ (item : PlaceItem) (before : List PlaceItem) (number : ℕ) where
  abbrev line_of : List (List ℕ) → NumberedLine
  line_of words = record { number = number; words = words }

  abbrev Judged : List (List ℕ) → Result PlaceItem TextKind → Type 0
  Judged words r = Judges (HasPlacesShape (item ∷ before) words) (HasPlacesNumbers words) (IsPlacesItem (item ∷ before) (line_of words)) r

  at_judged : (name x y : List ℕ) (rest : List (List ℕ)) (orient : Orient) (fixed overlap : Bool) → IsPlaceShape (name ∷ x ∷ y ∷ rest) orient fixed overlap
      → Judged (name ∷ x ∷ y ∷ rest) (placed_at number name x y orient fixed overlap)
  at_judged name x y rest orient fixed overlap shape = let words = name ∷ x ∷ y ∷ rest in
      judges_bind (HasPlacesShape (item ∷ before) words) (HasPlacesNumbers words) (IsPlacesItem (item ∷ before) (line_of words)) (IsNumber x) (number_of x) _
      (orient, fixed, overlap, shape) (spells_number x) (λ has. has.0) (λ at_x is_x.
      judges_bind (HasPlacesShape (item ∷ before) words) (HasPlacesNumbers words) (IsPlacesItem (item ∷ before) (line_of words)) (IsNumber y) (number_of y)
      (λ at_y. Ok (placed (record { line = number; name = name; x = at_x; y = at_y; orient = orient; fixed = fixed; overlap = overlap })))
      (orient, fixed, overlap, shape) (spells_number y) (λ has. has.1) (λ at_y is_y.
      ((orient, fixed, overlap, shape), ((at_x, is_x), (at_y, is_y)), (λ e. cc, record { shape = shape; number = refl; name = refl; x = is_x; y = is_y }))))

  turned_judged : (name x y colon way : List ℕ) (rest : List (List ℕ)) (stated : Option Orient) (b fixed overlap : Bool) → orient_of way ≡ stated → is_colon_word colon ≡ b
      → ((orient : Orient) → orient_of way ≡ Some orient → is_colon_word colon ≡ true → IsPlaceShape (name ∷ x ∷ y ∷ colon ∷ way ∷ rest) orient fixed overlap)
      → ((orient : Orient) (fixed overlap : Bool) → IsPlaceShape (name ∷ x ∷ y ∷ colon ∷ way ∷ rest) orient fixed overlap → IsTrue (is_colon_word colon) × (orient_of way ≡ Some orient))
      → Judged (name ∷ x ∷ y ∷ colon ∷ way ∷ rest) (turned number name x y colon stated fixed overlap)
  turned_judged name x y colon way rest None b fixed overlap stated is shape parts = λ has. let both = parts has.0 has.1 has.2 has.3 in cc
  turned_judged name x y colon way rest (Some orient) true fixed overlap stated is shape parts = rw is (at_judged name x y (colon ∷ way ∷ rest) orient fixed overlap (shape orient stated is))
  turned_judged name x y colon way rest (Some orient) false fixed overlap stated is shape parts = rw is (λ has. let both = parts has.0 has.1 has.2 has.3 in cc)

  -- a line whose last word has to be a mark
  mark_judged : (words : List (List ℕ)) (mark : List ℕ) (make : Bool → Result PlaceItem TextKind)
      → ((orient : Orient) (fixed overlap : Bool) → IsPlaceShape words orient fixed overlap → IsMarked mark fixed overlap)
      → ((overlap : Bool) → place_mark mark ≡ Some overlap → Judged words (make overlap)) → Judged words (marked (place_mark mark) make)
  mark_judged words mark make is_marked = judges_marked (HasPlacesShape (item ∷ before) words) (HasPlacesNumbers words) (IsPlacesItem (item ∷ before) (line_of words)) (place_mark mark) make
      (λ shape. (shape.2, (is_marked shape.0 shape.1 shape.2 shape.3).1))

  judged_words : (words : List (List ℕ)) → Judged words (place_of number words)
  judged_words [] = λ shape. let e = shape.3.0 in omega arith
  judged_words (name ∷ []) = λ shape. let e = shape.3.0 in omega arith
  judged_words (name ∷ x ∷ []) = λ shape. let e = shape.3.0 in omega arith
  judged_words (name ∷ x ∷ y ∷ []) = at_judged name x y [] N false false (omega arith, (refl, (refl, refl)))
  judged_words (name ∷ x ∷ y ∷ mark ∷ []) = mark_judged (name ∷ x ∷ y ∷ mark ∷ []) mark (placed_at number name x y N true) (λ orient fixed overlap shape. shape.1.1)
      (λ overlap is. at_judged name x y (mark ∷ []) N true overlap (omega arith, (refl, (refl, is))))
  judged_words (name ∷ x ∷ y ∷ colon ∷ way ∷ []) = turned_judged name x y colon way [] (orient_of way) (is_colon_word colon) false false refl refl
      (λ orient stated colons. (omega arith, (colons, stated, (refl, refl)))) (λ orient fixed overlap shape. (shape.1.0, shape.1.1))
  judged_words (name ∷ x ∷ y ∷ colon ∷ way ∷ mark ∷ []) =
      mark_judged (name ∷ x ∷ y ∷ colon ∷ way ∷ mark ∷ []) mark (turned number name x y colon (orient_of way) true) (λ orient fixed overlap shape. shape.1.2)
      (λ overlap is. turned_judged name x y colon way (mark ∷ []) (orient_of way) (is_colon_word colon) true overlap refl refl
      (λ orient stated colons. (omega arith, (colons, stated, (refl, is)))) (λ orient fixed overlap shape. (shape.1.0, shape.1.1)))
  judged_words (name ∷ x ∷ y ∷ colon ∷ way ∷ mark ∷ more ∷ rest) = λ shape. shape.3.1

judged : (item : PlaceItem) (before : List PlaceItem) (line : NumberedLine)
    → Judges (HasPlacesShape (item ∷ before) line.words) (HasPlacesNumbers line.words) (IsPlacesItem (item ∷ before) line) (place_meaning (item ∷ before) line)
judged item before line = judged_words item before line.number line.words

at_back : (number : ℕ) (name x y : List ℕ) (entry : PlaceEntry) → entry.line ≡ number → entry.name ≡ name → IsNumber x entry.x → IsNumber y entry.y
    → placed_at number name x y entry.orient entry.fixed entry.overlap ≡ Ok (placed entry)
at_back number name x y entry same_line same_name is_x is_y = rw ((spells_number x).back entry.x is_x) (rw ((spells_number y).back entry.y is_y) (ap₂ (λ l n. Ok (placed (record { line = l; name = n; x = entry.x; y = entry.y; orient = entry.orient; fixed = entry.fixed; overlap = entry.overlap }))) (sym same_line) (sym same_name)))

unmarked_back : (make : Bool → Bool → Result PlaceItem TextKind) (entry : PlaceEntry) → IsUnmarked entry.fixed entry.overlap
    → make entry.fixed entry.overlap ≡ Ok (placed entry) → make false false ≡ Ok (placed entry)
unmarked_back make entry is back = ap₂ make (sym is.0) (sym is.1) ∙ back

marked_back : (make : Bool → Bool → Result PlaceItem TextKind) (mark : List ℕ) (entry : PlaceEntry) → IsMarked mark entry.fixed entry.overlap
    → make entry.fixed entry.overlap ≡ Ok (placed entry) → marked (place_mark mark) (make true) ≡ Ok (placed entry)
marked_back make mark entry is back = ap₂ (λ fixed stated. marked stated (make fixed)) (sym is.0) is.1 ∙ back

place_back : (words : List (List ℕ)) (number : ℕ) (entry : PlaceEntry) → IsPlaceLine (record { number = number; words = words }) entry → place_of number words ≡ Ok (placed entry)
place_back [] number entry is = let three = is.shape.0 in absurd (omega arith)
place_back (name ∷ []) number entry is = let three = is.shape.0 in absurd (omega arith)
place_back (name ∷ x ∷ []) number entry is = let three = is.shape.0 in absurd (omega arith)
place_back (name ∷ x ∷ y ∷ []) number entry is = let e = is.shape.1 in
    unmarked_back (placed_at number name x y N) entry e.1 (rw (← e.0) (at_back number name x y entry is.number is.name is.x is.y))
place_back (name ∷ x ∷ y ∷ mark ∷ []) number entry is = let e = is.shape.1 in
    marked_back (placed_at number name x y N) mark entry e.1 (rw (← e.0) (at_back number name x y entry is.number is.name is.x is.y))
place_back (name ∷ x ∷ y ∷ colon ∷ way ∷ []) number entry is = let e = is.shape.1 in
    unmarked_back (turned number name x y colon (orient_of way)) entry e.2 (rw (e.1, e.0) (at_back number name x y entry is.number is.name is.x is.y))
place_back (name ∷ x ∷ y ∷ colon ∷ way ∷ mark ∷ []) number entry is = let e = is.shape.1 in
    marked_back (turned number name x y colon (orient_of way)) mark entry e.2 (rw (e.1, e.0) (at_back number name x y entry is.number is.name is.x is.y))
place_back (name ∷ x ∷ y ∷ colon ∷ way ∷ mark ∷ more ∷ rest) number entry is = absurd is.shape.1

item_back : (before : List PlaceItem) (line : NumberedLine) (stated : PlaceItem) → IsPlacesItem before line stated → place_meaning before line ≡ Ok stated
item_back [] line header is = cond-true (is_header (codes "pl") line.words) (Ok header) (Err BadHeader) is.1
item_back [] line (placed entry) is = absurd (is.0 refl)
item_back (item ∷ before) line header is = let e = is.0 in cc
item_back (item ∷ before) line (placed entry) is = place_back line.words line.number entry is.1

pub places_decided : Decides place_form places_grammar
places_decided = record {
  item = shape_item place_form (codes "pl") HasPlacesShape HasPlacesNumbers IsPlacesItem header (λ line. refl) judged (λ line is. (refl, is));
  item_back = item_back;
  named = shape_named place_form (codes "pl") HasPlacesShape HasPlacesNumbers IsPlacesItem header (λ line. refl) judged;
  named_back = shape_named_back place_form (codes "pl") HasPlacesShape HasPlacesNumbers IsPlacesItem header (λ line. refl) judged;
  file = plain_file place_ending place_in refl (λ item items. refl);
  file_back = plain_file_back place_ending place_in refl (λ item items. refl);
  end = plain_end place_ending place_in refl (λ item items. refl);
  end_back = plain_end_back place_ending place_in refl (λ item items. refl);
}
