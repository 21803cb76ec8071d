-- A reader of a placement's text gives the places back, by the laws of spaced words and of canonical decimals.
use Rattle.std.proofs.Common.{◌≡◌, ◌≢◌, ℕ, ◌+◌, ◌-◌, ◌<◌, Bool, true, false, List, [], ◌∷◌, ◌++◌, length, map, flat_map, codes, Some, Ok, slice_index, ℤ, pos, neg_ℤ, ◌≤ℤ◌, refl, sym, ap, append_assoc, inl, inr, arith, subst}
use Rattle.std.specs.List.{All, AllByRecursion, list_all, filter_map}
use Rattle.std.proofs.lemmas.List.Elements.{All-from_recursion}
use Rattle.book_text.specs.declared.decimal.TheConstants.{MOST_MICRO}
use Rattle.book_text.specs.Lines.{IsWord, is_word_byte, spaced, words_of, lines_of, has_content, content_from}
use Rattle.book_text.specs.Decimal.{canonical, micro_value}
use Rattle.book_files.specs.declared.orient.Orient.{Orient}
use Rattle.book_files.specs.declared.orient.Orient.TheVariants.{N, S, E, W, FN, FS, FE, FW}
use Rattle.book_files.specs.Grammar.{AreItems, IsReading}
use Rattle.book_files.specs.Places.{PlaceItem, header, placed, place_in, orient_of}
use Rattle.book_files.specs.Ranges.{IsMarkedWell}
use Rattle.book_files.specs.PlaceRules.{IsPlaceEnd, IsPlaceLine, places_grammar}
use Rattle.book_files.specs.Entries.{PlaceEntry}
use Rattle.book_files.specs.PlaceText.{IsWritable, orient_word, mark_words, place_words, line_of, placement_text, numbered}

-- a word without a colon at either end
plain : (word : List ℕ) → 0 < length word → list_all is_word_byte word ≡ true → slice_index word 0 ≢ 58 → slice_index word (length word - 1) ≢ 58 → IsWord word
plain word some unbroken first last = record { some = some; unbroken = unbroken; colons = inr (first, last) }

orient_is_word : (orient : Orient) → IsWord (orient_word orient)
orient_is_word N = plain (codes "N") (omega arith) refl (λ e. omega (arith, e)) (λ e. omega (arith, e))
orient_is_word S = plain (codes "S") (omega arith) refl (λ e. omega (arith, e)) (λ e. omega (arith, e))
orient_is_word E = plain (codes "E") (omega arith) refl (λ e. omega (arith, e)) (λ e. omega (arith, e))
orient_is_word W = plain (codes "W") (omega arith) refl (λ e. omega (arith, e)) (λ e. omega (arith, e))
orient_is_word FN = plain (codes "FN") (omega arith) refl (λ e. omega (arith, e)) (λ e. omega (arith, e))
orient_is_word FS = plain (codes "FS") (omega arith) refl (λ e. omega (arith, e)) (λ e. omega (arith, e))
orient_is_word FE = plain (codes "FE") (omega arith) refl (λ e. omega (arith, e)) (λ e. omega (arith, e))
orient_is_word FW = plain (codes "FW") (omega arith) refl (λ e. omega (arith, e)) (λ e. omega (arith, e))

marks_are_words : (fixed overlap : Bool) → AllByRecursion IsWord (mark_words fixed overlap)
marks_are_words false overlap = tt
marks_are_words true false = (plain (codes "/FIXED") (omega arith) refl (λ e. omega (arith, e)) (λ e. omega (arith, e)), tt)
marks_are_words true true = (plain (codes "/FIXED_NI") (omega arith) refl (λ e. omega (arith, e)) (λ e. omega (arith, e)), tt)

header_are_words : All IsWord (codes "UCLA" ∷ codes "pl" ∷ codes "1.0" ∷ [])
header_are_words = All-from_recursion IsWord (codes "UCLA" ∷ codes "pl" ∷ codes "1.0" ∷ []) (
  plain (codes "UCLA") (omega arith) refl (λ e. omega (arith, e)) (λ e. omega (arith, e)),
  (
    plain (codes "pl") (omega arith) refl (λ e. omega (arith, e)) (λ e. omega (arith, e)),
    (
      plain (codes "1.0") (omega arith) refl (λ e. omega (arith, e)) (λ e. omega (arith, e)),
      tt,
    ),
  ),
)

colon_is_word : IsWord (codes ":")
colon_is_word = record { some = omega arith; unbroken = refl; colons = inl refl }

-- an orientation's keyword is read as it
orient_back : (orient : Orient) → orient_of (orient_word orient) ≡ Some orient
orient_back N = refl
orient_back S = refl
orient_back E = refl
orient_back W = refl
orient_back FN = refl
orient_back FS = refl
orient_back FE = refl
orient_back FW = refl

end_back : (orient : Orient) (fixed overlap : Bool) → IsMarkedWell fixed overlap → IsPlaceEnd (codes ":" ∷ orient_word orient ∷ mark_words fixed overlap) orient fixed overlap
end_back orient false false marks = (refl, orient_back orient, (refl, refl))
end_back orient false true marks = let e = marks refl in cc
end_back orient true false marks = (refl, orient_back orient, (refl, refl))
end_back orient true true marks = (refl, orient_back orient, (refl, refl))

placed_back : (places : List PlaceEntry) → filter_map place_in (map placed places) ≡ places
placed_back [] = refl
placed_back (place ∷ places) = ap (λ rest. place ∷ rest) (placed_back places)

some_items : (before : List PlaceItem) (item : PlaceItem) → before ++ item ∷ [] ≢ []
some_items [] item e = cc
some_items (first ∷ before) item e = cc

module _ (words_back : (words : List (List ℕ)) → All IsWord words → words_of (spaced words) ≡ words)
    (one_line : (words : List (List ℕ)) (text : List ℕ) → All IsWord words → lines_of (spaced words ++ 10 ∷ text) ≡ spaced words ∷ lines_of text)
    (number_back : (z : ℤ) → neg_ℤ (pos MOST_MICRO) ≤ℤ z → z ≤ℤ pos MOST_MICRO → micro_value (canonical z) ≡ Ok z)
    (number_word : (z : ℤ) → neg_ℤ (pos MOST_MICRO) ≤ℤ z → z ≤ℤ pos MOST_MICRO → IsWord (canonical z)) where
  -- one line in front of a text
  content-line : (n : ℕ) (words : List (List ℕ)) (text : List ℕ) → All IsWord words → has_content words ≡ true
      → content_from n (line_of words ++ text) ≡ record { number = n; words = words } ∷ content_from (n + 1) text
  content-line n words text all content = rw (append_assoc (spaced words) (10 ∷ []) text, one_line words text all, words_back words all, content) refl

  are_words : (place : PlaceEntry) → IsWritable place → All IsWord (place_words place)
  are_words place good = All-from_recursion IsWord (place_words place) (
    good.name.word,
    (
      number_word place.x good.range.x.low good.range.x.high,
      (
        number_word place.y good.range.y.low good.range.y.high,
        (
          colon_is_word,
          (
            orient_is_word place.orient,
            marks_are_words place.fixed place.overlap,
          ),
        ),
      ),
    ),
  )

  abbrev at_line : ℕ → PlaceEntry → PlaceEntry
  at_line n place = record { line = n; name = place.name; x = place.x; y = place.y; orient = place.orient; fixed = place.fixed; overlap = place.overlap }

  line_back : (n : ℕ) (place : PlaceEntry) → IsWritable place → IsPlaceLine (record { number = n; words = place_words place }) (at_line n place)
  line_back n place good = record {
    shape = (omega arith, end_back place.orient place.fixed place.overlap good.range.marks);
    number = refl;
    name = refl;
    x = number_back place.x good.range.x.low good.range.x.high;
    y = number_back place.y good.range.y.low good.range.y.high;
  }

  abbrev lines_text : List PlaceEntry → List ℕ
  lines_text places = flat_map (λ place. line_of (place_words place)) places

  each_back : (before : List PlaceItem) (n : ℕ) (places : List PlaceEntry) → before ≢ [] → AllByRecursion IsWritable places
      → AreItems places_grammar before (content_from n (lines_text places)) (map placed (numbered n places))
  each_back before n [] some all = tt
  each_back before n (place ∷ places) some all =
      rw (content-line n (place_words place) (lines_text places) (are_words place all.0) (rw all.0.name.plain refl))
      ((some, line_back n place all.0), each_back (before ++ placed (at_line n place) ∷ []) (n + 1) places (some_items before (placed (at_line n place))) all.1)

  pub reads_back : (places : List PlaceEntry) → AllByRecursion IsWritable places → IsReading places_grammar (placement_text places) (numbered 2 places)
  reads_back places all = record {
    items = header ∷ map placed (numbered 2 places);
    each = subst (λ lines. AreItems places_grammar [] lines (header ∷ map placed (numbered 2 places)))
        (sym (content-line 1 (codes "UCLA" ∷ codes "pl" ∷ codes "1.0" ∷ []) (lines_text places) header_are_words refl))
        ((refl, refl), each_back (header ∷ []) 2 places (λ e. cc) all);
    file = ((λ e. cc), sym (placed_back (numbered 2 places)));
  }
