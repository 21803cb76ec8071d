-- What the rows reader decides of a line is what the rules say.
use Rattle.std.proofs.Common.{◌≡◌, ◌≢◌, ◌⊎◌, ℕ, Bool, true, false, ◌&&◌, if◌then◌else◌, List, [], ◌∷◌, map, codes, ℤ, pos, int_lt, ◌<ℤ◌, Option, Some, None, is_some, Result, Ok, Err, inl, inr, refl, sym, ap, subst, ◌∙◌, arith}
use Rattle.std.specs.Char.{to_ascii_lowercase}
use Rattle.std.specs.Str.{bytes_eq}
use Rattle.std.proofs.lemmas.Bool.{and_parts, and_from, cond_both, cond-true, cond-false}
use Rattle.std.proofs.lemmas.Int.{ints}
use Rattle.std.proofs.lemmas.List.{length-map}
use Rattle.std.proofs.lemmas.Slice.Eq.{bytes_eq-Decides}
use Rattle.book_text.specs.Lines.{NumberedLine}
use Rattle.book_files.specs.declared.fault.TextKind.{TextKind}
use Rattle.book_files.specs.declared.fault.TextKind.TheVariants.{BadHeader, BadLine, BadNumber, CountMismatch}
use Rattle.book_files.specs.declared.row_lines.PartKey.{PartKey}
use Rattle.book_files.specs.declared.row_lines.PartKey.TheVariants.{Coordinate, Height, SiteWidth, SiteSpacing, SiteOrient, SiteSymmetry, Subrow}
use Rattle.book_files.specs.Words.{latest, is_header, is_keyed, is_keyword, is_colon_word}
use Rattle.book_files.specs.Forms.Words.{◌>>=◌, count_of, number_of, whole_of}
use Rattle.book_files.specs.Shapes.{word_at, IsWhole, IsNumber, IsPositive, HasWhole, HasNumber, HasPositive, IsOnceShape}
use Rattle.book_files.specs.Entries.{SubrowEntry, RowEntry}
use Rattle.book_files.specs.Rows.{RowPart, coordinate, height, site_width, site_spacing, site_orient, site_symmetry, subrow, ended, RowItem, header, total, begun, part, total_in, coordinate_in, height_in, width_in, spacing_in, orient_in, symmetry_in, open_block, blocks_in, is_row_start, is_row_end, entry_of_row}
use Rattle.book_files.specs.Forms.Rows.{key_of, stated_by, above_zero, positive_of, once_by, is_subrow, subrow_at, subrow_of, by_key, inner_of, pitch_in, closed, row_of, part_of, outside_of, within_or_outside, row_meaning, rows_stated, row_ending, row_form}
use Rattle.book_files.specs.RowRules.{IsSubrowShape, IsOnceKeyed, IsWholeBlock, IsPartShape, ArePartNumbers, IsRowsItem, HasRowsShape, HasRowsNumbers, IsRowsFile, IsRowsEndFault, rows_grammar}
use Rattle.book_files.proofs.Bridge.{Decides}
use Rattle.book_files.proofs.ShapeSteps.{Judges, Spells, spells_number, spells_whole, judges_bind, judges_stated, judges_map, count_judged, count_back, shape_item, shape_named, shape_named_back, count_stated, StatedFault, stated_file, stated_file_back, stated_fault, stated_fault_back}
use Rattle.book_files.proofs.RowSteps.{at_end, part_inner}

-- Keywords

abbrev name_of : PartKey → List ℕ
name_of Coordinate = codes "coordinate"
name_of Height = codes "height"
name_of SiteWidth = codes "sitewidth"
name_of SiteSpacing = codes "sitespacing"
name_of SiteOrient = codes "siteorient"
name_of SiteSymmetry = codes "sitesymmetry"
name_of Subrow = codes "subroworigin"

and_true : (b : Bool) → (b && true) ≡ b
and_true true = refl
and_true false = refl

-- of a keyed line, another keyword is decided by the two keywords alone
keyed_by : (key other : List ℕ) (words : List (List ℕ)) → is_keyed key words ≡ true → is_keyed other words ≡ bytes_eq key other
keyed_by key other [] keyed = cc
keyed_by key other (word ∷ []) keyed = cc
keyed_by key other (word ∷ colon ∷ rest) keyed =
    let parts = and_parts (is_keyword key word) (is_colon_word colon) keyed in
    let same : map to_ascii_lowercase word ≡ key = (bytes_eq-Decides (map to_ascii_lowercase word) key).0 parts.0 in
    ap (λ b. is_keyword other word && b) parts.1 ∙ (and_true (is_keyword other word) ∙ ap (λ w. bytes_eq w other) same)

abbrev first_of : Bool → Bool → Bool → Bool → Bool → Bool → Bool → Option PartKey
first_of a b c d e f g = if a then Some Coordinate else if b then Some Height else if c then Some SiteWidth else if d then Some SiteSpacing
    else if e then Some SiteOrient else if f then Some SiteSymmetry else if g then Some Subrow else None

first_same : (a a' b b' c c' d d' e e' f f' g g' : Bool) → a ≡ a' → b ≡ b' → c ≡ c' → d ≡ d' → e ≡ e' → f ≡ f' → g ≡ g' → first_of a b c d e f g ≡ first_of a' b' c' d' e' f' g'
first_same a a' b b' c c' d d' e e' f f' g g' is_a is_b is_c is_d is_e is_f is_g = rw (is_a, is_b, is_c, is_d, is_e, is_f, is_g) refl

abbrev key_named : List ℕ → Option PartKey
key_named key = first_of (bytes_eq key (codes "coordinate")) (bytes_eq key (codes "height")) (bytes_eq key (codes "sitewidth")) (bytes_eq key (codes "sitespacing"))
    (bytes_eq key (codes "siteorient")) (bytes_eq key (codes "sitesymmetry")) (bytes_eq key (codes "subroworigin"))

module _ (words : List (List ℕ)) where
  key_by : (key : List ℕ) → is_keyed key words ≡ true → key_of words ≡ key_named key
  key_by key keyed = first_same _ _ _ _ _ _ _ _ _ _ _ _ _ _ (keyed_by key (codes "coordinate") words keyed) (keyed_by key (codes "height") words keyed) (keyed_by key (codes "sitewidth") words keyed)
      (keyed_by key (codes "sitespacing") words keyed) (keyed_by key (codes "siteorient") words keyed) (keyed_by key (codes "sitesymmetry") words keyed) (keyed_by key (codes "subroworigin") words keyed)

  key_at : (k : PartKey) → is_keyed (name_of k) words ≡ true → key_of words ≡ Some k
  key_at Coordinate keyed = key_by (codes "coordinate") keyed
  key_at Height keyed = key_by (codes "height") keyed
  key_at SiteWidth keyed = key_by (codes "sitewidth") keyed
  key_at SiteSpacing keyed = key_by (codes "sitespacing") keyed
  key_at SiteOrient keyed = key_by (codes "siteorient") keyed
  key_at SiteSymmetry keyed = key_by (codes "sitesymmetry") keyed
  key_at Subrow keyed = key_by (codes "subroworigin") keyed

  same_key : (j k : PartKey) → is_keyed (name_of j) words ≡ true → is_keyed (name_of k) words ≡ true → j ≡ k
  same_key j k is_j is_k = let e = sym (key_at j is_j) ∙ key_at k is_k in cc

  not_counted : (k : PartKey) → is_keyed (name_of k) words ≡ true → is_keyed (codes "numrows") words ≡ true → ⊥
  not_counted k keyed counted = let e = sym (key_by (codes "numrows") counted) ∙ key_at k keyed in cc

  -- the line has the first of the keywords that it has, or none
  key_cases : (P : Option PartKey → Type 0) → ((k : PartKey) → is_keyed (name_of k) words ≡ true → P (Some k)) → (((k : PartKey) → is_keyed (name_of k) words ≡ false) → P None) → P (key_of words)
  key_cases P one other =
      cond_both (is_keyed (codes "coordinate") words) _ _ P (one Coordinate) (λ a. cond_both (is_keyed (codes "height") words) _ _ P (one Height) (λ b.
      cond_both (is_keyed (codes "sitewidth") words) _ _ P (one SiteWidth) (λ c. cond_both (is_keyed (codes "sitespacing") words) _ _ P (one SiteSpacing) (λ d.
      cond_both (is_keyed (codes "siteorient") words) _ _ P (one SiteOrient) (λ e. cond_both (is_keyed (codes "sitesymmetry") words) _ _ P (one SiteSymmetry) (λ f.
      cond_both (is_keyed (codes "subroworigin") words) _ _ P (one Subrow) (λ g. other (none a b c d e f g)))))))) where
        none : is_keyed (codes "coordinate") words ≡ false → is_keyed (codes "height") words ≡ false → is_keyed (codes "sitewidth") words ≡ false → is_keyed (codes "sitespacing") words ≡ false
            → is_keyed (codes "siteorient") words ≡ false → is_keyed (codes "sitesymmetry") words ≡ false → is_keyed (codes "subroworigin") words ≡ false → (k : PartKey) → is_keyed (name_of k) words ≡ false
        none a b c d e f g Coordinate = a
        none a b c d e f g Height = b
        none a b c d e f g SiteWidth = c
        none a b c d e f g SiteSpacing = d
        none a b c d e f g SiteOrient = e
        none a b c d e f g SiteSymmetry = f
        none a b c d e f g Subrow = g

end_keyed : (key : List ℕ) (words : List (List ℕ)) → is_row_end words ≡ true → is_keyed key words ≡ false
end_keyed key [] is = refl
end_keyed key (word ∷ []) is = refl
end_keyed key (word ∷ more ∷ rest) is = cc

keyed_end : (key : List ℕ) (words : List (List ℕ)) → is_keyed key words ≡ true → is_row_end words ≡ false
keyed_end key [] keyed = refl
keyed_end key (word ∷ []) keyed = cc
keyed_end key (word ∷ more ∷ rest) keyed = refl

-- a colon is no keyword
start_keyed : (key : List ℕ) (words : List (List ℕ)) → is_row_start words ≡ true → is_keyed key words ≡ false
start_keyed key [] is = refl
start_keyed key (word ∷ []) is = refl
start_keyed key (word ∷ way ∷ []) is = tested (is_keyed key (word ∷ way ∷ [])) refl where
  tested : (b : Bool) → is_keyed key (word ∷ way ∷ []) ≡ b → b ≡ false
  tested false e = refl
  tested true e =
      let horizontal = (bytes_eq-Decides (map to_ascii_lowercase way) (codes "horizontal")).0 (and_parts (is_keyword (codes "corerow") word) _ is).1 in
      let colon = (bytes_eq-Decides way (codes ":")).0 (and_parts (is_keyword key word) _ e).1 in
      let both : map to_ascii_lowercase (codes ":") ≡ codes "horizontal" = ap (map to_ascii_lowercase) (sym colon) ∙ horizontal in cc
start_keyed key (word ∷ way ∷ more ∷ rest) is = cc

keyed_start : (key : List ℕ) (words : List (List ℕ)) → is_keyed key words ≡ true → is_row_start words ≡ false
keyed_start key words keyed = tested (is_row_start words) refl where
  tested : (b : Bool) → is_row_start words ≡ b → b ≡ false
  tested false e = refl
  tested true e = let other = start_keyed key words e in cc

-- Numbers

spells_positive : (word : List ℕ) → Spells (IsPositive word) (positive_of word)
spells_positive word = spells_above (number_of word) (spells_number word) where
  spells_above : (r : Result ℤ TextKind) → Spells (IsNumber word) r → Spells (IsPositive word) (r >>= above_zero)
  spells_above (Err kind) spells = record { value = λ x e. cc; back = λ x is. let e = spells.back x is.0 in cc; fault = λ other e. let same : kind ≡ other = cc in sym same ∙ spells.fault kind refl }
  spells_above (Ok y) spells = tested (int_lt (pos 0) y) refl where
    tested : (b : Bool) → int_lt (pos 0) y ≡ b → Spells (IsPositive word) (if b then Ok y else Err BadNumber)
    tested true is = record {
      value = λ x e. let same : y ≡ x = cc in subst (IsPositive word) same (spells.value y refl, grind (arith, ints));
      back = λ x both. spells.back x both.0;
      fault = λ kind e. cc;
    }
    tested false is = record {
      value = λ x e. cc;
      back = λ x both. let same : y ≡ x = let e = spells.back x both.0 in cc in let above : pos 0 <ℤ y = subst (λ v. pos 0 <ℤ v) (sym same) both.1 in absurd (grind (arith, ints));
      fault = λ kind e. let same : BadNumber ≡ kind = cc in sym same;
    }

-- A keyed line of three words: its shape, and then its number.
once_judged : {I A V : Type 0} (key : List ℕ) (stated : I → Option A) (before : List I) (value : List ℕ → Result V TextKind) (IsV : List ℕ → V → Type 0) → ((word : List ℕ) → Spells (IsV word) (value word))
    → (words : List (List ℕ)) → is_keyed key words ≡ true
    → Judges (IsOnceShape key stated before words) ((v : V) × IsV (word_at words 2) v) (IsV (word_at words 2)) (once_by value (is_some (latest stated before)) words)
once_judged key stated before value IsV spells [] keyed = λ shape. let e = shape.three in cc
once_judged key stated before value IsV spells (first ∷ []) keyed = λ shape. let e = shape.three in omega arith
once_judged key stated before value IsV spells (first ∷ colon ∷ []) keyed = λ shape. let e = shape.three in omega arith
once_judged {I} {A} {V} key stated before value IsV spells (first ∷ colon ∷ word ∷ []) keyed = once (latest stated before) refl where
  once : (o : Option A) → latest stated before ≡ o
      → Judges (IsOnceShape key stated before (first ∷ colon ∷ word ∷ [])) ((v : V) × IsV word v) (IsV word) (if is_some o then Err BadLine else value word)
  once (Some x) is = λ shape. let e = shape.once in cc
  once None is = judges_stated (IsOnceShape key stated before (first ∷ colon ∷ word ∷ [])) ((v : V) × IsV word v) (IsV word) (value word)
      (record { keyed = keyed; three = refl; once = is }) (spells word) (λ v. v) (λ v is_v. (v, is_v))
once_judged key stated before value IsV spells (first ∷ colon ∷ word ∷ more ∷ rest) keyed = λ shape. let e = shape.three in omega arith

once_back : {I A V : Type 0} (key : List ℕ) (stated : I → Option A) (before : List I) (value : List ℕ → Result V TextKind) (IsV : List ℕ → V → Type 0) → ((word : List ℕ) → Spells (IsV word) (value word))
    → (words : List (List ℕ)) (v : V) → IsOnceShape key stated before words → IsV (word_at words 2) v → once_by value (is_some (latest stated before)) words ≡ Ok v
once_back key stated before value IsV spells [] v shape is = let e = shape.three in cc
once_back key stated before value IsV spells (first ∷ []) v shape is = let e = shape.three in absurd (omega arith)
once_back key stated before value IsV spells (first ∷ colon ∷ []) v shape is = let e = shape.three in absurd (omega arith)
once_back key stated before value IsV spells (first ∷ colon ∷ word ∷ []) v shape is = rw shape.once ((spells word).back v is)
once_back key stated before value IsV spells (first ∷ colon ∷ word ∷ more ∷ rest) v shape is = let e = shape.three in absurd (omega arith)

abbrev IsSubrow : List (List ℕ) → SubrowEntry → Type 0
IsSubrow words entry = IsNumber (word_at words 2) entry.x × IsWhole (word_at words 5) entry.sites

abbrev HasSubrow : List (List ℕ) → Type 0
HasSubrow words = HasNumber (word_at words 2) × HasWhole (word_at words 5)

subrow_judged : (words : List (List ℕ)) → is_keyed (codes "subroworigin") words ≡ true → Judges (IsSubrowShape words) (HasSubrow words) (IsSubrow words) (subrow_of words)
subrow_judged [] keyed = λ shape. let e = shape.six in cc
subrow_judged (a ∷ []) keyed = λ shape. let e = shape.six in omega arith
subrow_judged (a ∷ b ∷ []) keyed = λ shape. let e = shape.six in omega arith
subrow_judged (a ∷ b ∷ x ∷ []) keyed = λ shape. let e = shape.six in omega arith
subrow_judged (a ∷ b ∷ x ∷ c ∷ []) keyed = λ shape. let e = shape.six in omega arith
subrow_judged (a ∷ b ∷ x ∷ c ∷ d ∷ []) keyed = λ shape. let e = shape.six in omega arith
subrow_judged (a ∷ b ∷ x ∷ c ∷ d ∷ n ∷ more ∷ rest) keyed = λ shape. let e = shape.six in omega arith
subrow_judged (a ∷ b ∷ x ∷ c ∷ d ∷ n ∷ []) keyed = tested (is_subrow c d) refl where
  words : List (List ℕ)
  words = a ∷ b ∷ x ∷ c ∷ d ∷ n ∷ []

  at_judged : IsSubrowShape words → Judges (IsSubrowShape words) (HasSubrow words) (IsSubrow words) (subrow_at x n)
  at_judged shape = judges_bind (IsSubrowShape words) (HasSubrow words) (IsSubrow words) (IsNumber x) (number_of x) _ shape (spells_number x) (λ has. has.0) (λ at is_at.
      judges_bind (IsSubrowShape words) (HasSubrow words) (IsSubrow words) (IsWhole n) (whole_of n) (λ sites. Ok (record { x = at; sites = sites })) shape (spells_whole n) (λ has. has.1) (λ sites is_sites.
      (shape, ((at, is_at), (sites, is_sites)), (is_at, is_sites))))

  tested : (is : Bool) → is_subrow c d ≡ is → Judges (IsSubrowShape words) (HasSubrow words) (IsSubrow words) (if is then subrow_at x n else Err BadLine)
  tested true is = let parts = and_parts (is_keyword (codes "numsites") c) (is_colon_word d) is in at_judged (record { keyed = keyed; six = refl; sites = parts.0; colon = parts.1 })
  tested false is = λ shape. let e = and_from (is_keyword (codes "numsites") c) (is_colon_word d) shape.sites shape.colon in cc

subrow_back : (words : List (List ℕ)) (entry : SubrowEntry) → IsSubrowShape words → IsSubrow words entry → subrow_of words ≡ Ok entry
subrow_back [] entry shape is = let e = shape.six in cc
subrow_back (a ∷ []) entry shape is = let e = shape.six in absurd (omega arith)
subrow_back (a ∷ b ∷ []) entry shape is = let e = shape.six in absurd (omega arith)
subrow_back (a ∷ b ∷ x ∷ []) entry shape is = let e = shape.six in absurd (omega arith)
subrow_back (a ∷ b ∷ x ∷ c ∷ []) entry shape is = let e = shape.six in absurd (omega arith)
subrow_back (a ∷ b ∷ x ∷ c ∷ d ∷ []) entry shape is = let e = shape.six in absurd (omega arith)
subrow_back (a ∷ b ∷ x ∷ c ∷ d ∷ n ∷ more ∷ rest) entry shape is = let e = shape.six in absurd (omega arith)
subrow_back (a ∷ b ∷ x ∷ c ∷ d ∷ n ∷ []) entry shape is = cond-true _ _ _ (and_from (is_keyword (codes "numsites") c) (is_colon_word d) shape.sites shape.colon)
    ∙ rw ((spells_number x).back entry.x is.0) (rw ((spells_whole n).back entry.sites is.1) refl)

-- Lines within a block

abbrev PartShape : List RowPart → List (List ℕ) → Type 0
PartShape parts words = (stated : RowPart) × IsPartShape parts words stated

abbrev IsPart : List RowPart → List (List ℕ) → RowPart → Type 0
IsPart parts words stated = IsPartShape parts words stated × ArePartNumbers words stated

abbrev ShapeAt : PartKey → List RowPart → List (List ℕ) → Type 0
ShapeAt Coordinate parts words = IsOnceShape (codes "coordinate") coordinate_in parts words
ShapeAt Height parts words = IsOnceShape (codes "height") height_in parts words
ShapeAt SiteWidth parts words = IsOnceShape (codes "sitewidth") width_in parts words
ShapeAt SiteSpacing parts words = IsOnceShape (codes "sitespacing") spacing_in parts words
ShapeAt SiteOrient parts words = IsOnceKeyed (codes "siteorient") orient_in parts words
ShapeAt SiteSymmetry parts words = IsOnceKeyed (codes "sitesymmetry") symmetry_in parts words
ShapeAt Subrow parts words = IsSubrowShape words

abbrev NumbersAt : PartKey → List (List ℕ) → Type 0
NumbersAt Coordinate words = HasNumber (word_at words 2)
NumbersAt Height words = HasPositive (word_at words 2)
NumbersAt SiteWidth words = HasPositive (word_at words 2)
NumbersAt SiteSpacing words = HasPositive (word_at words 2)
NumbersAt SiteOrient words = Unit {0}
NumbersAt SiteSymmetry words = Unit {0}
NumbersAt Subrow words = HasSubrow words

abbrev key_in : RowPart → Option PartKey
key_in (coordinate y) = Some Coordinate
key_in (height h) = Some Height
key_in (site_width w) = Some SiteWidth
key_in (site_spacing s) = Some SiteSpacing
key_in site_orient = Some SiteOrient
key_in site_symmetry = Some SiteSymmetry
key_in (subrow entry) = Some Subrow
key_in ended = None

-- a line without keywords has no numbers
no_numbers : (words : List (List ℕ)) → ((key : List ℕ) → is_keyed key words ≡ false) → HasRowsNumbers words
no_numbers words none = record {
  count = λ e. let other = none (codes "numrows") in cc;
  coordinate = λ e. let other = none (codes "coordinate") in cc;
  height = λ e. let other = none (codes "height") in cc;
  width = λ e. let other = none (codes "sitewidth") in cc;
  spacing = λ e. let other = none (codes "sitespacing") in cc;
  origin = λ e. let other = none (codes "subroworigin") in cc;
  sites = λ e. let other = none (codes "subroworigin") in cc;
}

counted_numbers : (words : List (List ℕ)) → is_keyed (codes "numrows") words ≡ true → HasWhole (word_at words 2) → HasRowsNumbers words
counted_numbers words counted has = record {
  count = λ e. has;
  coordinate = λ e. absurd (not_counted words Coordinate e counted);
  height = λ e. absurd (not_counted words Height e counted);
  width = λ e. absurd (not_counted words SiteWidth e counted);
  spacing = λ e. absurd (not_counted words SiteSpacing e counted);
  origin = λ e. absurd (not_counted words Subrow e counted);
  sites = λ e. absurd (not_counted words Subrow e counted);
}

module _ (parts : List RowPart) (words : List (List ℕ)) where
  numbers_of : (k : PartKey) → is_keyed (name_of k) words ≡ true → NumbersAt k words → HasRowsNumbers words
  numbers_of k keyed has = record {
    count = λ e. absurd (not_counted words k keyed e);
    coordinate = λ e. subst (λ j. NumbersAt j words) (same_key words k Coordinate keyed e) has;
    height = λ e. subst (λ j. NumbersAt j words) (same_key words k Height keyed e) has;
    width = λ e. subst (λ j. NumbersAt j words) (same_key words k SiteWidth keyed e) has;
    spacing = λ e. subst (λ j. NumbersAt j words) (same_key words k SiteSpacing keyed e) has;
    origin = λ e. (subst (λ j. NumbersAt j words) (same_key words k Subrow keyed e) has).0;
    sites = λ e. (subst (λ j. NumbersAt j words) (same_key words k Subrow keyed e) has).1;
  }

  numbers_at : (k : PartKey) → is_keyed (name_of k) words ≡ true → HasRowsNumbers words → NumbersAt k words
  numbers_at Coordinate keyed has = has.coordinate keyed
  numbers_at Height keyed has = has.height keyed
  numbers_at SiteWidth keyed has = has.width keyed
  numbers_at SiteSpacing keyed has = has.spacing keyed
  numbers_at SiteOrient keyed has = tt
  numbers_at SiteSymmetry keyed has = tt
  numbers_at Subrow keyed has = (has.origin keyed, has.sites keyed)

  shape_key : (stated : RowPart) → is_row_end words ≡ false → IsPartShape parts words stated → key_of words ≡ key_in stated
  shape_key (coordinate y) other shape = key_at words Coordinate shape.keyed
  shape_key (height h) other shape = key_at words Height shape.keyed
  shape_key (site_width w) other shape = key_at words SiteWidth shape.keyed
  shape_key (site_spacing s) other shape = key_at words SiteSpacing shape.keyed
  shape_key site_orient other shape = key_at words SiteOrient shape.keyed
  shape_key site_symmetry other shape = key_at words SiteSymmetry shape.keyed
  shape_key (subrow entry) other shape = key_at words Subrow shape.keyed
  shape_key ended other shape = let is = shape.0 in cc

  shape_by : (k : PartKey) (stated : RowPart) → IsPartShape parts words stated → key_in stated ≡ Some k → ShapeAt k parts words
  shape_by k (coordinate y) shape e = let same : Coordinate ≡ k = cc in subst (λ j. ShapeAt j parts words) same shape
  shape_by k (height h) shape e = let same : Height ≡ k = cc in subst (λ j. ShapeAt j parts words) same shape
  shape_by k (site_width w) shape e = let same : SiteWidth ≡ k = cc in subst (λ j. ShapeAt j parts words) same shape
  shape_by k (site_spacing s) shape e = let same : SiteSpacing ≡ k = cc in subst (λ j. ShapeAt j parts words) same shape
  shape_by k site_orient shape e = let same : SiteOrient ≡ k = cc in subst (λ j. ShapeAt j parts words) same shape
  shape_by k site_symmetry shape e = let same : SiteSymmetry ≡ k = cc in subst (λ j. ShapeAt j parts words) same shape
  shape_by k (subrow entry) shape e = let same : Subrow ≡ k = cc in subst (λ j. ShapeAt j parts words) same shape
  shape_by k ended shape e = cc

  shape_at : (k : PartKey) → is_row_end words ≡ false → is_keyed (name_of k) words ≡ true → PartShape parts words → ShapeAt k parts words
  shape_at k other keyed s = shape_by k s.0 s.1 (sym (shape_key s.0 other s.1) ∙ key_at words k keyed)

  -- a line of which nothing is asked but that it stands once
  once_keyed_judged : {A : Type 0} (key : List ℕ) (stated : RowPart → Option A) (item : RowPart) → is_keyed key words ≡ true → (IsOnceKeyed key stated parts words → IsPart parts words item) → (IsOnceKeyed key stated parts words → HasRowsNumbers words)
      → (PartShape parts words → IsOnceKeyed key stated parts words) → Judges (PartShape parts words) (HasRowsNumbers words) (IsPart parts words) (if is_some (latest stated parts) then Err BadLine else Ok item)
  once_keyed_judged {A} key stated item keyed is numbers back = tested (latest stated parts) refl where
    tested : (o : Option A) → latest stated parts ≡ o → Judges (PartShape parts words) (HasRowsNumbers words) (IsPart parts words) (if is_some o then Err BadLine else Ok item)
    tested (Some x) e = λ shape. let once = (back shape).once in cc
    tested None e = let shape : IsOnceKeyed key stated parts words = record { keyed = keyed; once = e } in ((item, (is shape).0), numbers shape, is shape)

  judged_at : (k : PartKey) → is_row_end words ≡ false → is_keyed (name_of k) words ≡ true → Judges (PartShape parts words) (HasRowsNumbers words) (IsPart parts words) (by_key (stated_by parts) (Some k) words)
  judged_at Coordinate other keyed = judges_map (ShapeAt Coordinate parts words) (HasNumber (word_at words 2)) (IsNumber (word_at words 2)) (PartShape parts words) (HasRowsNumbers words) (IsPart parts words) coordinate
      (once_by number_of (is_some (latest coordinate_in parts)) words) (λ s. (coordinate (pos 0), s)) (shape_at Coordinate other keyed) (λ s n. numbers_of Coordinate keyed n) (λ s n. numbers_at Coordinate keyed n) (λ v s is. (s, is))
      (once_judged (codes "coordinate") coordinate_in parts number_of IsNumber spells_number words keyed)
  judged_at Height other keyed = judges_map (ShapeAt Height parts words) (HasPositive (word_at words 2)) (IsPositive (word_at words 2)) (PartShape parts words) (HasRowsNumbers words) (IsPart parts words) height
      (once_by positive_of (is_some (latest height_in parts)) words) (λ s. (height (pos 0), s)) (shape_at Height other keyed) (λ s n. numbers_of Height keyed n) (λ s n. numbers_at Height keyed n) (λ v s is. (s, is))
      (once_judged (codes "height") height_in parts positive_of IsPositive spells_positive words keyed)
  judged_at SiteWidth other keyed = judges_map (ShapeAt SiteWidth parts words) (HasPositive (word_at words 2)) (IsPositive (word_at words 2)) (PartShape parts words) (HasRowsNumbers words) (IsPart parts words) site_width
      (once_by positive_of (is_some (latest width_in parts)) words) (λ s. (site_width (pos 0), s)) (shape_at SiteWidth other keyed) (λ s n. numbers_of SiteWidth keyed n) (λ s n. numbers_at SiteWidth keyed n) (λ v s is. (s, is))
      (once_judged (codes "sitewidth") width_in parts positive_of IsPositive spells_positive words keyed)
  judged_at SiteSpacing other keyed = judges_map (ShapeAt SiteSpacing parts words) (HasPositive (word_at words 2)) (IsPositive (word_at words 2)) (PartShape parts words) (HasRowsNumbers words) (IsPart parts words) site_spacing
      (once_by positive_of (is_some (latest spacing_in parts)) words) (λ s. (site_spacing (pos 0), s)) (shape_at SiteSpacing other keyed) (λ s n. numbers_of SiteSpacing keyed n) (λ s n. numbers_at SiteSpacing keyed n) (λ v s is. (s, is))
      (once_judged (codes "sitespacing") spacing_in parts positive_of IsPositive spells_positive words keyed)
  judged_at SiteOrient other keyed = once_keyed_judged (codes "siteorient") orient_in site_orient keyed (λ s. (s, tt)) (λ s. numbers_of SiteOrient keyed tt) (shape_at SiteOrient other keyed)
  judged_at SiteSymmetry other keyed = once_keyed_judged (codes "sitesymmetry") symmetry_in site_symmetry keyed (λ s. (s, tt)) (λ s. numbers_of SiteSymmetry keyed tt) (shape_at SiteSymmetry other keyed)
  judged_at Subrow other keyed = judges_map (IsSubrowShape words) (HasSubrow words) (IsSubrow words) (PartShape parts words) (HasRowsNumbers words) (IsPart parts words) subrow
      (subrow_of words) (λ s. (subrow (record { x = pos 0; sites = 0 }), s)) (shape_at Subrow other keyed) (λ s n. numbers_of Subrow keyed n) (λ s n. numbers_at Subrow keyed n) (λ entry s is. (s, is))
      (subrow_judged words keyed)

  no_shape : is_row_end words ≡ false → ((k : PartKey) → is_keyed (name_of k) words ≡ false) → (stated : RowPart) → IsPartShape parts words stated → ⊥
  no_shape other none (coordinate y) shape = let e = shape.keyed in let f = none Coordinate in cc
  no_shape other none (height h) shape = let e = shape.keyed in let f = none Height in cc
  no_shape other none (site_width w) shape = let e = shape.keyed in let f = none SiteWidth in cc
  no_shape other none (site_spacing s) shape = let e = shape.keyed in let f = none SiteSpacing in cc
  no_shape other none site_orient shape = let e = shape.keyed in let f = none SiteOrient in cc
  no_shape other none site_symmetry shape = let e = shape.keyed in let f = none SiteSymmetry in cc
  no_shape other none (subrow entry) shape = let e = shape.keyed in let f = none Subrow in cc
  no_shape other none ended shape = let e = shape.0 in cc

  judged_inner : is_row_end words ≡ false → Judges (PartShape parts words) (HasRowsNumbers words) (IsPart parts words) (inner_of (stated_by parts) words)
  judged_inner other = key_cases words (λ k. Judges (PartShape parts words) (HasRowsNumbers words) (IsPart parts words) (by_key (stated_by parts) k words))
      (λ k keyed. judged_at k other keyed) (λ none s. no_shape other none s.0 s.1)

-- a block at its end

whole_parts : (y h s w : Option ℤ) (subrows : List SubrowEntry) (row : RowEntry) → closed y h (pitch_in s w) subrows ≡ Ok row → (y ≢ None) × (h ≢ None) × ((w ≢ None) ⊎ (s ≢ None))
whole_parts None h s w subrows row is = cc
whole_parts (Some y) None s w subrows row is = cc
whole_parts (Some y) (Some h) None None subrows row is = cc
whole_parts (Some y) (Some h) (Some s) w subrows row is = (λ e. cc, λ e. cc, inr (λ e. cc))
whole_parts (Some y) (Some h) None (Some w) subrows row is = (λ e. cc, λ e. cc, inl (λ e. cc))

whole_row : (y h s w : Option ℤ) (subrows : List SubrowEntry) (kind : TextKind) → y ≢ None → h ≢ None → ((w ≢ None) ⊎ (s ≢ None)) → closed y h (pitch_in s w) subrows ≡ Err kind → ⊥
whole_row None h s w subrows kind has_y has_h has_pitch is = has_y refl
whole_row (Some y) None s w subrows kind has_y has_h has_pitch is = has_h refl
whole_row (Some y) (Some h) None None subrows kind has_y has_h (inl has_w) is = has_w refl
whole_row (Some y) (Some h) None None subrows kind has_y has_h (inr has_s) is = has_s refl
whole_row (Some y) (Some h) (Some s) w subrows kind has_y has_h has_pitch is = cc
whole_row (Some y) (Some h) None (Some w) subrows kind has_y has_h has_pitch is = cc

closed_fault : (y h p : Option ℤ) (subrows : List SubrowEntry) (kind : TextKind) → closed y h p subrows ≡ Err kind → BadLine ≡ kind
closed_fault None h p subrows kind is = cc
closed_fault (Some y) None p subrows kind is = cc
closed_fault (Some y) (Some h) None subrows kind is = cc
closed_fault (Some y) (Some h) (Some p) subrows kind is = cc

module _ (parts : List RowPart) (words : List (List ℕ)) where
  whole_block : (row : RowEntry) → row_of (stated_by parts) ≡ Ok row → IsWholeBlock parts
  whole_block row is = let has = whole_parts (latest coordinate_in parts) (latest height_in parts) (latest spacing_in parts) (latest width_in parts) _ row is in
      record { coordinate = has.0; height = has.1; pitch = has.2 }

  shape_ended : is_row_end words ≡ true → (stated : RowPart) → IsPartShape parts words stated → IsWholeBlock parts
  shape_ended is (coordinate y) shape = let e = shape.keyed in let f = end_keyed (codes "coordinate") words is in cc
  shape_ended is (height h) shape = let e = shape.keyed in let f = end_keyed (codes "height") words is in cc
  shape_ended is (site_width w) shape = let e = shape.keyed in let f = end_keyed (codes "sitewidth") words is in cc
  shape_ended is (site_spacing s) shape = let e = shape.keyed in let f = end_keyed (codes "sitespacing") words is in cc
  shape_ended is site_orient shape = let e = shape.keyed in let f = end_keyed (codes "siteorient") words is in cc
  shape_ended is site_symmetry shape = let e = shape.keyed in let f = end_keyed (codes "sitesymmetry") words is in cc
  shape_ended is (subrow entry) shape = let e = shape.keyed in let f = end_keyed (codes "subroworigin") words is in cc
  shape_ended is ended shape = shape.1

  judged_end : is_row_end words ≡ true → (r : Result RowEntry TextKind) → row_of (stated_by parts) ≡ r → Judges (PartShape parts words) (HasRowsNumbers words) (IsPart parts words) (r >>= λ row. Ok ended)
  judged_end is (Ok row) makes = let whole = whole_block row makes in ((ended, (is, whole)), no_numbers words (λ key. end_keyed key words is), ((is, whole), tt))
  judged_end is (Err BadLine) makes = λ s. let whole = shape_ended is s.0 s.1 in
      whole_row (latest coordinate_in parts) (latest height_in parts) (latest spacing_in parts) (latest width_in parts) _ BadLine whole.coordinate whole.height whole.pitch makes
  judged_end is (Err BadHeader) makes = let e = closed_fault _ _ _ _ BadHeader makes in cc
  judged_end is (Err BadNumber) makes = let e = closed_fault _ _ _ _ BadNumber makes in cc
  judged_end is (Err (CountMismatch stated found)) makes = let e = closed_fault _ _ _ _ (CountMismatch stated found) makes in cc

  judged_part : Judges (PartShape parts words) (HasRowsNumbers words) (IsPart parts words) (part_of (stated_by parts) words)
  judged_part = cond_both (is_row_end words) (row_of (stated_by parts) >>= λ row. Ok ended) (inner_of (stated_by parts) words) (Judges (PartShape parts words) (HasRowsNumbers words) (IsPart parts words))
      (λ is. judged_end is (row_of (stated_by parts)) refl) (λ other. judged_inner parts words other)

  part_back : (stated : RowPart) → IsPartShape parts words stated → ArePartNumbers words stated → part_of (stated_by parts) words ≡ Ok stated
  part_back (coordinate y) shape is = part_inner (stated_by parts) words (keyed_end (codes "coordinate") words shape.keyed) ∙ (ap (λ k. by_key (stated_by parts) k words) (key_at words Coordinate shape.keyed)
      ∙ ap (λ r. r >>= λ v. Ok (coordinate v)) (once_back (codes "coordinate") coordinate_in parts number_of IsNumber spells_number words y shape is))
  part_back (height h) shape is = part_inner (stated_by parts) words (keyed_end (codes "height") words shape.keyed) ∙ (ap (λ k. by_key (stated_by parts) k words) (key_at words Height shape.keyed)
      ∙ ap (λ r. r >>= λ v. Ok (height v)) (once_back (codes "height") height_in parts positive_of IsPositive spells_positive words h shape is))
  part_back (site_width w) shape is = part_inner (stated_by parts) words (keyed_end (codes "sitewidth") words shape.keyed) ∙ (ap (λ k. by_key (stated_by parts) k words) (key_at words SiteWidth shape.keyed)
      ∙ ap (λ r. r >>= λ v. Ok (site_width v)) (once_back (codes "sitewidth") width_in parts positive_of IsPositive spells_positive words w shape is))
  part_back (site_spacing s) shape is = part_inner (stated_by parts) words (keyed_end (codes "sitespacing") words shape.keyed) ∙ (ap (λ k. by_key (stated_by parts) k words) (key_at words SiteSpacing shape.keyed)
      ∙ ap (λ r. r >>= λ v. Ok (site_spacing v)) (once_back (codes "sitespacing") spacing_in parts positive_of IsPositive spells_positive words s shape is))
  part_back site_orient shape is = part_inner (stated_by parts) words (keyed_end (codes "siteorient") words shape.keyed) ∙ (ap (λ k. by_key (stated_by parts) k words) (key_at words SiteOrient shape.keyed)
      ∙ cond-false _ _ _ (ap is_some shape.once))
  part_back site_symmetry shape is = part_inner (stated_by parts) words (keyed_end (codes "sitesymmetry") words shape.keyed) ∙ (ap (λ k. by_key (stated_by parts) k words) (key_at words SiteSymmetry shape.keyed)
      ∙ cond-false _ _ _ (ap is_some shape.once))
  part_back (subrow entry) shape is = part_inner (stated_by parts) words (keyed_end (codes "subroworigin") words shape.keyed) ∙ (ap (λ k. by_key (stated_by parts) k words) (key_at words Subrow shape.keyed)
      ∙ ap (λ r. r >>= λ v. Ok (subrow v)) (subrow_back words entry shape is))
  part_back ended shape is = at_end (stated_by parts) words shape.0 ∙ ends (row_of (stated_by parts)) refl where
    ends : (r : Result RowEntry TextKind) → row_of (stated_by parts) ≡ r → (r >>= λ row. Ok ended) ≡ Ok ended
    ends (Ok row) makes = refl
    ends (Err kind) makes = absurd (whole_row (latest coordinate_in parts) (latest height_in parts) (latest spacing_in parts) (latest width_in parts) _ kind shape.1.coordinate shape.1.height shape.1.pitch makes)

-- Lines behind the header

module _ (item : RowItem) (before : List RowItem) (line : NumberedLine) where
  abbrev Judged : Result RowItem TextKind → Type 0
  Judged r = Judges (HasRowsShape (item ∷ before) line.words) (HasRowsNumbers line.words) (IsRowsItem (item ∷ before) line) r

  judged_within : (parts : List RowPart) → open_block (item ∷ before) ≡ Some parts → Judged (part_of (stated_by parts) line.words >>= λ p. Ok (part p))
  judged_within parts is = judges_map (PartShape parts line.words) (HasRowsNumbers line.words) (IsPart parts line.words) (HasRowsShape (item ∷ before) line.words) (HasRowsNumbers line.words) (IsRowsItem (item ∷ before) line) part
      (part_of (stated_by parts) line.words) (λ s. inr (parts, s.0, is, s.1)) back (λ s n. n) (λ s n. n)
      (λ p s is_part. (λ e. cc, record { parts = parts; within = is; shape = is_part.0; numbers = is_part.1 })) (judged_part parts line.words) where
        back : HasRowsShape (item ∷ before) line.words → PartShape parts line.words
        back (inl outside) = let e = sym is ∙ outside.0 in cc
        back (inr s) = let same : s.0 ≡ parts = let e = sym s.2 ∙ is in cc in (s.1, subst (λ ps. IsPartShape ps line.words s.1) same s.3)

  judged_outside : open_block (item ∷ before) ≡ None → Judged (outside_of (is_some (latest total_in (item ∷ before))) line.words)
  judged_outside none = cond_both (is_keyed (codes "numrows") line.words) (count_of (is_some (latest total_in (item ∷ before))) line.words >>= λ n. Ok (total n)) (if is_row_start line.words then Ok begun else Err BadLine) Judged
      (λ counted. judges_map (IsOnceShape (codes "numrows") total_in (item ∷ before) line.words) (HasWhole (word_at line.words 2)) (IsWhole (word_at line.words 2)) (HasRowsShape (item ∷ before) line.words) (HasRowsNumbers line.words)
      (IsRowsItem (item ∷ before) line) total (count_of (is_some (latest total_in (item ∷ before))) line.words) (λ s. inl (none, inl s)) (back counted) (λ s n. counted_numbers line.words counted n) (λ s n. n.count counted)
      (λ n s is. (λ e. cc, none, s, is)) (count_judged (codes "numrows") total_in (item ∷ before) line.words counted))
      (λ other. cond_both (is_row_start line.words) (Ok begun) (Err BadLine) Judged
      (λ starts. (inl (none, inr starts), no_numbers line.words (λ key. start_keyed key line.words starts), (λ e. cc, none, starts))) (no_line other)) where
        back : is_keyed (codes "numrows") line.words ≡ true → HasRowsShape (item ∷ before) line.words → IsOnceShape (codes "numrows") total_in (item ∷ before) line.words
        back counted (inl (outside, inl shape)) = shape
        back counted (inl (outside, inr starts)) = let e = sym (keyed_start (codes "numrows") line.words counted) ∙ starts in cc
        back counted (inr s) = let e = sym none ∙ s.2 in cc

        no_line : is_keyed (codes "numrows") line.words ≡ false → is_row_start line.words ≡ false → HasRowsShape (item ∷ before) line.words → ⊥
        no_line other begins (inl (outside, inl shape)) = let e = sym other ∙ shape.keyed in cc
        no_line other begins (inl (outside, inr starts)) = let e = sym begins ∙ starts in cc
        no_line other begins (inr s) = let e = sym none ∙ s.2 in cc

  judged : Judged (row_meaning (item ∷ before) line)
  judged = at (open_block (item ∷ before)) refl where
    at : (o : Option (List RowPart)) → open_block (item ∷ before) ≡ o → Judged (within_or_outside o (is_some (latest total_in (item ∷ before))) line.words)
    at None is = judged_outside is
    at (Some parts) is = judged_within parts is

item_back : (before : List RowItem) (line : NumberedLine) (stated : RowItem) → IsRowsItem before line stated → row_meaning before line ≡ Ok stated
item_back [] line header is = cond-true (is_header (codes "scl") line.words) (Ok header) (Err BadHeader) is.1
item_back [] line (total n) is = absurd (is.0 refl)
item_back [] line begun is = absurd (is.0 refl)
item_back [] line (part stated) is = absurd (is.0 refl)
item_back (item ∷ before) line header is = let e = is.0 in cc
item_back (item ∷ before) line (total n) is = ap (λ o. within_or_outside o (is_some (latest total_in (item ∷ before))) line.words) is.1 ∙ (cond-true _ _ _ is.2.keyed
    ∙ ap (λ r. r >>= λ m. Ok (total m)) (count_back (codes "numrows") total_in (item ∷ before) line.words n is.2 is.3))
item_back (item ∷ before) line begun is = ap (λ o. within_or_outside o (is_some (latest total_in (item ∷ before))) line.words) is.1 ∙ (cond-false _ _ _ (start_keyed (codes "numrows") line.words is.2) ∙ cond-true _ _ _ is.2)
item_back (item ∷ before) line (part stated) is = ap (λ o. within_or_outside o (is_some (latest total_in (item ∷ before))) line.words) is.1.within
    ∙ ap (λ r. r >>= λ p. Ok (part p)) (part_back is.1.parts line.words stated is.1.shape is.1.numbers)

-- The whole file

rows_stated_is : (stated : Option ℕ) (rows : List RowEntry) → rows_stated stated rows ≡ count_stated stated rows
rows_stated_is None rows = refl
rows_stated_is (Some n) rows = refl

abbrev rows_in : List RowItem → List RowEntry
rows_in items = map entry_of_row (blocks_in items)

abbrev ending_if : Bool → List RowItem → Result (List RowEntry) TextKind
ending_if goes_on items = if goes_on then Err BadLine else rows_stated (latest total_in items) (rows_in items)

file : (items : List RowItem) (rows : List RowEntry) → row_ending items ≡ Ok rows → IsRowsFile items rows
file [] rows ends = cc
file (item ∷ items) rows ends = at (open_block (item ∷ items)) refl ends where
  at : (o : Option (List RowPart)) → open_block (item ∷ items) ≡ o → ending_if (is_some o) (item ∷ items) ≡ Ok rows → IsRowsFile (item ∷ items) rows
  at (Some parts) is ends = cc
  at None is ends = let stated = stated_file (latest total_in (item ∷ items)) (rows_in (item ∷ items)) rows (sym (rows_stated_is (latest total_in (item ∷ items)) (rows_in (item ∷ items))) ∙ ends) in
      record { blocks = stated.0; ended = is; count = stated.1 }

file_back : (items : List RowItem) (rows : List RowEntry) → IsRowsFile items rows → row_ending items ≡ Ok rows
file_back [] rows is = let e = is.count in cc
file_back (item ∷ items) rows is = ap (λ o. ending_if (is_some o) (item ∷ items)) is.ended ∙ (rows_stated_is (latest total_in (item ∷ items)) (rows_in (item ∷ items))
    ∙ stated_file_back (latest total_in (item ∷ items)) (rows_in (item ∷ items)) rows is.blocks is.count)

end : (items : List RowItem) (kind : TextKind) → row_ending items ≡ Err kind → IsRowsEndFault items kind
end [] BadHeader ends = refl
end [] BadLine ends = cc
end [] BadNumber ends = cc
end [] (CountMismatch stated found) ends = cc
end (item ∷ items) kind ends = at (open_block (item ∷ items)) refl ends where
  opened : (kind : TextKind) → (open_block (item ∷ items) ≢ None) → ◌≡◌ {A = Result (List RowEntry) TextKind} (Err BadLine) (Err kind) → IsRowsEndFault (item ∷ items) kind
  opened BadHeader goes_on e = cc
  opened BadLine goes_on e = (λ e. cc, inl goes_on)
  opened BadNumber goes_on e = cc
  opened (CountMismatch stated found) goes_on e = cc

  counted : (kind : TextKind) → open_block (item ∷ items) ≡ None → StatedFault (latest total_in (item ∷ items)) (rows_in (item ∷ items)) kind → IsRowsEndFault (item ∷ items) kind
  counted BadHeader is named = absurd named
  counted BadLine is named = (λ e. cc, inr named)
  counted BadNumber is named = absurd named
  counted (CountMismatch stated found) is named = record { ended = is; count = named.0; rows = named.1 ∙ length-map (blocks_in (item ∷ items)) entry_of_row; differ = named.2 }

  at : (o : Option (List RowPart)) → open_block (item ∷ items) ≡ o → ending_if (is_some o) (item ∷ items) ≡ Err kind → IsRowsEndFault (item ∷ items) kind
  at (Some parts) is ends = opened kind (λ e. let both = sym is ∙ e in cc) ends
  at None is ends = counted kind is (stated_fault (latest total_in (item ∷ items)) (rows_in (item ∷ items)) kind (sym (rows_stated_is (latest total_in (item ∷ items)) (rows_in (item ∷ items))) ∙ ends))

end_back : (items : List RowItem) (kind : TextKind) → IsRowsEndFault items kind → row_ending items ≡ Err kind
end_back [] BadHeader named = refl
end_back [] BadLine named = absurd (named.0 refl)
end_back [] BadNumber named = absurd named
end_back [] (CountMismatch stated found) named = let e = named.count in cc
end_back (item ∷ items) BadHeader named = cc
end_back (item ∷ items) BadNumber named = absurd named
end_back (item ∷ items) (CountMismatch stated found) named = ap (λ o. ending_if (is_some o) (item ∷ items)) named.ended ∙ (rows_stated_is (latest total_in (item ∷ items)) (rows_in (item ∷ items))
    ∙ stated_fault_back (latest total_in (item ∷ items)) (rows_in (item ∷ items)) (CountMismatch stated found) (named.count, named.rows ∙ sym (length-map (blocks_in (item ∷ items)) entry_of_row), named.differ))
end_back (item ∷ items) BadLine named = at (open_block (item ∷ items)) refl named.1 where
  at : (o : Option (List RowPart)) → open_block (item ∷ items) ≡ o → (open_block (item ∷ items) ≢ None) ⊎ (latest total_in (item ∷ items) ≡ None) → ending_if (is_some o) (item ∷ items) ≡ Err BadLine
  at (Some parts) is which = refl
  at None is (inl goes_on) = absurd (goes_on is)
  at None is (inr none) = rows_stated_is (latest total_in (item ∷ items)) (rows_in (item ∷ items)) ∙ stated_fault_back (latest total_in (item ∷ items)) (rows_in (item ∷ items)) BadLine none

pub rows_decided : Decides row_form rows_grammar
rows_decided = record {
  item = shape_item row_form (codes "scl") HasRowsShape HasRowsNumbers IsRowsItem header (λ line. refl) judged (λ line is. (refl, is));
  item_back = item_back;
  named = shape_named row_form (codes "scl") HasRowsShape HasRowsNumbers IsRowsItem header (λ line. refl) judged;
  named_back = shape_named_back row_form (codes "scl") HasRowsShape HasRowsNumbers IsRowsItem header (λ line. refl) judged;
  file = file;
  file_back = file_back;
  end = end;
  end_back = end_back;
}
