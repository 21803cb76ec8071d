-- From what the code decides of a line to what the rules name: numbers, count lines, the header, and lines of a shape.
use Rattle.std.proofs.Common.{◌≡◌, ℕ, Bool, true, false, if◌then◌else◌, ◌≢◌, ◌==◌, List, [], ◌∷◌, length, map, filter_map, IsTrue, IsFalse, pos, int_lt, ◌≤ℤ◌, Option, Some, None, is_some, Result, Ok, Err, refl, sym, ap, subst, ◌∙◌, arith}
use Rattle.std.specs.Char.{to_ascii_lowercase}
use Rattle.std.proofs.lemmas.Bool.{and_parts, cond-true, cond-false, eqb-true, eqb-false, eq-eqb, ne_eqb}
use Rattle.std.proofs.lemmas.Int.{ints}
use Rattle.std.proofs.lemmas.Slice.Eq.{bytes_eq-Decides}
use Rattle.book_text.specs.declared.number.NumberFault.{NumberFault}
use Rattle.book_text.specs.Lines.{NumberedLine}
use Rattle.book_text.specs.Whole.{whole_value}
use Rattle.book_text.specs.Decimal.{micro_value}
use Rattle.book_files.specs.declared.fault.TextKind.{TextKind}
use Rattle.book_files.specs.declared.fault.TextKind.TheVariants.{BadHeader, BadLine, BadNumber, CountMismatch}
use Rattle.book_files.specs.Forms.Form.{Form}
use Rattle.book_files.specs.Words.{latest, is_header, is_keyed, is_keyword}
use Rattle.book_files.specs.Forms.Words.{◌>>=◌, number_of_result, number_of, whole_of, size_of, marked, count_of}
use Rattle.book_files.specs.Shapes.{word_at, IsWhole, IsNumber, IsSize, HasWhole, IsOnceShape, IsShapeFault, IsEmptyFault}

-- What is said of a line of shape S and of numbers N: another shape, then bad numbers, then a value as the rules want it.
abbrev pub Judges : {A : Type 0} → Type 0 → Type 0 → (A → Type 0) → Result A TextKind → Type 0
Judges S N Is (Ok x) = S × N × Is x
Judges S N Is (Err BadHeader) = ⊥
Judges S N Is (Err BadLine) = S → ⊥
Judges S N Is (Err BadNumber) = S × (N → ⊥)
Judges S N Is (Err (CountMismatch stated found)) = ⊥

-- The result is exactly the value that the rules want, and BadNumber where there is none.
pub record Spells {A : Type 0} (Is : A → Type 0) (stated : Result A TextKind) : Type 0 where
  pub value : (x : A) → stated ≡ Ok x → Is x
  pub back : (x : A) → Is x → stated ≡ Ok x
  pub fault : (kind : TextKind) → stated ≡ Err kind → kind ≡ BadNumber

spells_result : {A : Type 0} (r : Result A NumberFault) → Spells (λ x. r ≡ Ok x) (number_of_result r)
spells_result (Ok y) = record { value = λ x e. cc; back = λ x e. cc; fault = λ kind e. cc }
spells_result (Err fault) = record { value = λ x e. cc; back = λ x e. cc; fault = λ kind e. cc }

pub spells_whole : (word : List ℕ) → Spells (IsWhole word) (whole_of word)
spells_whole word = spells_result (whole_value word)

pub spells_number : (word : List ℕ) → Spells (IsNumber word) (number_of word)
spells_number word = spells_result (micro_value word)

-- a number under a test
pub spells_if : {A : Type 0} (Is P : A → Type 0) (stated : Result A TextKind) (test : A → Bool) → Spells Is stated
    → ((x : A) → test x ≡ true → P x → ⊥) → ((x : A) → test x ≡ false → P x)
    → Spells (λ x. Is x × P x) (stated >>= λ x. if test x then Err BadNumber else Ok x)
spells_if Is P (Err kind) test spells refutes shows = record { value = λ x e. cc; back = λ x is. let e = spells.back x is.0 in cc; fault = λ other e. let same : kind ≡ other = cc in sym same ∙ spells.fault kind refl }
spells_if {A} Is P (Ok y) test spells refutes shows = tested (test y) refl where
  tested : (b : Bool) → test y ≡ b → Spells (λ x. Is x × P x) (if b then Err BadNumber else Ok y)
  tested true is = record {
    value = λ x e. cc;
    back = λ x both. let same : y ≡ x = let e = spells.back x both.0 in cc in absurd (refutes x (ap test (sym same) ∙ is) both.1);
    fault = λ kind e. cc;
  }
  tested false is = record {
    value = λ x e. let same : y ≡ x = cc in subst (λ z. Is z × P z) same (spells.value y refl, shows y is);
    back = λ x both. spells.back x both.0;
    fault = λ kind e. cc;
  }

pub spells_size : (word : List ℕ) → Spells (IsSize word) (size_of word)
spells_size word = spells_if (IsNumber word) (λ value. pos 0 ≤ℤ value) (number_of word) (λ value. int_lt value (pos 0)) (spells_number word)
    (λ value less at_least. grind (arith, ints)) (λ value not_less. grind (arith, ints))

module _ {A : Type 0} (S N : Type 0) (Is : A → Type 0) where
  -- a number that the line wants, and then the rest of the line
  pub judges_bind : {B : Type 0} (P : B → Type 0) (r : Result B TextKind) (f : B → Result A TextKind) → S → Spells P r → (N → (x : B) × P x)
      → ((x : B) → P x → Judges S N Is (f x)) → Judges S N Is (r >>= f)
  judges_bind P (Ok x) f shape spells has go_on = go_on x (spells.value x refl)
  judges_bind P (Err BadHeader) f shape spells has go_on = let e = spells.fault BadHeader refl in cc
  judges_bind P (Err BadLine) f shape spells has go_on = let e = spells.fault BadLine refl in cc
  judges_bind P (Err BadNumber) f shape spells has go_on = (shape, λ numbers. let x = has numbers in let e = spells.back x.0 x.1 in cc)
  judges_bind P (Err (CountMismatch stated found)) f shape spells has go_on = let e = spells.fault (CountMismatch stated found) refl in cc

  -- a mark that the line wants, and then the rest of the line
  pub judges_marked : (mark : Option Bool) (make : Bool → Result A TextKind) → (S → (overlap : Bool) × (mark ≡ Some overlap))
      → ((overlap : Bool) → mark ≡ Some overlap → Judges S N Is (make overlap)) → Judges S N Is (marked mark make)
  judges_marked (Some overlap) make has go_on = go_on overlap refl
  judges_marked None make has go_on = λ shape. let is = has shape in cc

  -- a value that the line wants, of which its shape is known
  pub judges_stated : (r : Result A TextKind) → S → Spells Is r → (N → (x : A) × Is x) → ((x : A) → Is x → N) → Judges S N Is r
  judges_stated (Ok x) shape spells has numbers = let is = spells.value x refl in (shape, numbers x is, is)
  judges_stated (Err BadHeader) shape spells has numbers = let e = spells.fault BadHeader refl in cc
  judges_stated (Err BadLine) shape spells has numbers = let e = spells.fault BadLine refl in cc
  judges_stated (Err BadNumber) shape spells has numbers = (shape, λ n. let x = has n in let e = spells.back x.0 x.1 in cc)
  judges_stated (Err (CountMismatch stated found)) shape spells has numbers = let e = spells.fault (CountMismatch stated found) refl in cc

  -- another item has the same shape and the same numbers
  pub judges_map : {B : Type 0} (S' N' : Type 0) (Is' : B → Type 0) (f : A → B) (r : Result A TextKind) → (S → S') → (S' → S) → (S → N → N') → (S → N' → N)
      → ((x : A) → S → Is x → Is' (f x)) → Judges S N Is r → Judges S' N' Is' (r >>= λ x. Ok (f x))
  judges_map S' N' Is' f (Ok x) to back numbers numbers_back item j = (to j.0, numbers j.0 j.1, item x j.0 j.2)
  judges_map S' N' Is' f (Err BadHeader) to back numbers numbers_back item j = j
  judges_map S' N' Is' f (Err BadLine) to back numbers numbers_back item j = λ shape. j (back shape)
  judges_map S' N' Is' f (Err BadNumber) to back numbers numbers_back item j = (to j.0, λ n. j.1 (numbers_back j.0 n))
  judges_map S' N' Is' f (Err (CountMismatch stated found)) to back numbers numbers_back item j = j

-- a keyed line has one keyword
pub keyed_apart : (key other : List ℕ) (words : List (List ℕ)) → (key ≡ other → ⊥) → IsTrue (is_keyed key words) → IsFalse (is_keyed other words)
keyed_apart key other [] differ keyed = refl
keyed_apart key other (word ∷ []) differ keyed = refl
keyed_apart key other (word ∷ colon ∷ rest) differ keyed = tested (is_keyed other (word ∷ colon ∷ rest)) refl where
  same : (k : List ℕ) → is_keyed k (word ∷ colon ∷ rest) ≡ true → map to_ascii_lowercase word ≡ k
  same k is = (bytes_eq-Decides (map to_ascii_lowercase word) k).0 (and_parts (is_keyword k word) _ is).0

  tested : (b : Bool) → is_keyed other (word ∷ colon ∷ rest) ≡ b → b ≡ false
  tested true is = absurd (differ (sym (same key keyed) ∙ same other is))
  tested false is = refl

-- A count line: its shape, and then its number.
pub count_judged : {I A : Type 0} (key : List ℕ) (stated : I → Option A) (before : List I) (words : List (List ℕ)) → IsTrue (is_keyed key words)
    → Judges (IsOnceShape key stated before words) (HasWhole (word_at words 2)) (IsWhole (word_at words 2)) (count_of (is_some (latest stated before)) words)
count_judged key stated before [] keyed = λ shape. let e = shape.three in cc
count_judged key stated before (first ∷ []) keyed = λ shape. let e = shape.three in omega arith
count_judged key stated before (first ∷ colon ∷ []) keyed = λ shape. let e = shape.three in omega arith
count_judged {I} {A} key stated before (first ∷ colon ∷ word ∷ []) keyed = once (latest stated before) refl where
  once : (o : Option A) → latest stated before ≡ o
      → Judges (IsOnceShape key stated before (first ∷ colon ∷ word ∷ [])) (HasWhole word) (IsWhole word) (if is_some o then Err BadLine else whole_of word)
  once (Some x) is = λ shape. let e = shape.once in cc
  once None is = judges_stated (IsOnceShape key stated before (first ∷ colon ∷ word ∷ [])) (HasWhole word) (IsWhole word) (whole_of word)
      (record { keyed = keyed; three = refl; once = is }) (spells_whole word) (λ n. n) (λ n is_whole. (n, is_whole))
count_judged key stated before (first ∷ colon ∷ word ∷ more ∷ rest) keyed = λ shape. let e = shape.three in omega arith

-- and the other way round
pub count_back : {I A : Type 0} (key : List ℕ) (stated : I → Option A) (before : List I) (words : List (List ℕ)) (n : ℕ)
    → IsOnceShape key stated before words → IsWhole (word_at words 2) n → count_of (is_some (latest stated before)) words ≡ Ok n
count_back key stated before [] n shape whole = let e = shape.three in cc
count_back key stated before (first ∷ []) n shape whole = let e = shape.three in absurd (omega arith)
count_back key stated before (first ∷ colon ∷ []) n shape whole = let e = shape.three in absurd (omega arith)
count_back key stated before (first ∷ colon ∷ word ∷ []) n shape whole = rw shape.once ((spells_whole word).back n whole)
count_back key stated before (first ∷ colon ∷ word ∷ more ∷ rest) n shape whole = let e = shape.three in absurd (omega arith)

abbrev header_if : {I : Type 0} → I → Bool → Result I TextKind
header_if header is = if is then Ok header else Err BadHeader

-- the header, or BadHeader
abbrev pub header_of : {I : Type 0} → List ℕ → I → NumberedLine → Result I TextKind
header_of kind header line = header_if header (is_header kind line.words)

-- only the header is the first line's item
pub header_item : {I : Type 0} (kind : List ℕ) (header : I) (line : NumberedLine) (stated : I) → header_of kind header line ≡ Ok stated → IsTrue (is_header kind line.words) × (header ≡ stated)
header_item kind header line stated means = tested (is_header kind line.words) refl means where
  tested : (b : Bool) → is_header kind line.words ≡ b → header_if header b ≡ Ok stated → IsTrue (is_header kind line.words) × (header ≡ stated)
  tested true is e = (is, cc)
  tested false is e = cc

-- and only BadHeader is its fault
pub header_fault : {I : Type 0} (kind : List ℕ) (header : I) (line : NumberedLine) (fault : TextKind) → header_of kind header line ≡ Err fault → IsFalse (is_header kind line.words) × (BadHeader ≡ fault)
header_fault kind header line fault means = tested (is_header kind line.words) refl means where
  tested : (b : Bool) → is_header kind line.words ≡ b → header_if header b ≡ Err fault → IsFalse (is_header kind line.words) × (BadHeader ≡ fault)
  tested true is e = cc
  tested false is e = (is, cc)

-- A file whose lines behind the header are judged by their shape and their numbers.
module _ {I R : Type 0} (form : Form I R) (kind : List ℕ) (HasShape : List I → List (List ℕ) → Type 0) (HasNumbers : List (List ℕ) → Type 0)
    (Is : List I → NumberedLine → I → Type 0) (header : I) (first : (line : NumberedLine) → form.meaning [] line ≡ header_of kind header line)
    (judged : (item : I) (before : List I) (line : NumberedLine) → Judges (HasShape (item ∷ before) line.words) (HasNumbers line.words) (Is (item ∷ before) line) (form.meaning (item ∷ before) line)) where
  pub shape_item : ((line : NumberedLine) → IsTrue (is_header kind line.words) → Is [] line header)
      → (before : List I) (line : NumberedLine) (stated : I) → form.meaning before line ≡ Ok stated → Is before line stated
  shape_item begins [] line stated means = let is = header_item kind header line stated (sym (first line) ∙ means) in subst (Is [] line) is.1 (begins line is.0)
  shape_item begins (item ∷ before) line stated means = (subst (Judges (HasShape (item ∷ before) line.words) (HasNumbers line.words) (Is (item ∷ before) line)) means (judged item before line)).2

  pub shape_named : (before : List I) (line : NumberedLine) (fault : TextKind) → form.meaning before line ≡ Err fault → IsShapeFault kind HasShape HasNumbers before line fault
  shape_named [] line fault means = let is = header_fault kind header line fault (sym (first line) ∙ means) in
      subst (λ k. IsShapeFault kind HasShape HasNumbers [] line k) is.1 is.0
  shape_named (item ∷ before) line fault means = named_by fault (subst (Judges (HasShape (item ∷ before) line.words) (HasNumbers line.words) (Is (item ∷ before) line)) means (judged item before line)) where
    named_by : (fault : TextKind) → Judges (HasShape (item ∷ before) line.words) (HasNumbers line.words) (Is (item ∷ before) line) (Err fault) → IsShapeFault kind HasShape HasNumbers (item ∷ before) line fault
    named_by BadHeader j = j
    named_by BadLine j = j
    named_by BadNumber j = j
    named_by (CountMismatch stated found) j = j

  pub shape_named_back : (before : List I) (line : NumberedLine) (fault : TextKind) → IsShapeFault kind HasShape HasNumbers before line fault → form.meaning before line ≡ Err fault
  shape_named_back [] line BadHeader named = first line ∙ cond-false (is_header kind line.words) (Ok header) (Err BadHeader) named
  shape_named_back [] line BadLine named = absurd named
  shape_named_back [] line BadNumber named = absurd named
  shape_named_back [] line (CountMismatch stated found) named = absurd named
  shape_named_back (item ∷ before) line fault named = at fault (form.meaning (item ∷ before) line) named (judged item before line) where
    at : (fault : TextKind) (r : Result I TextKind) → IsShapeFault kind HasShape HasNumbers (item ∷ before) line fault
        → Judges (HasShape (item ∷ before) line.words) (HasNumbers line.words) (Is (item ∷ before) line) r → r ≡ Err fault
    at BadHeader r named j = absurd named
    at (CountMismatch stated found) r named j = absurd named
    at BadLine (Ok x) named j = absurd (named j.0)
    at BadLine (Err BadHeader) named j = absurd j
    at BadLine (Err BadLine) named j = refl
    at BadLine (Err BadNumber) named j = absurd (named j.0)
    at BadLine (Err (CountMismatch stated found)) named j = absurd j
    at BadNumber (Ok x) named j = absurd (named.1 j.1)
    at BadNumber (Err BadHeader) named j = absurd j
    at BadNumber (Err BadLine) named j = absurd (j named.0)
    at BadNumber (Err BadNumber) named j = refl
    at BadNumber (Err (CountMismatch stated found)) named j = absurd j

-- A file that has at its end what its lines have, and needs no more than its header.
module _ {I A : Type 0} (ending : List I → Result (List A) TextKind) (kind : I → Option A) (none : ending [] ≡ Err BadHeader)
    (some : (item : I) (items : List I) → ending (item ∷ items) ≡ Ok (filter_map kind (item ∷ items))) where
  pub plain_file : (items : List I) (records : List A) → ending items ≡ Ok records → (items ≢ []) × (records ≡ filter_map kind items)
  plain_file [] records ends = cc
  plain_file (item ∷ items) records ends = (λ e. cc, let is = some item items in cc)

  pub plain_file_back : (items : List I) (records : List A) → (items ≢ []) × (records ≡ filter_map kind items) → ending items ≡ Ok records
  plain_file_back [] records file = absurd (file.0 refl)
  plain_file_back (item ∷ items) records file = some item items ∙ ap Ok (sym file.1)

  pub plain_end : (items : List I) (fault : TextKind) → ending items ≡ Err fault → IsEmptyFault items fault
  plain_end [] BadHeader ends = tt
  plain_end [] BadLine ends = cc
  plain_end [] BadNumber ends = cc
  plain_end [] (CountMismatch stated found) ends = cc
  plain_end (item ∷ items) fault ends = let is = some item items in cc

  pub plain_end_back : (items : List I) (fault : TextKind) → IsEmptyFault items fault → ending items ≡ Err fault
  plain_end_back [] BadHeader named = none
  plain_end_back [] BadLine named = absurd named
  plain_end_back [] BadNumber named = absurd named
  plain_end_back [] (CountMismatch stated found) named = absurd named
  plain_end_back (item ∷ items) fault named = absurd named

-- What stands there, where its number was stated. A file's own definition of it is this one, case by case.
abbrev pub count_stated : {A : Type 0} → Option ℕ → List A → Result (List A) TextKind
count_stated None found = Err BadLine
count_stated (Some n) found = if n == length found then Ok found else Err (CountMismatch n (length found))

-- what is named of such a number
abbrev pub StatedFault : {A : Type 0} → Option ℕ → List A → TextKind → Type 0
StatedFault stated found BadHeader = ⊥
StatedFault stated found BadLine = stated ≡ None
StatedFault stated found BadNumber = ⊥
StatedFault stated found (CountMismatch n stand) = (stated ≡ Some n) × (stand ≡ length found) × (n ≢ stand)

pub stated_file : {A : Type 0} (stated : Option ℕ) (found records : List A) → count_stated stated found ≡ Ok records → (records ≡ found) × (stated ≡ Some (length records))
stated_file None found records ends = cc
stated_file {A} (Some n) found records ends = equal (n == length found) refl ends where
  equal : (b : Bool) → (n == length found) ≡ b → (if b then Ok found else Err (CountMismatch n (length found))) ≡ Ok records → (records ≡ found) × (Some n ≡ Some (length records))
  equal true is e = let same : found ≡ records = cc in (sym same, ap Some (eqb-true n (length found) is ∙ ap length same))
  equal false is e = cc

pub stated_file_back : {A : Type 0} (stated : Option ℕ) (found records : List A) → records ≡ found → stated ≡ Some (length records) → count_stated stated found ≡ Ok records
stated_file_back stated found records same is = rw is (cond-true _ _ _ (eq-eqb (length records) (length found) (ap length same)) ∙ ap Ok (sym same))

pub stated_fault : {A : Type 0} (stated : Option ℕ) (found : List A) (fault : TextKind) → count_stated stated found ≡ Err fault → StatedFault stated found fault
stated_fault None found BadHeader ends = cc
stated_fault None found BadLine ends = refl
stated_fault None found BadNumber ends = cc
stated_fault None found (CountMismatch n stand) ends = cc
stated_fault {A} (Some n) found fault ends = equal (n == length found) refl ends where
  equal : (b : Bool) → (n == length found) ≡ b → (if b then Ok found else Err (CountMismatch n (length found))) ≡ Err fault → StatedFault (Some n) found fault
  equal true is e = cc
  equal false is e = let same : CountMismatch n (length found) ≡ fault = cc in subst (λ k. StatedFault (Some n) found k) same (refl, refl, eqb-false n (length found) is)

pub stated_fault_back : {A : Type 0} (stated : Option ℕ) (found : List A) (fault : TextKind) → StatedFault stated found fault → count_stated stated found ≡ Err fault
stated_fault_back stated found BadHeader named = absurd named
stated_fault_back stated found BadLine named = rw named refl
stated_fault_back stated found BadNumber named = absurd named
stated_fault_back stated found (CountMismatch n stand) named = rw named.0 (cond-false _ _ _ (ne_eqb n (length found) (λ e. named.2 (e ∙ sym named.1)))
    ∙ ap (λ m. Err (CountMismatch n m)) (sym named.1))
