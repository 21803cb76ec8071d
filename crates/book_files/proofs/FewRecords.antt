-- A text's items are as many as its lines, and what holds of what each line means holds of each of them.
use Rattle.std.proofs.Common.{◌≡◌, ℕ, ◌+◌, ◌≤◌, Bool, true, false, List, [], ◌∷◌, ◌++◌, length, filter, cond, Option, Some, None, Result, Ok, IfOk, refl, sym, ap, subst, arith, suc}
use Rattle.std.specs.Option.{IfSome}
use Rattle.std.specs.List.{AllByRecursion, filter_map, cons_option}
use Rattle.book_text.specs.Lines.{NumberedLine, lines_of, numbered_from, content_of, has_content}
use Rattle.book_files.specs.Forms.Form.{Form, Mean}
use Rattle.book_files.proofs.FormTexts.{Reads}
use Rattle.book_files.proofs.FewLines.{length-lines_of-le}

length-onto : {A : Type 0} (keep : Bool) (x : A) (xs : List A) (n : ℕ) → length xs ≤ n → length (cond keep (x ∷ xs) xs) ≤ suc n
length-onto true x xs n few = omega arith
length-onto false x xs n few = omega arith

length-filter-le : {A : Type 0} (p : A → Bool) (xs : List A) → length (filter p xs) ≤ length xs
length-filter-le p [] = omega arith
length-filter-le p (x ∷ xs) = length-onto (p x) x (filter p xs) (length xs) (length-filter-le p xs)

length-numbered_from : (n : ℕ) (lines : List (List ℕ)) → length (numbered_from n lines) ≡ length lines
length-numbered_from n [] = refl
length-numbered_from n (line ∷ lines) = ap suc (length-numbered_from (n + 1) lines)

pub length-content_of-le : (text : List ℕ) → length (content_of text) ≤ length text
length-content_of-le text = omega (arith, length-filter-le (λ line. has_content line.words) (numbered_from 1 (lines_of text)), length-numbered_from 1 (lines_of text), length-lines_of-le text)

pub length-mean : {I R : Type 0} (form : Form I R) (before : List I) (lines : List NumberedLine) (items : List I) → Mean form before lines items → length items ≡ length lines
length-mean form before [] [] mean = refl
length-mean form before [] (item ∷ items) mean = absurd mean
length-mean form before (line ∷ lines) [] mean = absurd mean
length-mean form before (line ∷ lines) (item ∷ items) mean = ap suc (length-mean form (before ++ item ∷ []) lines items mean.1)

pub at_ok : {A E : Type 0} (P : A → Type 0) (r : Result A E) (x : A) → r ≡ Ok x → IfOk r P → P x
at_ok P r x is good = subst (λ s. IfOk s P) is good

-- what each meaning has, each item has
pub all-mean : {I R : Type 0} (form : Form I R) (Q : NumberedLine → Type 0) (P : I → Type 0) → ((before : List I) (line : NumberedLine) → Q line → IfOk (form.meaning before line) P)
    → (before : List I) (lines : List NumberedLine) (items : List I) → Mean form before lines items → AllByRecursion Q lines → AllByRecursion P items
all-mean form Q P each before [] [] mean all = tt
all-mean form Q P each before [] (item ∷ items) mean all = absurd mean
all-mean form Q P each before (line ∷ lines) [] mean all = absurd mean
all-mean form Q P each before (line ∷ lines) (item ∷ items) mean all =
    (at_ok P (form.meaning before line) item mean.0 (each before line all.0), all-mean form Q P each (before ++ item ∷ []) lines items mean.1 all.1)

onto_some : {A : Type 0} (P : A → Type 0) (o : Option A) (xs : List A) → IfSome o P → AllByRecursion P xs → AllByRecursion P (cons_option o xs)
onto_some P (Some x) xs here rest = (here, rest)
onto_some P None xs here rest = rest

all-filter_map : {I A : Type 0} (P : A → Type 0) (kind : I → Option A) (items : List I) → AllByRecursion (λ item. IfSome (kind item) P) items → AllByRecursion P (filter_map kind items)
all-filter_map P kind [] all = tt
all-filter_map P kind (item ∷ items) all = onto_some P (kind item) (filter_map kind items) all.0 (all-filter_map P kind items all.1)

length-cons_option-le : {A : Type 0} (o : Option A) (xs : List A) (n : ℕ) → length xs ≤ n → length (cons_option o xs) ≤ suc n
length-cons_option-le (Some x) xs n few = omega arith
length-cons_option-le None xs n few = omega arith

pub length-filter_map-le : {I A : Type 0} (kind : I → Option A) (items : List I) → length (filter_map kind items) ≤ length items
length-filter_map-le kind [] = omega arith
length-filter_map-le kind (item ∷ items) = length-cons_option-le (kind item) (filter_map kind items) (length items) (length-filter_map-le kind items)

-- where nothing is asked of a line
pub any_lines : (lines : List NumberedLine) → AllByRecursion (λ line. Unit {0}) lines
any_lines [] = tt
any_lines (line ∷ lines) = (tt, any_lines lines)

-- Records that are the items of a kind are few, and good where each meaning is.
module _ {I A : Type 0} (form : Form I (List A)) (kind : I → Option A) (text : List ℕ) (records : List A)
    (ends : (items : List I) → form.ending items ≡ Ok records → records ≡ filter_map kind items) (reads : Reads form text records) where
  pub records_few : length records ≤ length text
  records_few = let is = ap length (ends reads.items reads.make) in
      omega (arith, length-filter_map-le kind reads.items, length-mean form [] (content_of text) reads.items reads.mean, length-content_of-le text)

  pub records_good : (Q : NumberedLine → Type 0) (P : A → Type 0) → AllByRecursion Q (content_of text)
      → ((before : List I) (line : NumberedLine) → Q line → IfOk (form.meaning before line) (λ item. IfSome (kind item) P)) → AllByRecursion P records
  records_good Q P lines each = subst (AllByRecursion P) (sym (ends reads.items reads.make))
      (all-filter_map P kind reads.items (all-mean form Q (λ item. IfSome (kind item) P) each [] (content_of text) reads.items reads.mean lines))
