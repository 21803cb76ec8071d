-- A number word by its parts: what stands before its exponent, and what it is worth.
use Rattle.std.proofs.Common.{◌≡◌, ◌==◌, ℕ, ◌+◌, Bool, true, false, not, suc, List, [], ◌∷◌, ◌++◌, length, drop, refl, sym, ap, ◌∙◌, arith}
use Rattle.std.specs.Char.{is_ascii_digit}
use Rattle.std.specs.List.{list_any, position_or_len, before_first, after_first}
use Rattle.std.proofs.lemmas.Bool.{not_from_true, not_from_false, or_parts, or_from, or_left, and_parts, and_left, and_right, ne_eqb}
use Rattle.std.proofs.lemmas.List.{append-nil, append_assoc}
use Rattle.book_text.proofs.Digits.{in_range-from_digit}
use Rattle.book_text.proofs.Prefixes.{prefix_len-yes, prefix_len-no, take_prefix-yes, take_prefix-no}
use Rattle.book_text.specs.Decimal.{is_exponent_mark, is_point, are_digits}

-- a front without an element that passes stays as it is
module _ (p : ℕ → Bool) where
  before_first-append : (xs ys : List ℕ) → list_any p xs ≡ false → before_first p (xs ++ ys) ≡ xs ++ before_first p ys
  before_first-append [] ys none = refl
  before_first-append (x ∷ xs) ys none = let parts = or_parts (p x) (list_any p xs) none in
      take_prefix-yes (λ y. not (p y)) x (xs ++ ys) (not_from_false (p x) parts.0) ∙ ap (λ zs. x ∷ zs) (before_first-append xs ys parts.1)

  after_first-append : (xs ys : List ℕ) → list_any p xs ≡ false → after_first p (xs ++ ys) ≡ after_first p ys
  after_first-append [] ys none = refl
  after_first-append (x ∷ xs) ys none = let parts = or_parts (p x) (list_any p xs) none in
      let next : position_or_len p (x ∷ (xs ++ ys)) + 1 ≡ suc (position_or_len p (xs ++ ys) + 1) =
      omega (arith, prefix_len-yes (λ y. not (p y)) x (xs ++ ys) (not_from_false (p x) parts.0)) in
      ap (λ n. drop n (x ∷ (xs ++ ys))) next
      ∙ after_first-append xs ys parts.1

  list_any-append : (xs ys : List ℕ) → list_any p xs ≡ false → list_any p (xs ++ ys) ≡ list_any p ys
  list_any-append [] ys none = refl
  list_any-append (x ∷ xs) ys none = let parts = or_parts (p x) (list_any p xs) none in rw parts.0 (list_any-append xs ys parts.1)

  before_first-at : (x : ℕ) (xs : List ℕ) → p x ≡ true → before_first p (x ∷ xs) ≡ []
  before_first-at x xs e = take_prefix-no (λ y. not (p y)) x xs (not_from_true (p x) e)

  before_first-more : (x : ℕ) (xs : List ℕ) → p x ≡ false → before_first p (x ∷ xs) ≡ x ∷ before_first p xs
  before_first-more x xs e = take_prefix-yes (λ y. not (p y)) x xs (not_from_false (p x) e)

  after_first-at : (x : ℕ) (xs : List ℕ) → p x ≡ true → after_first p (x ∷ xs) ≡ xs
  after_first-at x xs e = ap (λ n. drop (n + 1) (x ∷ xs)) (prefix_len-no (λ y. not (p y)) x xs (not_from_true (p x) e))

digit_no_mark : (c : ℕ) → is_ascii_digit c ≡ true → is_exponent_mark c ≡ false
digit_no_mark c digit = let in_range = in_range-from_digit c digit in
    or_from (c == 101) (c == 69) (ne_eqb c 101 (λ e. omega (arith, in_range.1))) (ne_eqb c 69 (λ e. omega (arith, in_range.1)))

digit_no_point : (c : ℕ) → is_ascii_digit c ≡ true → is_point c ≡ false
digit_no_point c digit = let in_range = in_range-from_digit c digit in ne_eqb c 46 (λ e. omega (arith, in_range.0))

none_in_digits : (p : ℕ → Bool) → ((c : ℕ) → is_ascii_digit c ≡ true → p c ≡ false) → (digits : List ℕ) → are_digits digits ≡ true → list_any p digits ≡ false
none_in_digits p other [] all = refl
none_in_digits p other (c ∷ digits) all = let parts = and_parts (is_ascii_digit c) (are_digits digits) all in
    or_from (p c) (list_any p digits) (other c parts.0) (none_in_digits p other digits parts.1)

not_digits : (xs : List ℕ) (c : ℕ) (ys : List ℕ) → is_ascii_digit c ≡ false → are_digits (xs ++ c ∷ ys) ≡ false
not_digits [] c ys other = and_left (is_ascii_digit c) (are_digits ys) other
not_digits (x ∷ xs) c ys other = and_right (is_ascii_digit x) (are_digits (xs ++ c ∷ ys)) (not_digits xs c ys other)

-- what stands before an exponent: digits, and those behind a point
pub record IsFront (front whole fraction : List ℕ) : Type 0 where
  pub no_mark : list_any is_exponent_mark front ≡ false
  pub whole_is : before_first is_point front ≡ whole
  pub fraction_is : after_first is_point front ≡ fraction

pub front-digits : (whole : List ℕ) → are_digits whole ≡ true → IsFront whole whole []
front-digits whole digits = let none = none_in_digits is_point digit_no_point whole digits in record {
  no_mark = none_in_digits is_exponent_mark digit_no_mark whole digits;
  whole_is = ap (before_first is_point) (sym (append-nil whole)) ∙ before_first-append is_point whole [] none ∙ append-nil whole;
  fraction_is = ap (after_first is_point) (sym (append-nil whole)) ∙ after_first-append is_point whole [] none;
}

pub front-point : (whole fraction : List ℕ) → are_digits whole ≡ true → are_digits fraction ≡ true → IsFront (whole ++ 46 ∷ fraction) whole fraction
front-point whole fraction digits more = let none = none_in_digits is_point digit_no_point whole digits in record {
  no_mark = list_any-append is_exponent_mark whole (46 ∷ fraction) (none_in_digits is_exponent_mark digit_no_mark whole digits)
      ∙ none_in_digits is_exponent_mark digit_no_mark fraction more;
  whole_is = before_first-append is_point whole (46 ∷ fraction) none ∙ append-nil whole;
  fraction_is = after_first-append is_point whole (46 ∷ fraction) none;
}

-- the end of a word that is nothing, or begins with an exponent's mark
pub record IsEnd (end : List ℕ) : Type 0 where
  pub before : before_first is_exponent_mark end ≡ []
  pub behind : after_first is_exponent_mark end ≡ drop 1 end
  pub marked : list_any is_exponent_mark end ≡ not (length end == 0)

pub end-none : IsEnd []
end-none = record { before = refl; behind = refl; marked = refl }

pub end-mark : (c : ℕ) (rest : List ℕ) → is_exponent_mark c ≡ true → IsEnd (c ∷ rest)
end-mark c rest mark = record {
  before = before_first-at is_exponent_mark c rest mark;
  behind = after_first-at is_exponent_mark c rest mark;
  marked = or_left (is_exponent_mark c) (list_any is_exponent_mark rest) mark ∙ sym (ap not (ne_eqb (suc (length rest)) 0 (λ e. omega arith)));
}

-- the parts of a word without its sign
pub record IsSplit (word whole fraction end : List ℕ) : Type 0 where
  pub whole_is : before_first is_point (before_first is_exponent_mark word) ≡ whole
  pub fraction_is : after_first is_point (before_first is_exponent_mark word) ≡ fraction
  pub exponent_is : after_first is_exponent_mark word ≡ drop 1 end
  pub marked : list_any is_exponent_mark word ≡ not (length end == 0)

pub split : (front whole fraction end : List ℕ) → IsFront front whole fraction → IsEnd end → IsSplit (front ++ end) whole fraction end
split front whole fraction end f e =
    let mantissa : before_first is_exponent_mark (front ++ end) ≡ front =
    before_first-append is_exponent_mark front end f.no_mark ∙ ap (λ rest. front ++ rest) e.before ∙ append-nil front in
    record {
      whole_is = ap (before_first is_point) mantissa ∙ f.whole_is;
      fraction_is = ap (after_first is_point) mantissa ∙ f.fraction_is;
      exponent_is = after_first-append is_exponent_mark front end f.no_mark ∙ e.behind;
      marked = list_any-append is_exponent_mark front end f.no_mark ∙ e.marked;
    }

-- the digits of a word without its sign
abbrev pub digits_before : List ℕ → List ℕ
digits_before mantissa = before_first is_point mantissa ++ after_first is_point mantissa

abbrev pub digits_in : List ℕ → List ℕ
digits_in word = digits_before (before_first is_exponent_mark word)

-- where a byte follows that is neither a digit nor a mark, it stands among the digits
mantissa-more : (front : List ℕ) (c : ℕ) (rest : List ℕ) → list_any is_exponent_mark front ≡ false → is_exponent_mark c ≡ false
    → before_first is_exponent_mark (front ++ c ∷ rest) ≡ front ++ c ∷ before_first is_exponent_mark rest
mantissa-more front c rest none no_mark = before_first-append is_exponent_mark front (c ∷ rest) none
    ∙ ap (λ end. front ++ end) (before_first-more is_exponent_mark c rest no_mark)

pub bad-digits : (whole : List ℕ) (c : ℕ) (rest : List ℕ) → are_digits whole ≡ true → is_ascii_digit c ≡ false → is_exponent_mark c ≡ false → is_point c ≡ false
    → are_digits (digits_in (whole ++ c ∷ rest)) ≡ false
bad-digits whole c rest digits no_digit no_mark no_point =
    let end = before_first is_exponent_mark rest in let behind = after_first is_point (whole ++ c ∷ end) in
    let before : before_first is_point (whole ++ c ∷ end) ≡ whole ++ c ∷ before_first is_point end =
    before_first-append is_point whole (c ∷ end) (none_in_digits is_point digit_no_point whole digits)
    ∙ ap (λ xs. whole ++ xs) (before_first-more is_point c end no_point) in
    ap (λ mantissa. are_digits (digits_before mantissa)) (mantissa-more whole c rest (none_in_digits is_exponent_mark digit_no_mark whole digits) no_mark)
    ∙ ap (λ xs. are_digits (xs ++ behind)) before
    ∙ ap are_digits (append_assoc whole (c ∷ before_first is_point end) behind) ∙ not_digits whole c (before_first is_point end ++ behind) no_digit

pub bad-point : (whole fraction : List ℕ) (c : ℕ) (rest : List ℕ) → are_digits whole ≡ true → are_digits fraction ≡ true → is_ascii_digit c ≡ false → is_exponent_mark c ≡ false
    → are_digits (digits_in ((whole ++ 46 ∷ fraction) ++ c ∷ rest)) ≡ false
bad-point whole fraction c rest digits more no_digit no_mark =
    let end = before_first is_exponent_mark rest in let none = none_in_digits is_point digit_no_point whole digits in
    let fraction' = fraction ++ c ∷ end in
    let mantissa : before_first is_exponent_mark ((whole ++ 46 ∷ fraction) ++ c ∷ rest) ≡ whole ++ 46 ∷ fraction' =
    mantissa-more (whole ++ 46 ∷ fraction) c rest (IsFront.no_mark (front-point whole fraction digits more)) no_mark ∙ append_assoc whole (46 ∷ fraction) (c ∷ end) in
    let digits_are : digits_before (whole ++ 46 ∷ fraction') ≡ whole ++ fraction' =
    ap (λ xs. xs ++ after_first is_point (whole ++ 46 ∷ fraction')) (before_first-append is_point whole (46 ∷ fraction') none ∙ append-nil whole)
    ∙ ap (λ xs. whole ++ xs) (after_first-append is_point whole (46 ∷ fraction') none) in
    ap (λ m. are_digits (digits_before m)) mantissa ∙ ap are_digits (digits_are ∙ sym (append_assoc whole fraction (c ∷ end))) ∙ not_digits (whole ++ fraction) c end no_digit
