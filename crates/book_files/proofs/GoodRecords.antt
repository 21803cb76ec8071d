-- The numbers of the records are in range.
use Rattle.std.proofs.Common.{ℕ, ◌≤◌, Bool, true, false, List, Option, Some, None, cond, nat_le, ℤ, pos, neg_ℤ, int_lt, ◌≤ℤ◌, Result, Ok, Err, IfOk, arith}
use Rattle.std.proofs.lemmas.Bool.{cond_both, leb-true}
use Rattle.std.proofs.lemmas.Int.{ints}
use Rattle.book_text.specs.declared.decimal.TheConstants.{MOST_MICRO}
use Rattle.book_text.specs.declared.number.NumberFault.TheVariants.{NotNumber, OutOfRange}
use Rattle.book_text.specs.Decimal.{micro_size, is_number}
use Rattle.std.specs.Str.Parse.{starts_with_minus}
use Rattle.book_files.specs.declared.fault.TextKind.{TextKind}
use Rattle.book_files.specs.declared.fault.TextKind.TheVariants.{BadNumber}
use Rattle.book_files.specs.Forms.Words.{◌>>=◌, number_of_result, number_of, size_of, unless_negative, marked}
use Rattle.book_files.specs.Ranges.{IsInRange}

-- in range, and not negative
pub record IsSizeInRange (value : ℤ) : Type 0 where
  pub range : IsInRange value
  pub sign : pos 0 ≤ℤ value

pub bind_good : {A B : Type 0} (P : A → Type 0) (Q : B → Type 0) (r : Result A TextKind) (f : A → Result B TextKind) → IfOk r P → ((x : A) → P x → IfOk (f x) Q) → IfOk (r >>= f) Q
bind_good P Q (Ok x) f good each = each x good
bind_good P Q (Err kind) f good each = tt

pub marked_good : {A : Type 0} (P : A → Type 0) (mark : Option Bool) (make : Bool → Result A TextKind) → ((overlap : Bool) → IfOk (make overlap) P) → IfOk (marked mark make) P
marked_good P (Some overlap) make each = each overlap
marked_good P None make each = tt

-- what holds of each of two
pub if_good : {A : Type 0} (P : A → Type 0) (b : Bool) (r s : Result A TextKind) → IfOk r P → IfOk s P → IfOk (cond b r s) P
if_good P true r s good other = good
if_good P false r s good other = other

micro_in_range : (form minus : Bool) (size : ℕ)
    → IfOk (number_of_result (cond form (cond (nat_le size MOST_MICRO) (Ok (cond minus (neg_ℤ (pos size)) (pos size))) (Err OutOfRange)) (Err NotNumber))) IsInRange
micro_in_range false minus size = tt
micro_in_range true minus size = cond_both (nat_le size MOST_MICRO) (Ok (cond minus (neg_ℤ (pos size)) (pos size))) (Err OutOfRange) (λ r. IfOk (number_of_result r) IsInRange)
    (λ fits. in_range minus size (leb-true size MOST_MICRO fits)) (λ _. tt) where
      in_range : (minus : Bool) (size : ℕ) → size ≤ MOST_MICRO → IsInRange (cond minus (neg_ℤ (pos size)) (pos size))
      in_range true size fits = record { low = omega (arith, ints); high = omega (arith, ints) }
      in_range false size fits = record { low = omega (arith, ints); high = omega (arith, ints) }

pub number_good : (word : List ℕ) → IfOk (number_of word) IsInRange
number_good word = micro_in_range (is_number word) (starts_with_minus word) (micro_size word)

pub size_good : (word : List ℕ) → IfOk (size_of word) IsSizeInRange
size_good word = bind_good IsInRange IsSizeInRange (number_of word) unless_negative (number_good word) (λ value in_range.
    cond_both (int_lt value (pos 0)) (Err BadNumber) (Ok value) (λ r. IfOk r IsSizeInRange) (λ _. tt) (λ not_less. record { range = in_range; sign = grind (arith, ints) }))
