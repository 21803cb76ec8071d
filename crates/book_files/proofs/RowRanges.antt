-- The numbers of a rows file are in range.
use Rattle.std.proofs.Common.{◌≡◌, ℕ, ◌≤◌, Bool, true, false, List, [], ◌∷◌, ◌++◌, cond, nat_le, pos, int_lt, ℤ, Option, Some, None, Result, Ok, Err, IfOk, refl, arith}
use Rattle.std.specs.Option.{IfSome}
use Rattle.std.specs.List.{AllByRecursion}
use Rattle.std.proofs.lemmas.Bool.{cond_both, leb-true}
use Rattle.std.proofs.lemmas.Int.{ints}
use Rattle.book_text.specs.declared.number.TheConstants.{MOST_WHOLE}
use Rattle.book_text.specs.declared.number.NumberFault.TheVariants.{NotNumber, OutOfRange}
use Rattle.book_text.specs.Whole.{is_whole}
use Rattle.std.specs.Str.Parse.{digits_value}
use Rattle.book_files.specs.declared.fault.TextKind.{TextKind}
use Rattle.book_files.specs.declared.fault.TextKind.TheVariants.{BadLine, BadNumber}
use Rattle.book_files.specs.declared.row_lines.PartKey.{PartKey}
use Rattle.book_files.specs.declared.row_lines.PartKey.TheVariants.{Coordinate, Height, SiteWidth, SiteSpacing, SiteOrient, SiteSymmetry, Subrow}
use Rattle.book_files.specs.Forms.Words.{number_of_result, number_of, whole_of}
use Rattle.book_files.specs.Entries.{SubrowEntry, RowEntry}
use Rattle.book_files.specs.Ranges.{IsInRange, IsSubrowInRange, IsRowInRange}
use Rattle.book_files.specs.Rows.{RowPart, coordinate, height, site_width, site_spacing, site_orient, site_symmetry, subrow, ended, end_in}
use Rattle.book_files.specs.Forms.Rows.{BlockStated, stated_with, above_zero, positive_of, once_by, is_subrow, subrow_at, subrow_of, key_of, by_key, inner_of, pitch_in, closed, row_of}
use Rattle.book_files.specs.Forms.RowProgress.{IsPositiveInRange, IsPartInRange, IsStatedInRange}
use Rattle.book_files.proofs.FewRecords.{at_ok}
use Rattle.book_files.proofs.GoodRecords.{bind_good, if_good, number_good}

digits_range : (form : Bool) (value : ℕ) → IfOk (number_of_result (cond form (cond (nat_le value MOST_WHOLE) (Ok value) (Err OutOfRange)) (Err NotNumber))) (λ n. n ≤ MOST_WHOLE)
digits_range false value = tt
digits_range true value = cond_both (nat_le value MOST_WHOLE) (Ok value) (Err OutOfRange) (λ r. IfOk (number_of_result r) (λ n. n ≤ MOST_WHOLE)) (λ fits. leb-true value MOST_WHOLE fits) (λ _. tt)

whole_range : (word : List ℕ) → IfOk (whole_of word) (λ n. n ≤ MOST_WHOLE)
whole_range word = digits_range (is_whole word) (digits_value 10 word)

positive_range : (word : List ℕ) → IfOk (positive_of word) IsPositiveInRange
positive_range word = bind_good IsInRange IsPositiveInRange (number_of word) above_zero (number_good word) (λ value in_range.
    cond_both (int_lt (pos 0) value) (Ok value) (Err BadNumber) (λ r. IfOk r IsPositiveInRange) (λ above. record { range = in_range; sign = grind (arith, ints) }) (λ _. tt))

once_range : {A : Type 0} (P : A → Type 0) (value : List ℕ → Result A TextKind) (stated : Bool) → ((word : List ℕ) → IfOk (value word) P) → (words : List (List ℕ)) → IfOk (once_by value stated words) P
once_range P value stated each [] = tt
once_range P value stated each (key ∷ []) = tt
once_range P value stated each (key ∷ colon ∷ []) = tt
once_range P value stated each (key ∷ colon ∷ word ∷ []) = if_good P stated (Err BadLine) (value word) tt (each word)
once_range P value stated each (key ∷ colon ∷ word ∷ more ∷ rest) = tt

at_range : (x n : List ℕ) → IfOk (subrow_at x n) IsSubrowInRange
at_range x n = bind_good IsInRange IsSubrowInRange (number_of x) _ (number_good x) (λ at at_range.
    bind_good (λ sites. sites ≤ MOST_WHOLE) IsSubrowInRange (whole_of n) (λ sites. Ok (record { x = at; sites = sites })) (whole_range n) (λ sites few. record { x = at_range; sites = few }))

subrow_range : (words : List (List ℕ)) → IfOk (subrow_of words) IsSubrowInRange
subrow_range (key ∷ colon ∷ x ∷ many ∷ again ∷ n ∷ []) = if_good IsSubrowInRange (is_subrow many again) (subrow_at x n) (Err BadLine) (at_range x n) tt
subrow_range [] = tt
subrow_range (key ∷ []) = tt
subrow_range (key ∷ colon ∷ []) = tt
subrow_range (key ∷ colon ∷ x ∷ []) = tt
subrow_range (key ∷ colon ∷ x ∷ many ∷ []) = tt
subrow_range (key ∷ colon ∷ x ∷ many ∷ again ∷ []) = tt
subrow_range (key ∷ colon ∷ x ∷ many ∷ again ∷ n ∷ more ∷ rest) = tt

abbrev IsInner : RowPart → Type 0
IsInner p = IsPartInRange p × (end_in p ≡ None)

inner_all : (t : BlockStated) (key : Option PartKey) (words : List (List ℕ)) → IfOk (by_key t key words) IsInner
inner_all t (Some Coordinate) words = bind_good IsInRange IsInner _ (λ y. Ok (coordinate y)) (once_range IsInRange number_of _ number_good words) (λ y good. (good, refl))
inner_all t (Some Height) words = bind_good IsPositiveInRange IsInner _ (λ h. Ok (height h)) (once_range IsPositiveInRange positive_of _ positive_range words) (λ h good. (good, refl))
inner_all t (Some SiteWidth) words = bind_good IsPositiveInRange IsInner _ (λ w. Ok (site_width w)) (once_range IsPositiveInRange positive_of _ positive_range words) (λ w good. (good, refl))
inner_all t (Some SiteSpacing) words = bind_good IsPositiveInRange IsInner _ (λ s. Ok (site_spacing s)) (once_range IsPositiveInRange positive_of _ positive_range words) (λ s good. (good, refl))
inner_all t (Some SiteOrient) words = if_good IsInner t.oriented (Err BadLine) (Ok site_orient) tt (tt, refl)
inner_all t (Some SiteSymmetry) words = if_good IsInner t.symmetric (Err BadLine) (Ok site_symmetry) tt (tt, refl)
inner_all t (Some Subrow) words = bind_good IsSubrowInRange IsInner _ (λ entry. Ok (subrow entry)) (subrow_range words) (λ entry good. (good, refl))
inner_all t None words = tt

-- a line within a block has numbers in range, and isn't the block's end
pub inner_range : (t : BlockStated) (words : List (List ℕ)) (p : RowPart) → inner_of t words ≡ Ok p → IsPartInRange p × (end_in p ≡ None)
inner_range t words p is = at_ok IsInner (inner_of t words) p is (inner_all t (key_of words) words)

all_more : {A : Type 0} (P : A → Type 0) (xs : List A) (x : A) → AllByRecursion P xs → P x → AllByRecursion P (xs ++ x ∷ [])
all_more P [] x all here = (here, tt)
all_more P (y ∷ ys) x all here = (all.0, all_more P ys x all.1 here)

pub rows_range_more : (rows : List RowEntry) (row : RowEntry) → AllByRecursion IsRowInRange rows → IsRowInRange row → AllByRecursion IsRowInRange (rows ++ row ∷ [])
rows_range_more rows row all here = all_more IsRowInRange rows row all here

pub stated_range_more : (t : BlockStated) (p : RowPart) → IsStatedInRange t → IsPartInRange p → IsStatedInRange (stated_with t p)
stated_range_more t (coordinate y) range here = record { y = here; height = range.height; width = range.width; spacing = range.spacing; subrows = range.subrows }
stated_range_more t (height h) range here = record { y = range.y; height = here; width = range.width; spacing = range.spacing; subrows = range.subrows }
stated_range_more t (site_width w) range here = record { y = range.y; height = range.height; width = here; spacing = range.spacing; subrows = range.subrows }
stated_range_more t (site_spacing s) range here = record { y = range.y; height = range.height; width = range.width; spacing = here; subrows = range.subrows }
stated_range_more t site_orient range here = record { y = range.y; height = range.height; width = range.width; spacing = range.spacing; subrows = range.subrows }
stated_range_more t site_symmetry range here = record { y = range.y; height = range.height; width = range.width; spacing = range.spacing; subrows = range.subrows }
stated_range_more t (subrow entry) range here = record { y = range.y; height = range.height; width = range.width; spacing = range.spacing; subrows = all_more IsSubrowInRange t.subrows entry range.subrows here }
stated_range_more t ended range here = range

closed_range : (y h s w : Option ℤ) (subrows : List SubrowEntry) (row : RowEntry) → IfSome y IsInRange → IfSome h IsPositiveInRange → IfSome s IsPositiveInRange → IfSome w IsPositiveInRange
    → AllByRecursion IsSubrowInRange subrows → closed y h (pitch_in s w) subrows ≡ Ok row → IsRowInRange row
closed_range None h s w subrows row in_y in_h in_s in_w all is = cc
closed_range (Some y) None s w subrows row in_y in_h in_s in_w all is = cc
closed_range (Some y) (Some h) None None subrows row in_y in_h in_s in_w all is = cc
closed_range (Some y) (Some h) (Some s) w subrows row in_y in_h in_s in_w all is = at_ok IsRowInRange (Ok (record { y = y; height = h; pitch = s; subrows = subrows })) row is
    (record { y = in_y; height = in_h.range; pitch = in_s.range; height_sign = in_h.sign; pitch_sign = in_s.sign; subrows = all })
closed_range (Some y) (Some h) None (Some w) subrows row in_y in_h in_s in_w all is = at_ok IsRowInRange (Ok (record { y = y; height = h; pitch = w; subrows = subrows })) row is
    (record { y = in_y; height = in_h.range; pitch = in_w.range; height_sign = in_h.sign; pitch_sign = in_w.sign; subrows = all })

pub row_range : (t : BlockStated) (row : RowEntry) → IsStatedInRange t → row_of t ≡ Ok row → IsRowInRange row
row_range t row range is = closed_range t.y t.height t.spacing t.width t.subrows row range.y range.height range.spacing range.width range.subrows is
