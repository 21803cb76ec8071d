-- What the subrows of rows that are all alike have in common.
use Rattle.std.proofs.Common.{◌≡◌, ℕ, ◌+◌, ◌<◌, ◌^◌, List, [], ◌∷◌, ◌++◌, length, map, get_or, refl, sym, ap, ◌∙◌, suc, arith, ℤ, pos, ◌+ℤ◌, ◌*ℤ◌, ◌≤ℤ◌}
use Rattle.std.proofs.lemmas.Int.{ints}
use Rattle.std.proofs.lemmas.List.{get_or-map}
use Rattle.std.specs.List.{AllByRecursion}
use Rattle.book_files.specs.Entries.{RowEntry, SubrowEntry}
use Rattle.book_files.specs.Ranges.{IsRowInRange, IsSubrowInRange}
use Rattle.book_design.specs.declared.strips.Strip.{Strip as Kept}
use Rattle.book_design.specs.Records.{Records, Strip, strips_from, strip_of, strip_in, row_at}
use Rattle.book_design.specs.Forms.Parts.{outline}
use Rattle.book_design.specs.Forms.Strips.{strip_value, strip_values, IsStripInRange}
use Rattle.book_design.proofs.RowsSums.{width_fits}

pub some_row : (r : ℕ) (rows : List RowEntry) (s : ℕ) → s < length (strips_from r rows) → 0 < length rows
some_row r [] s below = absurd (omega arith)
some_row r (row ∷ rows) s below = omega arith

first_in_range : (rows : List RowEntry) (d : RowEntry) → AllByRecursion IsRowInRange rows → 0 < length rows → IsRowInRange (get_or rows 0 d)
first_in_range [] d h below = absurd (omega arith)
first_in_range (row ∷ rows) d h below = h.0

pub row_in_range : (records : Records) → AllByRecursion IsRowInRange records.rows → 0 < length records.rows → IsRowInRange (row_at records 0)
row_in_range records h below = first_in_range records.rows _ h below

strip_in_range : (r : ℕ) (row : RowEntry) (subrow : SubrowEntry) → IsRowInRange row → IsSubrowInRange subrow → IsStripInRange (outline (strip_of r row subrow))
strip_in_range r row subrow h k =
    let fits = width_fits subrow.sites row.pitch k.sites h.pitch_sign h.pitch.high in
    let low : pos 0 ≤ℤ (pos subrow.sites *ℤ row.pitch) = fits.0 in
    let high : (pos subrow.sites *ℤ row.pitch) ≤ℤ pos (2 ^ 81) = fits.1 in
    let x_high : subrow.x ≤ℤ pos (10 ^ 12) = k.x.high in
    record {
      left_low = k.x.low;
      left_high = k.x.high;
      right_low = omega (arith, ints);
      right_high = omega (arith, ints);
      lower_low = h.y.low;
      lower_high = h.y.high;
    }

row_strips_in_range : (r : ℕ) (row : RowEntry) (subrows : List SubrowEntry) (more : List Strip) → IsRowInRange row → AllByRecursion IsSubrowInRange subrows
    → AllByRecursion IsStripInRange (map outline more) → AllByRecursion IsStripInRange (map outline (map (strip_of r row) subrows ++ more))
row_strips_in_range r row [] more h k rest = rest
row_strips_in_range r row (subrow ∷ subrows) more h k rest = (strip_in_range r row subrow h k.0, row_strips_in_range r row subrows more h k.1 rest)

pub strips_in_range : (r : ℕ) (rows : List RowEntry) → AllByRecursion IsRowInRange rows → AllByRecursion IsStripInRange (map outline (strips_from r rows))
strips_in_range r [] h = tt
strips_in_range r (row ∷ rows) h = row_strips_in_range r row row.subrows (strips_from (1 + r) rows) h.0 h.0.subrows (strips_in_range (1 + r) rows h.1)

-- of a row that is so high the upper edges are found again
row_values : (height : ℤ) (r : ℕ) (row : RowEntry) (subrows : List SubrowEntry) (more : List Strip) → row.height ≡ height → strip_values height (map outline more) ≡ more
    → strip_values height (map outline (map (strip_of r row) subrows ++ more)) ≡ map (strip_of r row) subrows ++ more
row_values height r row [] more e h = h
row_values height r row (subrow ∷ subrows) more e h =
    let upper : (row.y +ℤ height) ≡ (row.y +ℤ row.height) = ap (λ (z : ℤ). row.y +ℤ z) (sym e) in
    let s : Strip = strip_of r row subrow in
    let here : strip_value height (outline s) ≡ s =
    ap (λ (z : ℤ). record { row = s.row; left = s.left; right = s.right; lower = s.lower; upper = z; sites = s.sites }) upper in
    ap (λ (t : Strip). t ∷ strip_values height (map outline (map (strip_of r row) subrows ++ more))) here
    ∙ ap (λ (ts : List Strip). s ∷ ts) (row_values height r row subrows more e h)

pub values_of : (height : ℤ) (r : ℕ) (rows : List RowEntry) (d : RowEntry) → ((k : ℕ) → k < length rows → (get_or rows k d).height ≡ height)
    → strip_values height (map outline (strips_from r rows)) ≡ strips_from r rows
values_of height r [] d even = refl
values_of height r (row ∷ rows) d even =
    row_values height r row row.subrows (strips_from (1 + r) rows) (even 0 (omega arith)) (values_of height (1 + r) rows d (λ k below. even (suc k) (omega arith)))

pub row_named : (all : List Strip) (kept : List Kept) (s : ℕ) (d : Kept) → kept ≡ map outline all → s < length all → (get_or kept s d).row ≡ (strip_in all s).row
row_named all kept s d e below =
    ap (λ (ks : List Kept). (get_or ks s d).row) e ∙ ap (λ (k : Kept). k.row) (get_or-map outline all s _ d below)
