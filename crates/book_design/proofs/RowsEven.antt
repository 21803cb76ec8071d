-- Rows that are all alike, and the first that isn't.
use Rattle.std.proofs.Common.{◌≡◌, ℕ, ◌<◌, Bool, true, false, List, length, get_or, refl, sym, ap, ◌∙◌, subst, arith, ℤ, ◌⊎◌, inl, inr, pos, []}
use Rattle.std.specs.Ordering.{int_eq}
use Rattle.std.proofs.lemmas.Bool.Decides.{Decides-int_eq}
use Rattle.std.proofs.lemmas.List.{length-map}
use Rattle.book_design.specs.declared.strips.Strip.{Strip as Kept}
use Rattle.book_design.specs.declared.fault.DesignFault.TheVariants.{NoRows, MixedRows, RowsOverlap}
use Rattle.book_design.specs.Joined.{HasSite}
use Rattle.book_design.specs.Records.{Records, Strip, strips, strip_at, row_at}
use Rattle.book_design.specs.Faults.{IsFirst, IsMixedRow, IsOverlapping}
use Rattle.book_design.specs.Forms.Parts.{outline, outlines, kept_at, IsShape}
use Rattle.book_design.specs.declared.rows.RowShape.{RowShape}
use Rattle.book_files.specs.Entries.{RowEntry}
use Rattle.book_design.specs.Forms.RowParts.{HaveSite, HaveNoSite, HasShape}
use Rattle.book_design.specs.Forms.Steps.{IsFirstFrom}
use Rattle.book_design.proofs.Ranks.{first_of_rank, first_after, free_some}
use Rattle.book_design.proofs.Rowing.{kept_is}
use Rattle.book_design.proofs.RowsApart.{some_row, row_in_range, values_of, row_named}
use Rattle.book_design.specs.Forms.Strips.{strip_values}
use Rattle.book_design.specs.Forms.Sources.{AreInRange}
use Rattle.book_files.specs.Ranges.{IsRowInRange}

pub site_of : (records : Records) (kept : List Kept) → kept ≡ outlines records → HaveSite kept → ((s : ℕ) × HasSite records s)
site_of records kept e h =
    let P : List Kept → Type 0 = λ ks. HaveSite ks in
    let found = subst P e h in
    let same : length (outlines records) ≡ length (strips records) = length-map (strips records) outline in
    let there : found.0 < length (strips records) = omega (arith, found.1) in
    let sites : (kept_at (outlines records) found.0).sites ≡ (strip_at records found.0).sites = ap (λ (k : Kept). k.sites) (kept_is records found.0 there) in
    (found.0, (there, omega (arith, found.2)))

pub no_site : (records : Records) (kept : List Kept) → kept ≡ outlines records → HaveNoSite kept → IsFirstFrom records 4 NoRows
no_site records kept e h =
    let P : List Kept → Type 0 = λ ks. HaveNoSite ks in
    let none = subst P e h in
    let same : length (outlines records) ≡ length (strips records) = length-map (strips records) outline in
    first_of_rank records 4 NoRows refl (λ s below. sym (ap (λ (k : Kept). k.sites) (kept_is records s below)) ∙ none s (omega (arith, below)))

pub mixed : (records : Records) (r : ℕ) → ((s : ℕ) × HasSite records s) → IsFirst (IsMixedRow records) r → IsFirstFrom records 4 (MixedRows r)
mixed records r four h = first_after records 4 (MixedRows r) (free_some records four) h

same_or_not : (x y : ℤ) → (x ≡ y) ⊎ (x ≡ y → ⊥)
same_or_not x y = chosen (int_eq x y) refl where
  chosen : (b : Bool) → int_eq x y ≡ b → (x ≡ y) ⊎ (x ≡ y → ⊥)
  chosen true e = inl ((Decides-int_eq x y).0 e)
  chosen false e = inr (λ same. let yes : int_eq x y ≡ true = (Decides-int_eq x y).1 same in absurd cc)

-- where no row is mixed, all have the height of row 0
pub one_height : (records : Records) → ((r : ℕ) → IsMixedRow records r → ⊥) → (r : ℕ) → r < length records.rows → (row_at records r).height ≡ (row_at records 0).height
one_height records five r below = elim (same_or_not (row_at records r).height (row_at records 0).height) [
  | inl e ↦ e
  | inr other ↦ absurd (five r (record { there = below; other = inl other }))
]

pub first_row : (records : Records) → AreInRange records → (s : ℕ) × HasSite records s → IsRowInRange (row_at records 0)
first_row records h some = row_in_range records h.rows (some_row 0 records.rows some.0 some.1.0)

pub all_values : (records : Records) (kept : List Kept) (height : ℤ) → ((r : ℕ) → IsMixedRow records r → ⊥) → kept ≡ outlines records → height ≡ (row_at records 0).height → strip_values height kept ≡ strips records
all_values records kept height five e f =
    ap (λ (ks : List Kept). strip_values height ks) e
    ∙ values_of height 0 records.rows (record { y = pos 0; height = pos 0; pitch = pos 0; subrows = [] }) (λ k below. one_height records five k below ∙ sym f)

pub overlap_named : (records : Records) (kept : List Kept) (height : ℤ) (s : ℕ) (d : Kept) → kept ≡ outlines records → strip_values height kept ≡ strips records
    → IsFirst (IsOverlapping (strip_values height kept)) s → IsFirstFrom records 6 (RowsOverlap (get_or kept s d).row)
overlap_named records kept height s d e all first =
    let Q : List Strip → Type 0 = λ ss. IsFirst (IsOverlapping ss) s in
    let here : IsFirst (IsOverlapping (strips records)) s = subst Q all first in
    first_of_rank records 6 (RowsOverlap (get_or kept s d).row) refl (s, here, row_named (strips records) kept s d e here.here.there)

pub not_mixed : (records : Records) (r : ℕ) (row : RowEntry) (shape : RowShape) → IsShape records shape → row ≡ row_at records r → HasShape row shape → IsMixedRow records r → ⊥
not_mixed records r row shape s e h m = elim m.other [
  | inl other ↦ other (ap (λ (k : RowEntry). k.height) (sym e) ∙ h.height ∙ s.height)
  | inr other ↦ other (ap (λ (k : RowEntry). k.pitch) (sym e) ∙ h.pitch ∙ s.pitch)
]
