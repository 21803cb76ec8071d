-- The first row past the end: the first that is too high, or that of the first subrow that is too wide.
use Rattle.std.proofs.Common.{◌≡◌, ℕ, ◌+◌, ◌<◌, ◌≤◌, ◌^◌, ◌⊎◌, inl, inr, List, [], ◌∷◌, ◌++◌, length, map, get_or, refl, sym, ap, ◌∙◌, subst, ⊎_elim, arith, zero, suc}
use Rattle.std.specs.Prelude.{pos, ◌<ℤ◌, min}
use Rattle.std.proofs.lemmas.Bool.{cases_lt}
use Rattle.std.proofs.lemmas.List.{get_or_default}
use Rattle.book_files.specs.Entries.{RowEntry, SubrowEntry}
use Rattle.book_design.specs.declared.strips.Strip.{Strip as Kept}
use Rattle.book_design.specs.Records.{Records, Strip, strips, strips_from, strip_of, strip_in, strip_at}
use Rattle.book_design.specs.Faults.{IsFirst, IsPastEnd}
use Rattle.book_design.specs.Forms.Parts.{outline, outlines, kept_at}
use Rattle.book_design.specs.Forms.ValueLimits.{IsHigh, IsWide}
use Rattle.book_design.proofs.Rowing.{length-outlines, kept_is}

-- the subrows lie in the order of their rows
record IsOrdered (low high : ℕ) (all : List Strip) : Type 0 where
  after : (s : ℕ) → s < length all → low ≤ (strip_in all s).row
  below : (s : ℕ) → s < length all → (strip_in all s).row < high
  order : (s t : ℕ) → s ≤ t → t < length all → (strip_in all s).row ≤ (strip_in all t).row

ordered_more : (low high : ℕ) (strip : Strip) (all : List Strip) → low ≡ strip.row → low < high → IsOrdered low high all → IsOrdered low high (strip ∷ all)
ordered_more low high strip all e less h = record { after = after; below = below; order = order } where
  after : (s : ℕ) → s < length (strip ∷ all) → low ≤ (strip_in (strip ∷ all) s).row
  after zero there = omega (arith, e)
  after (suc s) there = h.after s (omega arith)

  below : (s : ℕ) → s < length (strip ∷ all) → (strip_in (strip ∷ all) s).row < high
  below zero there = omega (arith, e)
  below (suc s) there = h.below s (omega arith)

  order : (s t : ℕ) → s ≤ t → t < length (strip ∷ all) → (strip_in (strip ∷ all) s).row ≤ (strip_in (strip ∷ all) t).row
  order zero zero le there = omega arith
  order zero (suc t) le there = let first = h.after t (omega arith) in omega (arith, e, first)
  order (suc s) zero le there = absurd (omega arith)
  order (suc s) (suc t) le there = h.order s t (omega arith) (omega arith)

ordered_row : (r high : ℕ) (row : RowEntry) (subrows : List SubrowEntry) (more : List Strip) → r < high → IsOrdered r high more
    → IsOrdered r high (map (strip_of r row) subrows ++ more)
ordered_row r high row [] more less h = h
ordered_row r high row (subrow ∷ subrows) more less h =
    ordered_more r high (strip_of r row subrow) (map (strip_of r row) subrows ++ more) refl less (ordered_row r high row subrows more less h)

ordered : (r high : ℕ) (rows : List RowEntry) → r + length rows ≤ high → IsOrdered r high (strips_from r rows)
ordered r high [] few = record { after = λ s there. absurd (omega arith); below = λ s there. absurd (omega arith); order = λ s t le there. absurd (omega arith) }
ordered r high (row ∷ rows) few =
    let rest = ordered (1 + r) high rows (omega (arith, few)) in
    let more : IsOrdered r high (strips_from (1 + r) rows) =
    record { after = λ s there. let later = rest.after s there in omega (arith, later); below = rest.below; order = rest.order } in
    ordered_row r high row row.subrows (strips_from (1 + r) rows) (omega (arith, few)) more

wide_there : (records : Records) (kept : List Kept) (s : ℕ) → kept ≡ outlines records → s < length kept → s < length (strips records)
wide_there records kept s e there =
    let n = length-outlines records in
    let same : length kept ≡ length (outlines records) = ap length e in
    omega (arith, there)

kept_same : (records : Records) (kept : List Kept) (s : ℕ) → kept ≡ outlines records → s < length (strips records) → kept_at kept s ≡ outline (strip_at records s)
kept_same records kept s e there = ap (λ (ks : List Kept). kept_at ks s) e ∙ kept_is records s there

high_past : (records : Records) (r : ℕ) → IsHigh records r → IsPastEnd records r
high_past records r h = record { there = h.0; past = inl h.1 }

wide_past : (records : Records) (kept : List Kept) (s : ℕ) → kept ≡ outlines records → IsWide kept s → IsPastEnd records (kept_at kept s).row
wide_past records kept s e h =
    let there = wide_there records kept s e h.0 in
    let same = kept_same records kept s e there in
    let row : (kept_at kept s).row ≡ (strip_at records s).row = ap (λ (k : Kept). k.row) same in
    let less : (strip_at records s).row < length records.rows = (ordered 0 (length records.rows) records.rows (omega arith)).below s there in
    let P : Kept → Type 0 = λ k. pos (10 ^ 12) <ℤ k.right in
    let right : pos (10 ^ 12) <ℤ (strip_at records s).right = subst P same h.1 in
    record { there = omega (arith, row, less); past = inr (s, there, sym row, right) }

-- a row past the end is too high, or has a subrow that is too wide
past_by : (records : Records) (kept : List Kept) (r : ℕ) → kept ≡ outlines records → IsPastEnd records r → IsHigh records r ⊎ ((s : ℕ) × IsWide kept s × ((kept_at kept s).row ≡ r))
past_by records kept r e h = elim h.past [
  | inl high ↦ inl (h.there, high)
  | inr wide ↦
      let n = length-outlines records in
      let length_same : length kept ≡ length (outlines records) = ap length e in
      let there : wide.0 < length kept = omega (arith, wide.1) in
      let same = kept_same records kept wide.0 e wide.1 in
      let P : Kept → Type 0 = λ k. pos (10 ^ 12) <ℤ k.right in
      inr (wide.0, (there, subst P (sym same) wide.3), ap (λ (k : Kept). k.row) same ∙ wide.2)
]

-- no subrow of a row before that of the first too wide one is too wide
none_before : (records : Records) (kept : List Kept) (s t : ℕ) → kept ≡ outlines records → IsFirst (IsWide kept) s → IsWide kept t → (kept_at kept s).row ≤ (kept_at kept t).row
none_before records kept s t e first h = ⊎_elim (λ before. absurd (first.not_before t before h)) (λ (after : s ≤ t).
    let s_there = wide_there records kept s e first.here.0 in
    let t_there = wide_there records kept t e h.0 in
    let s_row : (kept_at kept s).row ≡ (strip_at records s).row = ap (λ (k : Kept). k.row) (kept_same records kept s e s_there) in
    let t_row : (kept_at kept t).row ≡ (strip_at records t).row = ap (λ (k : Kept). k.row) (kept_same records kept t e t_there) in
    let le = (ordered 0 (length records.rows) records.rows (omega arith)).order s t after t_there in
    omega (arith, s_row, t_row, le)) (cases_lt t s)

pub none_past : (records : Records) (kept : List Kept) → kept ≡ outlines records → ((r : ℕ) → IsHigh records r → ⊥) → ((s : ℕ) → IsWide kept s → ⊥) → ((r : ℕ) → IsPastEnd records r → ⊥)
none_past records kept e low narrow = λ r h. ⊎_elim (λ high. low r high) (λ wide. narrow wide.0 wide.1) (past_by records kept r e h)

pub high_first : (records : Records) (kept : List Kept) (r : ℕ) → kept ≡ outlines records → IsFirst (IsHigh records) r → ((s : ℕ) → IsWide kept s → ⊥) → IsFirst (IsPastEnd records) r
high_first records kept r e first narrow = record {
  here = high_past records r first.here;
  not_before = λ j before h. ⊎_elim (λ high. first.not_before j before high) (λ wide. narrow wide.0 wide.1) (past_by records kept j e h);
}

row_same : (kept : List Kept) (s : ℕ) (d : Kept) → s < length kept → (kept_at kept s).row ≡ (get_or kept s d).row
row_same kept s d there = ap (λ (k : Kept). k.row) (get_or_default kept s _ d there)

pub wide_first : (records : Records) (kept : List Kept) (s : ℕ) (d : Kept) → kept ≡ outlines records → ((r : ℕ) → IsHigh records r → ⊥) → IsFirst (IsWide kept) s
    → IsFirst (IsPastEnd records) (get_or kept s d).row
wide_first records kept s d e low first =
    let same = row_same kept s d first.here.0 in
    let P : ℕ → Type 0 = λ r. IsPastEnd records r in
    record {
      here = subst P same (wide_past records kept s e first.here);
      not_before = λ j before h. ⊎_elim (λ high. low j high) (λ wide. let le = none_before records kept s wide.0 e first wide.1 in omega (arith, same, le, wide.2)) (past_by records kept j e h);
    }

-- the smaller of both
pub both_first : (records : Records) (kept : List Kept) (r s least : ℕ) (d : Kept) → kept ≡ outlines records → IsFirst (IsHigh records) r → IsFirst (IsWide kept) s
    → least ≡ min r (get_or kept s d).row → IsFirst (IsPastEnd records) least
both_first records kept r s least d e high_one wide_one is =
    let same = row_same kept s d wide_one.here.0 in
    let below_high : least ≤ r = omega (arith, is) in
    let below_wide : least ≤ (get_or kept s d).row = omega (arith, is) in
    let P : ℕ → Type 0 = λ k. IsPastEnd records k in
    record {
      here = ⊎_elim
          (λ (less : r < (get_or kept s d).row). let one : r ≡ least = omega (arith, is) in subst P one (high_past records r high_one.here))
          (λ (more : (get_or kept s d).row ≤ r). let one : (get_or kept s d).row ≡ least = omega (arith, is) in subst P (same ∙ one) (wide_past records kept s e wide_one.here))
          (cases_lt r (get_or kept s d).row);
      not_before = λ j before h. ⊎_elim (λ high. high_one.not_before j (omega (arith, before, below_high)) high)
          (λ wide. let le = none_before records kept s wide.0 e wide_one wide.1 in omega (arith, same, le, wide.2, before, below_wide)) (past_by records kept j e h);
    }
