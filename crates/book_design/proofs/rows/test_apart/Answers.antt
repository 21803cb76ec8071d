use Rattle.std.proofs.Common.{◌≡◌, ℕ, ℤ, List, Option, sym, subst, arith, to_z, of_z, w64}
use Rattle.std.proofs.lemmas.Int.{ints}
use Rattle.std.specs.List.{AllByRecursion}
use Rattle.book_design.specs.declared.strips.Strip.{Strip as Kept}
use Rattle.book_design.specs.Records.{Strip, row_at}
use Rattle.book_design.specs.Faults.{IsOverlapping}
use Rattle.book_design.specs.Forms.Sources.{records_of}
use Rattle.book_design.specs.Forms.Strips.{strip_values, IsStripInRange, IsFirstOverlap}
use Rattle.book_design.proofs.RowsApart.{strips_in_range}
use Rattle.book_design.proofs.RowsEven.{first_row, all_values, overlap_named}
use Rattle.book_design.proofs.rows.test_apart.Goals as goal

pub first_overlap-requires-clause-ranges : goal.first_overlap-requires-clause-ranges
first_overlap-requires-clause-ranges c =
    let P : List Kept → Type 0 = λ ks. AllByRecursion IsStripInRange ks in
    subst P (sym c.requires.strips) (strips_in_range 0 (records_of c.args.records.now).rows c.requires.ranges.rows)

pub returns-in-Some : goal.returns-in-Some
returns-in-Some c =
    let height : ℤ = to_z w64 (of_z w64 c.args.shape.now.height) in
    let range = first_row (records_of c.args.records.now) c.requires.ranges c.requires.even.some in
    let same : to_z w64 (of_z w64 c.args.shape.now.height) ≡ (row_at (records_of c.args.records.now) 0).height = omega (arith, ints, range.height.low, range.height.high, c.requires.even.first.height) in
    let P : Option ℕ → Type 0 = λ o. IsFirstOverlap (strip_values height c.args.strips.now) o in
    overlap_named (records_of c.args.records.now) c.args.strips.now height c.in-Some.s _ c.requires.strips
    (all_values (records_of c.args.records.now) c.args.strips.now height c.requires.even.even c.requires.strips same)
    (subst P c.in-Some.is c.in_ok-s.ensures)

pub returns-in-None : goal.returns-in-None
returns-in-None c =
    let height : ℤ = to_z w64 (of_z w64 c.args.shape.now.height) in
    let range = first_row (records_of c.args.records.now) c.requires.ranges c.requires.even.some in
    let same : to_z w64 (of_z w64 c.args.shape.now.height) ≡ (row_at (records_of c.args.records.now) 0).height = omega (arith, ints, range.height.low, range.height.high, c.requires.even.first.height) in
    let P : Option ℕ → Type 0 = λ o. IsFirstOverlap (strip_values height c.args.strips.now) o in
    let Q : List Strip → Type 0 = λ ss. (s : ℕ) → IsOverlapping ss s → ⊥ in
    subst Q (all_values (records_of c.args.records.now) c.args.strips.now height c.requires.even.even c.requires.strips same) (subst P c.in-None.is c.in_ok-s.ensures)
