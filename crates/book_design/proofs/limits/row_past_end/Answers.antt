use Rattle.std.proofs.Common.{ℕ, Option, MatchOption, subst}
use Rattle.book_design.specs.Faults.{IsFirst}
use Rattle.book_design.specs.Forms.Sources.{records_of}
use Rattle.book_design.specs.Forms.ValueLimits.{IsHigh, IsWide}
use Rattle.book_design.proofs.ValuesEnds.{none_past, high_first, wide_first, both_first}
use Rattle.book_design.proofs.limits.row_past_end.Goals as goal

pub returns-in-Some-Some : goal.returns-in-Some-Some
returns-in-Some-Some c =
    both_first (records_of c.args.records.now) c.args.strips.now c.in-Some-Some.row c.in-Some-Some.s c.min.result _ c.requires.strips c.in-Some-Some.ensures c.in-Some-Some.ensures' c.min.ensures

pub returns-in-Some-None : goal.returns-in-Some-None
returns-in-Some-None c = high_first (records_of c.args.records.now) c.args.strips.now c.in-Some-None.row c.requires.strips c.in-Some-None.ensures c.in-Some-None.ensures'

pub returns-in-None-Some : goal.returns-in-None-Some
returns-in-None-Some c =
    let P : Option ℕ → Type 0 = λ o. MatchOption o ((r : ℕ) → IsHigh (records_of c.args.records.now) r → ⊥) (IsFirst (IsHigh (records_of c.args.records.now))) in
    wide_first (records_of c.args.records.now) c.args.strips.now c.in-None-Some.s _ c.requires.strips (subst P c.in-None-Some.is-0 c.high_row.ensures) c.in-None-Some.ensures

pub returns-in-None-None : goal.returns-in-None-None
returns-in-None-None c =
    let P : Option ℕ → Type 0 = λ o. MatchOption o ((r : ℕ) → IsHigh (records_of c.args.records.now) r → ⊥) (IsFirst (IsHigh (records_of c.args.records.now))) in
    let Q : Option ℕ → Type 0 = λ o. MatchOption o ((s : ℕ) → IsWide c.args.strips.now s → ⊥) (IsFirst (IsWide c.args.strips.now)) in
    none_past (records_of c.args.records.now) c.args.strips.now c.requires.strips (subst P c.in-None-None.is-0 c.high_row.ensures) (subst Q c.in-None-None.is-1 c.wide_strip.ensures)
