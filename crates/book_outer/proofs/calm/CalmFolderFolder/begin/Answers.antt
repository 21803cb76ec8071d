use Rattle.std.proofs.Common.{◌≡◌, ℕ, ◌≤◌, Bool, true, false, not, ◌&&◌, if◌then◌else◌, is_some, Result, Ok, Err, arith, subst}
use Rattle.book_outer.specs.declared.trouble.Trouble.{Trouble}
use Rattle.book_outer.specs.declared.trouble.Trouble.TheVariants.{Failed}
use Rattle.book_outer.specs.Cause.{one_more, HasCause}
use Rattle.book_outer.specs.Files.{content}
use Rattle.book_outer.specs.Memory.{StoredFiles}
use Rattle.book_outer.proofs.calm.CalmFolderFolder.begin.Goals as goal

-- a call that fails exactly where the name is absent, whose count is that of absent names
counted : (there : Bool) (before now : ℕ) (result : Result (Unit {0}) Trouble) → result ≡ (if there && not false then Ok tt else Err Failed) → now ≡ (if there then before else one_more before)
    → before ≤ now → HasCause before now result
counted true before now result answer count later = record { later = later; failed = λ failed. absurd (cc); kept = λ _. count; bounded = λ least. omega (arith, count) }
counted false before now result answer count later = record { later = later; failed = λ _. omega (arith, count); kept = λ fine. absurd (fine answer); bounded = λ least. omega (arith, count) }

pub returns-clause-cause : goal.returns-clause-cause
returns-clause-cause c =
    let now = c.begin.new.self.missed in
    let P : StoredFiles → Type 0 = λ s. HasCause s.missed now c.begin.result in
    let store = c.self.inside.store in
    let there = is_some (content store.files c.args.name.now) in
    subst P c.self.view_is (counted there store.missed now c.begin.result c.begin.ensures.answer c.begin.ensures.missed c.begin.ensures.later)
