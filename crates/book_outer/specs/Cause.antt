-- Counts of faults, and the cause of an answer Failed.
use Rattle.std.specs.Prelude.{◌≡◌, ℕ, ◌+◌, ◌-◌, ◌^◌, ◌≤◌, min, Result, IsErrOf}
use Rattle.book_outer.specs.declared.trouble.Trouble.{Trouble}
use Rattle.book_outer.specs.declared.trouble.Trouble.TheVariants.{Failed}

-- one more, but a count stands still at the greatest u64
abbrev pub one_more : ℕ → ℕ
one_more count = min (count + 1) (2 ^ 64 - 1)

-- A count rose: it is larger than before, or stands at the greatest u64.
abbrev pub Rose : ℕ → ℕ → Type 0
Rose before now = one_more before ≤ now

-- A count of faults never falls, and stays at the greatest u64 once it is there. A call that answers Failed raises it by one, and any other answer leaves it as it was.
pub record HasCause {T : Type 0} (before now : ℕ) (result : Result T Trouble) : Type 0 where
  pub later : before ≤ now
  pub failed : IsErrOf result Failed → now ≡ one_more before
  pub kept : (IsErrOf result Failed → ⊥) → now ≡ before
  pub bounded : before ≤ 2 ^ 64 - 1 → now ≤ 2 ^ 64 - 1
