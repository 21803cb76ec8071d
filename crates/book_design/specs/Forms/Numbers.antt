-- Look-ups of names: the number of the last line that has a name.
use Rattle.std.specs.Prelude.{◌≡◌, ◌≢◌, ℕ, ◌<◌, List, Option, Some, None}
use Rattle.std.specs.Borrow.{Bor}
use Rattle.std.specs.Ordering.{nat_cmp}
use Rattle.std.specs.Cmp.Lexicographic.{slice_cmp}
use Rattle.std.specs.BTreeMap.{BTreeMap, get_by}

-- what a map from names has at a name
abbrev pub number_in : BTreeMap (Bor (List ℕ)) ℕ → List ℕ → Option ℕ
number_in numbers name = get_by (λ k. slice_cmp nat_cmp name k.now) numbers

-- of the first so many lines, that one is the last to have the name
pub record IsLast (name_at : ℕ → List ℕ) (count : ℕ) (name : List ℕ) (i : ℕ) : Type 0 where
  pub there : i < count
  pub same : name_at i ≡ name
  pub none_after : (k : ℕ) → i < k → k < count → name_at k ≢ name

-- the last of the first so many lines that has the name, or none where none has it
abbrev pub IsLastNumber : (ℕ → List ℕ) → ℕ → List ℕ → Option ℕ → Type 0
IsLastNumber name_at count name None = (k : ℕ) → k < count → name_at k ≢ name
IsLastNumber name_at count name (Some i) = IsLast name_at count name i

-- the look-up finds the last of the first so many lines that has a name
pub record AreNumbers (name_at : ℕ → List ℕ) (count : ℕ) (numbers : BTreeMap (Bor (List ℕ)) ℕ) : Type 0 where
  pub last : (name : List ℕ) → IsLastNumber name_at count name (number_in numbers name)
