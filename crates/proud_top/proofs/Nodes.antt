-- The nodes of points: each point has exactly one.
use Rattle.std.proofs.Common.{◌≡◌, ◌⊎◌, ℕ, zero, suc, ◌+◌, ◌-◌, ◌<◌, ◌≤◌, Bool, true, false, List, [], length, refl, sym, ◌∙◌, ap, subst, inl, inr, arith}
use Rattle.std.specs.Prelude.{pos}
use Rattle.std.specs.List.{count_by}
use Rattle.std.proofs.lemmas.Bool.{cases_lt, cases_order}
use Rattle.std.proofs.lemmas.List.Sums.{count_by_more_yes, count_by_more_no}
use Rattle.std.proofs.Math.Seq.{take-length}
use Rattle.book_files.specs.declared.orient.Orient.TheVariants.{N}
use Rattle.book_design.specs.Values.{NodeValue}
use Rattle.book_design.specs.Points.{is_movable, node_value_at, movable_before, IsNodeOf}

-- what stands past the end
abbrev pub no_node : NodeValue
no_node = record { name = []; width = pos 0; height = pos 0; x = pos 0; y = pos 0; orient = N; fixed = true; overlap = false }

-- one more node is one more movable one, or none
record Step (nodes : List NodeValue) (n : ℕ) : Type 0 where
  at_least : movable_before nodes n ≤ movable_before nodes (n + 1)
  at_most : movable_before nodes (n + 1) ≤ movable_before nodes n + 1
  more : is_movable (node_value_at nodes n) ≡ true → movable_before nodes (n + 1) ≡ movable_before nodes n + 1

step : (nodes : List NodeValue) (n : ℕ) → n < length nodes → Step nodes n
step nodes n there = by_test (is_movable (node_value_at nodes n)) refl where
  by_test : (b : Bool) → is_movable (node_value_at nodes n) ≡ b → Step nodes n
  by_test true e = let yes : movable_before nodes (n + 1) ≡ movable_before nodes n + 1 = count_by_more_yes is_movable nodes n no_node there e in
      record { at_least = omega arith; at_most = omega arith; more = λ is. yes }
  by_test false e = let none : movable_before nodes (n + 1) ≡ movable_before nodes n = count_by_more_no is_movable nodes n no_node there e in
      record { at_least = omega arith; at_most = omega arith; more = λ is. absurd (let clash : ⊥ = cc in clash) }

grows : (nodes : List NodeValue) (i k : ℕ) → i + k ≤ length nodes → movable_before nodes i ≤ movable_before nodes (i + k)
grows nodes i zero within =
    let P : ℕ → Type 0 = λ j. movable_before nodes i ≤ movable_before nodes j in
    let same : i ≡ i + 0 = omega arith in
    subst P same (omega arith)
grows nodes i (suc k) within =
    let P : ℕ → Type 0 = λ j. movable_before nodes i ≤ movable_before nodes j in
    let same : (i + k) + 1 ≡ i + suc k = omega arith in
    let s = step nodes (i + k) (omega arith) in
    let ih = grows nodes i k (omega arith) in
    subst P same (omega (arith, s.at_least, ih))

-- a later node is another point
later : (nodes : List NodeValue) (p i j : ℕ) → IsNodeOf nodes p i → IsNodeOf nodes p j → i < j → ⊥
later nodes p i j a b before =
    let s = step nodes i a.there in
    let j_is : (i + 1) + (j - (i + 1)) ≡ j = omega arith in
    let g = grows nodes (i + 1) (j - (i + 1)) (omega (arith, j_is, b.there)) in
    let e = ap (movable_before nodes) j_is in
    omega (arith, g, e, s.more a.movable, a.number, b.number)

pub one_node : (nodes : List NodeValue) (p i j : ℕ) → IsNodeOf nodes p i → IsNodeOf nodes p j → i ≡ j
one_node nodes p i j a b = by_order (cases_order i j) where
  by_order : (i ≡ j) ⊎ ((i < j) ⊎ (j < i)) → i ≡ j
  by_order (inl same) = same
  by_order (inr (inl before)) = absurd (later nodes p i j a b before)
  by_order (inr (inr behind)) = absurd (later nodes p j i b a behind)

-- the last of so many nodes is the point, or an earlier one is
last_or_before : (nodes : List NodeValue) (p n : ℕ) (b : Bool) → is_movable (node_value_at nodes n) ≡ b → n < length nodes → p < movable_before nodes (n + 1) → movable_before nodes n ≤ p → (i : ℕ) × IsNodeOf nodes p i
last_or_before nodes p n true e there lt past =
    let s = step nodes n there in
    (n, record { there = there; movable = e; number = omega (arith, s.at_most, lt, past) })
last_or_before nodes p n false e there lt past =
    let none : movable_before nodes (n + 1) ≡ movable_before nodes n = count_by_more_no is_movable nodes n no_node there e in
    absurd (omega (arith, none, lt, past))

some_node : (nodes : List NodeValue) (p n : ℕ) → n ≤ length nodes → p < movable_before nodes n → (i : ℕ) × IsNodeOf nodes p i
some_node nodes p zero within below = absurd (omega arith)
some_node nodes p (suc n) within below =
    let more : n + 1 ≡ suc n = omega arith in
    let lt : p < movable_before nodes (n + 1) = omega (arith, ap (movable_before nodes) more, below) in
    elim (cases_lt p (movable_before nodes n)) [
      | inl before ↦ some_node nodes p n (omega arith) before
      | inr past ↦ last_or_before nodes p n (is_movable (node_value_at nodes n)) refl (omega arith) lt past
    ]

-- each point is a node
pub node_there : (nodes : List NodeValue) (p : ℕ) → p < count_by is_movable nodes → (i : ℕ) × IsNodeOf nodes p i
node_there nodes p below =
    let P : List NodeValue → Type 0 = λ xs. p < count_by is_movable xs in
    some_node nodes p (length nodes) (omega arith) (subst P (sym (take-length nodes)) below)

-- and a node's point is one of the points
pub point_there : (nodes : List NodeValue) (p i : ℕ) → IsNodeOf nodes p i → p < count_by is_movable nodes
point_there nodes p i h =
    let s = step nodes i h.there in
    let rest : (i + 1) + (length nodes - (i + 1)) ≡ length nodes = let there = h.there in omega arith in
    let g = grows nodes (i + 1) (length nodes - (i + 1)) (omega (arith, rest)) in
    let all : movable_before nodes ((i + 1) + (length nodes - (i + 1))) ≡ count_by is_movable nodes = ap (movable_before nodes) rest ∙ ap (count_by is_movable) (take-length nodes) in
    omega (arith, s.more h.movable, g, all, h.number)
