-- The commas of a grid's word part its three decimals.
use Rattle.std.proofs.Common.{◌≡◌, ◌≢◌, ℕ, suc, ◌<◌, ◌^◌, List, [], ◌∷◌, ◌++◌, length, get_or, decimal, Bor, MatchOption, refl, sym, ◌∙◌, append_assoc, arith}
use Rattle.std.specs.Prelude.{Option}
use Rattle.std.specs.Str.Parse.{AllDigits}
use Rattle.std.proofs.lemmas.Fmt.{decimal_is_IsNumeral, decimal_injective}
use Rattle.std.proofs.lemmas.Str.Parse.{numerals_by_value, tells_digits, not_in_digits}
use Rattle.std.proofs.lemmas.Str.Pattern.{IsSplitOnceResult, split_after}
use Rattle.grid_design.specs.declared.asked.Grid.{Grid}
use Rattle.grid_design.specs.Asked.{IsSide, IsGridWord}

abbrev pub HasNoComma : List ℕ → Type 0
HasNoComma text = (i : ℕ) → i < length text → get_or text i 0 ≢ 44

pub decimal_has_none : (n : ℕ) → n < 2 ^ 64 → HasNoComma (decimal n)
decimal_has_none n small = not_in_digits (numerals_by_value (AllDigits 10) tells_digits) (decimal n) 44 (decimal_is_IsNumeral n small).0.1 (λ range. omega arith)

-- two texts that are the same, each with its first comma
pub same_parts : (xs vs ys ws : List ℕ) → HasNoComma xs → HasNoComma ys → xs ++ 44 ∷ vs ≡ ys ++ 44 ∷ ws → (xs ≡ ys) × (vs ≡ ws)
same_parts [] vs [] ws free other e = (refl, cc)
same_parts [] vs (y ∷ ys) ws free other e = let is : y ≡ 44 = cc in absurd (other 0 (omega arith) is)
same_parts (x ∷ xs) vs [] ws free other e = let is : x ≡ 44 = cc in absurd (free 0 (omega arith) is)
same_parts (x ∷ xs) vs (y ∷ ys) ws free other e =
    let head : x ≡ y = cc in
    let tail : xs ++ 44 ∷ vs ≡ ys ++ 44 ∷ ws = cc in
    let rest : (xs ≡ ys) × (vs ≡ ws) = same_parts xs vs ys ws (λ i h. free (suc i) (omega arith)) (λ i h. other (suc i) (omega arith)) tail in
    let front : xs ≡ ys = rest.0 in
    (cc, rest.1)

-- the word of a grid, from left to right
abbrev pub word_of : Grid → List ℕ
word_of grid = decimal grid.rows ++ 44 ∷ (decimal grid.columns ++ 44 ∷ decimal grid.number)

pub opened : (word : List ℕ) (grid : Grid) → IsGridWord word grid → word ≡ word_of grid
opened word grid is = IsGridWord.is_text is ∙ simp append_assoc

pub closed : (word : List ℕ) (grid : Grid) → IsSide grid.rows → IsSide grid.columns → grid.number < 2 ^ 64 → word ≡ word_of grid → IsGridWord word grid
closed word grid rows columns number is = record { rows = rows; columns = columns; number = number; is_text = is ∙ sym (simp append_assoc) }

abbrev grid_of : ℕ → ℕ → ℕ → Grid
grid_of rows columns number = record { rows = rows; columns = columns; number = number }

pub one_grid : (word : List ℕ) (one other : Grid) → IsGridWord word one → IsGridWord word other → one ≡ other
one_grid word one other is also =
    let rows : one.rows < 2 ^ 64 = omega (arith, IsGridWord.rows is) in
    let rows_too : other.rows < 2 ^ 64 = omega (arith, IsGridWord.rows also) in
    let columns : one.columns < 2 ^ 64 = omega (arith, IsGridWord.columns is) in
    let columns_too : other.columns < 2 ^ 64 = omega (arith, IsGridWord.columns also) in
    let texts : word_of one ≡ word_of other = sym (opened word one is) ∙ opened word other also in
    let first = same_parts (decimal one.rows) (decimal one.columns ++ 44 ∷ decimal one.number) (decimal other.rows) (decimal other.columns ++ 44 ∷ decimal other.number) (decimal_has_none one.rows rows) (decimal_has_none other.rows rows_too) texts in
    let second = same_parts (decimal one.columns) (decimal one.number) (decimal other.columns) (decimal other.number) (decimal_has_none one.columns columns) (decimal_has_none other.columns columns_too) first.1 in
    let same_rows : one.rows ≡ other.rows = decimal_injective one.rows other.rows rows rows_too first.0 in
    let same_columns : one.columns ≡ other.columns = decimal_injective one.columns other.columns columns columns_too second.0 in
    let same_number : one.number ≡ other.number = decimal_injective one.number other.number (IsGridWord.number is) (IsGridWord.number also) second.1 in
    same_grid one.rows other.rows one.columns other.columns one.number other.number same_rows same_columns same_number
  where
    same_grid : (rows rows_too columns columns_too number number_too : ℕ) → rows ≡ rows_too → columns ≡ columns_too → number ≡ number_too → grid_of rows columns number ≡ grid_of rows_too columns_too number_too
    same_grid rows rows_too columns columns_too number number_too e f g = rw (e, f, g) refl

-- what stands before and behind the first comma of a grid's word
pub first_cut : (word : List ℕ) (grid : Grid) (cut : Option (Bor (List ℕ) × Bor (List ℕ))) → IsSplitOnceResult 44 word cut → IsGridWord word grid
    → MatchOption cut ⊥ (λ parts. (parts.0.now ≡ decimal grid.rows) × (parts.1.now ≡ decimal grid.columns ++ 44 ∷ decimal grid.number))
first_cut word grid cut split is =
    let rows : grid.rows < 2 ^ 64 = omega (arith, IsGridWord.rows is) in
    split_after 44 word (decimal grid.rows) (decimal grid.columns ++ 44 ∷ decimal grid.number) cut split (omega arith) (opened word grid is) (decimal_has_none grid.rows rows)

-- and behind the second
pub second_cut : (rest : List ℕ) (columns number : ℕ) (cut : Option (Bor (List ℕ) × Bor (List ℕ))) → IsSplitOnceResult 44 rest cut → IsSide columns → rest ≡ decimal columns ++ 44 ∷ decimal number
    → MatchOption cut ⊥ (λ parts. (parts.0.now ≡ decimal columns) × (parts.1.now ≡ decimal number))
second_cut rest columns number cut split side is =
    let small : columns < 2 ^ 64 = omega (arith, side) in
    split_after 44 rest (decimal columns) (decimal number) cut split (omega arith) is (decimal_has_none columns small)
