-- A text has no more lines than bytes.
use Rattle.std.proofs.Common.{◌==◌, ℕ, ◌≤◌, Bool, true, false, if◌then◌else◌, List, [], ◌∷◌, length, arith, suc}
use Rattle.std.specs.List.{onto_first}
use Rattle.book_text.specs.Lines.{lines_of}

length-onto_first : (b : ℕ) (lines : List (List ℕ)) → length (onto_first b lines) ≤ suc (length lines)
length-onto_first b [] = omega arith
length-onto_first b (line ∷ lines) = omega arith

one_line_more : (ends : Bool) (b : ℕ) (lines : List (List ℕ)) (n : ℕ) → length lines ≤ n → length (if ends then [] ∷ lines else onto_first b lines) ≤ suc n
one_line_more true b lines n few = omega arith
one_line_more false b lines n few = omega (arith, length-onto_first b lines)

pub length-lines_of-le : (text : List ℕ) → length (lines_of text) ≤ length text
length-lines_of-le [] = omega arith
length-lines_of-le (b ∷ text) = one_line_more (b == 10) b (lines_of text) (length text) (length-lines_of-le text)
