-- The decimal of a number of millionths that isn't negative: its whole part, and what is left of it.
use Rattle.std.proofs.Common.{◌≡◌, ℕ, ◌^◌, ◌/◌, ◌%◌, ◌<◌, Bool, List, [], ◌∷◌, ◌++◌, decimal, pos, ◌∙◌, ap, arith}
use Rattle.std.specs.Prelude.{ℤ, if◌then◌else◌}
use mir.Syntax.{w128}
use mir.Val.{to_z, of_z}
use Rattle.std.proofs.lemmas.Int.{to_z_pos}
use Rattle.std.proofs.lemmas.Bool.{le-ltb}
use Rattle.std.proofs.lemmas.Fmt.{decimal_digit}
use Rattle.book_text.specs.Decimal.{canonical, fraction_text}

pub canonical_parts : (n : ℕ) → canonical (pos n) ≡ decimal (n / 1000000) ++ fraction_text (n % 1000000)
canonical_parts n = ap (λ (b : Bool). (if b then 45 ∷ [] else []) ++ (decimal (n / 1000000) ++ fraction_text (n % 1000000))) (le-ltb n 0 (omega arith))

pub canonical_of_less : (n : ℕ) → n < 1000000 → canonical (pos n) ≡ 48 ∷ fraction_text n
canonical_of_less n small =
    let none : n / 1000000 ≡ 0 = omega arith in
    let rest : n % 1000000 ≡ n = omega arith in
    let zero_digit : decimal 0 ≡ 48 ∷ [] = decimal_digit 0 (omega arith) in
    canonical_parts n ∙ ap (λ (q : ℕ). decimal q ++ fraction_text (n % 1000000)) none ∙ ap (λ (ds : List ℕ). ds ++ fraction_text (n % 1000000)) zero_digit ∙ ap (λ (r : ℕ). 48 ∷ fraction_text r) rest

-- what was put of it behind nothing
pub put_of_less : (items start : List ℕ) (z : ℤ) (n : ℕ) → start ≡ [] → z ≡ pos n → n < 1000000 → items ≡ start ++ canonical (to_z w128 (of_z w128 z)) → items ≡ 48 ∷ fraction_text n
put_of_less items start z n empty is small put =
    let wide : n < 2 ^ 127 = omega arith in
    let same : to_z w128 (of_z w128 z) ≡ pos n = ap (λ (y : ℤ). to_z w128 (of_z w128 y)) is ∙ to_z_pos w128 n wide in
    put ∙ ap (λ (s : List ℕ). s ++ canonical (to_z w128 (of_z w128 z))) empty ∙ ap canonical same ∙ canonical_of_less n small
