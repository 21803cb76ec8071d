-- Numbers on the two ways, by the two cases of the side.
use Rattle.std.proofs.Common.{◌≡◌, ℕ, ◌+◌, ◌<◌, ◌≤◌, nat_lt, Bool, true, false, ⊎_elim, arith}
use Rattle.std.proofs.lemmas.Bool.{cases_lt}
use Rattle.std.proofs.lemmas.Bool.Decides.{nat_tests}
use Rattle.relax_system.specs.declared.side.Side.{Side}
use Rattle.relax_system.specs.declared.side.Side.TheVariants.{Floor, Ceil}
use Rattle.relax_system.specs.Sides.{Before, further_of, apart}
use Rattle.relax_table.specs.Ways.{is_past, one_if}

-- a move that is counted leads on by at least 1
pub counted_apart : (side : Side) (a b : ℕ) → one_if (is_past side a b) ≤ apart side a b
counted_apart Floor a b = ⊎_elim (λ (h : a < b). grind (arith, nat_tests)) (λ (h : b ≤ a). grind (arith, nat_tests)) (cases_lt a b)
counted_apart Ceil a b = ⊎_elim (λ (h : b < a). grind (arith, nat_tests)) (λ (h : a ≤ b). grind (arith, nat_tests)) (cases_lt b a)

pub one_if-le : (b : Bool) → one_if b ≤ 1
one_if-le true = omega arith
one_if-le false = omega arith

lt_one : (a b : ℕ) → a < b → one_if (nat_lt a b) ≡ 1
lt_one a b h = grind (arith, nat_tests)

lt_none : (a b : ℕ) → b ≤ a → one_if (nat_lt a b) ≡ 0
lt_none a b h = grind (arith, nat_tests)

lt_on : (s a y : ℕ) → one_if (nat_lt s y) ≤ one_if (nat_lt s a) + one_if (nat_lt a y)
lt_on s a y = ⊎_elim
    (λ (h : s < y). ⊎_elim
    (λ (k : s < a). omega (arith, lt_one s a k, one_if-le (nat_lt s y)))
    (λ (k : a ≤ s). omega (arith, lt_one a y (omega arith), one_if-le (nat_lt s y)))
    (cases_lt s a))
    (λ (h : y ≤ s). omega (arith, lt_none s y h))
    (cases_lt s y)

-- what stands past s stands past a, or a stands past s
pub past_on : (side : Side) (s a y : ℕ) → one_if (is_past side s y) ≤ one_if (is_past side s a) + one_if (is_past side a y)
past_on Floor s a y = lt_on s a y
past_on Ceil s a y = omega (arith, lt_on y a s)

pub past-self : (side : Side) (a : ℕ) → one_if (is_past side a a) ≡ 0
past-self Floor a = lt_none a a (omega arith)
past-self Ceil a = lt_none a a (omega arith)

-- the further of two of which the one is reached by the other
pub further-is_first : (side : Side) (a b c : ℕ) → a ≡ c → Before side b c → further_of side a b ≡ c
further-is_first Floor a b c e h = omega arith
further-is_first Ceil a b c e h = omega arith

pub further-is_second : (side : Side) (a b c : ℕ) → b ≡ c → Before side a c → further_of side a b ≡ c
further-is_second Floor a b c e h = omega arith
further-is_second Ceil a b c e h = omega arith
