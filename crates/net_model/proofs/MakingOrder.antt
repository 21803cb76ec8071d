-- The neighbours of a point in the network of a design stand in ascending order.
use Rattle.std.proofs.Common.{◌≡◌, ℕ, zero, suc, ◌+◌, ◌<◌, ◌≤◌, Bool, true, false, ◌||◌, eqb, List, ◌∷◌, length, get_or, map, subst, arith}
use Rattle.std.specs.Prelude.{None, Some, if◌then◌else◌}
use Rattle.std.specs.List.{filter_map, range_with_len, cons_option}
use Rattle.std.specs.List.Sorted.{IsStrictlyIncreasing}
use Rattle.book_design.specs.Values.{DesignValue}
use Rattle.net_model.specs.declared.parts.Near.{Near}
use Rattle.net_model.specs.Network.{point_count, weight_of, as_near, near_of}

abbrev numbers : List Near → List ℕ
numbers near = map (λ entry. entry.point) near

-- the numbers rise, from one that is at least a
record IsRisingFrom (a : ℕ) (xs : List ℕ) : Type 0 where
  low : (k : ℕ) → k < length xs → a ≤ get_or xs k 0
  rising : IsStrictlyIncreasing xs

from_lower : (a : ℕ) (xs : List ℕ) → IsRisingFrom (a + 1) xs → IsRisingFrom a xs
from_lower a xs h = record { low = λ k inside. omega (arith, h.low k inside); rising = h.rising }

with_first : (a : ℕ) (xs : List ℕ) → IsRisingFrom (a + 1) xs → IsRisingFrom a (a ∷ xs)
with_first a xs h = record { low = low; rising = rising } where
  low : (k : ℕ) → k < length (a ∷ xs) → a ≤ get_or (a ∷ xs) k 0
  low zero inside = omega arith
  low (suc k) inside = omega (arith, h.low k (omega arith))

  rising : (k : ℕ) → k + 1 < length (a ∷ xs) → get_or (a ∷ xs) k 0 < get_or (a ∷ xs) (k + 1) 0
  rising zero inside = omega (arith, h.low 0 (omega arith))
  rising (suc k) inside =
      let P : ℕ → Type 0 = λ j. get_or xs k 0 < get_or (a ∷ xs) j 0 in
      let next : suc (k + 1) ≡ suc k + 1 = omega arith in
      let low_next : get_or xs k 0 < get_or xs (k + 1) 0 = h.rising k (omega arith) in
      subst P next low_next

by_test : (a weight : ℕ) (rest : List Near) → IsRisingFrom (a + 1) (numbers rest) → (b : Bool)
    → IsRisingFrom a (numbers (cons_option (if b then None else Some (record { point = a; weight = weight })) rest))
by_test a weight rest h true = from_lower a (numbers rest) h
by_test a weight rest h false = with_first a (numbers rest) h

rising_from : (design : DesignValue) (p a n : ℕ) → IsRisingFrom a (numbers (filter_map (as_near design p) (range_with_len a n)))
rising_from design p a zero = record { low = λ k inside. absurd (omega arith); rising = λ k inside. absurd (omega arith) }
rising_from design p a (suc n) =
    let pair = weight_of design p a in
    by_test a pair (filter_map (as_near design p) (range_with_len (a + 1) n)) (rising_from design p (a + 1) n) (eqb a p || eqb pair 0)

pub near_ascending : (design : DesignValue) (p : ℕ) → IsStrictlyIncreasing (numbers (near_of design p))
near_ascending design p = (rising_from design p 0 (point_count design)).rising
