-- Sums of whole numbers of either sign, read as differences of two numbers.
use Rattle.std.proofs.Common.{◌≡◌, ℕ, ◌+◌, ◌*◌, List, [], ◌∷◌, arith, ℤ, pos, negsuc, ◌*ℤ◌}
use borrow.Author.Differences.{up, down}
use Rattle.std.proofs.lemmas.Int.{ints}
use Rattle.relax_system.specs.declared.points.Near.{Near}
use Rattle.relax_system.specs.Exact.{signed_at, signed_sum}
use Rattle.relax_system.proofs.Maximum.{weigh, weigh-cons}

-- a product with a weight, in differences
pub product : (w : ℕ) (z : ℤ) → up (pos w *ℤ z) + w * down z ≡ down (pos w *ℤ z) + w * up z
product w (pos n) = omega arith
product w (negsuc n) = omega (arith, ints)

-- the sum over neighbours, in differences
pub sums : (near : List Near) (z : List ℤ) → up (signed_sum near z) + weigh near (λ i. down (signed_at z i)) ≡ down (signed_sum near z) + weigh near (λ i. up (signed_at z i))
sums [] z = omega arith
sums (n ∷ near) z =
    rw (weigh-cons n near (λ i. down (signed_at z i)), weigh-cons n near (λ i. up (signed_at z i))) (omega (arith, ints, sums near z, product n.weight (signed_at z n.point)))
