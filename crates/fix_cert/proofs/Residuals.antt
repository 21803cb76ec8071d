-- An entry is its rounded mean exactly where the equation leaves from 0 to less than the total weight.
use Rattle.std.proofs.Common.{◌≡◌, ℕ, ◌+◌, ◌*◌, ◌/◌, ◌≤◌, ⊎_elim, arith}
use Rattle.std.specs.Int.{div_ceil}
use Rattle.std.proofs.Math.Nat.{mul-le-mul_left}
use Rattle.std.proofs.lemmas.Nat.{le-div, div_below}
use Rattle.std.proofs.lemmas.Bool.{cases_lt}
use Rattle.std.proofs.lemmas.Grind.{div_ceil_times}
use Rattle.relax_system.proofs.Division.{div_ceil-high}
use Rattle.fix_cert.specs.Forms.Reading.{IsResidual}

pub floor_from_residual : (x k q : ℕ) → 1 ≤ k → IsResidual x (k * q) k → q ≡ x / k
floor_from_residual x k q p h = omega (arith, le-div q x k p (omega (arith, h.low)), div_below x k (q + 1) p (omega (arith, h.high)))

pub residual_from_ceil : (x k q : ℕ) → 1 ≤ k → q ≡ div_ceil x k → IsResidual (k * q) x k
residual_from_ceil x k q p e = rw e (record { low = omega (arith, (div_ceil_times x k p).0); high = omega (arith, (div_ceil_times x k p).1) })

pub ceil_from_residual : (x k q : ℕ) → 1 ≤ k → IsResidual (k * q) x k → q ≡ div_ceil x k
ceil_from_residual x k q p h = ⊎_elim
    (λ less. absurd (omega (arith, h.high, (div_ceil_times x k p).0, mul-le-mul_left k less)))
    (λ more. omega (arith, more, div_ceil-high x k q p h.low))
    (cases_lt (div_ceil x k) q)
