-- Quotients rounded down and up: what bounds them, and that they grow with the dividend.
use Rattle.std.proofs.Common.{◌≡◌, ℕ, ◌+◌, ◌-◌, ◌*◌, ◌/◌, ◌<◌, ◌≤◌, ⊎_elim, refl, sym, ◌∙◌, arith}
use Rattle.std.proofs.Math.Nat.{div-mul-le_self, div-le_of_le-mul, mul-le-mul_left, mul-add-div}
use Rattle.std.proofs.lemmas.Nat.{le-div}
use Rattle.std.proofs.lemmas.Bool.{cases_lt}
use Rattle.std.proofs.lemmas.Grind.{div_ceil_times}
use Rattle.std.specs.Int.{div_ceil}
use Rattle.relax_system.specs.declared.side.Side.{Side}
use Rattle.relax_system.specs.declared.side.Side.TheVariants.{Floor, Ceil}
use Rattle.relax_system.specs.Rounding.{rounded}

pub div-mono : (a b k : ℕ) → 0 < k → a ≤ b → a / k ≤ b / k
div-mono a b k h le = le-div (a / k) b k h (omega (arith, div-mul-le_self a k))

pub div-high : (a k m : ℕ) → a ≤ k * m → a / k ≤ m
div-high a k m h = div-le_of_le-mul k h

pub div-low : (a k m : ℕ) → 0 < k → k * m ≤ a → m ≤ a / k
div-low a k m p h = le-div m a k p (omega arith)

-- a product below another with the same factor
less : (x y k : ℕ) → x * k < y * k + k → x ≤ y
less x y k h = ⊎_elim (λ lt. absurd (omega (arith, h, mul-le-mul_left k lt))) (λ le. le) (cases_lt y x)

pub div_ceil-high : (a k m : ℕ) → 0 < k → a ≤ k * m → div_ceil a k ≤ m
div_ceil-high a k m p h = less (div_ceil a k) m k (omega (arith, (div_ceil_times a k p).1))

pub div_ceil-low : (a k m : ℕ) → 0 < k → k * m ≤ a → m ≤ div_ceil a k
div_ceil-low a k m p h = less m (div_ceil a k) k (omega (arith, (div_ceil_times a k p).0))

pub div_ceil-mono : (a b k : ℕ) → 0 < k → a ≤ b → div_ceil a k ≤ div_ceil b k
div_ceil-mono a b k p le = less (div_ceil a k) (div_ceil b k) k (omega (arith, (div_ceil_times a k p).1, (div_ceil_times b k p).0))

div-above : (a k m : ℕ) → 0 < k → k * m ≤ a → m + (a - k * m) / k ≡ a / k
div-above a k m p le =
    let whole : k * m + (a - k * m) ≡ a = omega arith in
    sym (mul-add-div p m (a - k * m)) ∙ rw whole refl

div_ceil-above : (a k m : ℕ) → 0 < k → k * m ≤ a → m + div_ceil (a - k * m) k ≡ div_ceil a k
div_ceil-above a k m p le =
    let here = div_ceil_times a k p in
    let there = div_ceil_times (a - k * m) k p in
    let one : m + div_ceil (a - k * m) k ≤ div_ceil a k = less (m + div_ceil (a - k * m) k) (div_ceil a k) k (omega (arith, here.0, there.1)) in
    let other : div_ceil a k ≤ m + div_ceil (a - k * m) k = less (div_ceil a k) (m + div_ceil (a - k * m) k) k (omega (arith, here.1, there.0)) in
    omega arith

-- a multiple of the divisor may be left out, and its quotient put back
pub rounded-above : (side : Side) (a k m : ℕ) → 0 < k → k * m ≤ a → m + rounded side (a - k * m) k ≡ rounded side a k
rounded-above Floor a k m p le = div-above a k m p le
rounded-above Ceil a k m p le = div_ceil-above a k m p le
