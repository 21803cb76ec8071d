-- Quotients of a side, by a power of two and by two once more: what bounds them, and how a solve's numbers follow from halved ones.
use Rattle.std.proofs.Common.{◌≡◌, ℕ, ◌+◌, ◌*◌, ◌/◌, ◌^◌, ◌<◌, ◌≤◌, sym, arith}
use Rattle.std.proofs.Math.Nat.{div-mul-le_self, mul-le-mul_left, le_antisymm, le_trans}
use Rattle.std.proofs.lemmas.Grind.{div_ceil_times}
use Rattle.std.proofs.lemmas.Nat.{pow_pos, pow-add, shr-shr}
use Rattle.std.specs.Int.{div_ceil}
use Rattle.relax_system.specs.declared.side.Side.{Side}
use Rattle.relax_system.specs.declared.side.Side.TheVariants.{Floor, Ceil}
use Rattle.relax_system.specs.Rounding.{rounded}
use Rattle.relax_system.specs.Sides.{Before, apart, further_of}
use Rattle.relax_system.proofs.Division.{div-low, div-high, div_ceil-low, div_ceil-high}

pub rounded-low : (side : Side) (b d m : ℕ) → 0 < d → d * m ≤ b → m ≤ rounded side b d
rounded-low Floor b d m p h = div-low b d m p h
rounded-low Ceil b d m p h = div_ceil-low b d m p h

pub rounded-high : (side : Side) (b d m : ℕ) → 0 < d → b ≤ d * m → rounded side b d ≤ m
rounded-high Floor b d m p h = div-high b d m h
rounded-high Ceil b d m p h = div_ceil-high b d m p h

pub rounded-zero : (side : Side) → rounded side 0 2 ≡ 0
rounded-zero Floor = omega arith
rounded-zero Ceil = omega arith

pub rounded-one : (side : Side) (b : ℕ) → rounded side b 1 ≡ b
rounded-one Floor b = omega arith
rounded-one Ceil b = omega arith

-- a number is at least its rounded-down quotient times the divisor, and at most its rounded-up one times it
pub above_floor : (b d : ℕ) → d * (b / d) ≤ b
above_floor b d = omega (arith, div-mul-le_self b d)

pub below_ceil : (b d : ℕ) → 0 < d → b ≤ d * div_ceil b d
below_ceil b d p = omega (arith, (div_ceil_times b d p).0)

-- the same of products with a weight
up_product : (w x q b d : ℕ) → b ≤ w * x → x ≤ d * q → b ≤ d * (w * q)
up_product w x q b d h k = omega (arith, h, mul-le-mul_left w k)

down_product : (w x q b d : ℕ) → w * x ≤ b → d * q ≤ x → d * (w * q) ≤ b
down_product w x q b d h k = omega (arith, h, mul-le-mul_left w k)

pub times_floor : (w lo b d : ℕ) → w * lo ≤ b → d * (w * (lo / d)) ≤ b
times_floor w lo b d h = down_product w lo (lo / d) b d h (above_floor lo d)

pub times_ceil : (w hi b d : ℕ) → 0 < d → b ≤ w * hi → b ≤ d * (w * div_ceil hi d)
times_ceil w hi b d p h = up_product w hi (div_ceil hi d) b d h (below_ceil hi d p)

-- over a number, and then over two
times_two : (b d q : ℕ) → b ≤ d * 2 * q → b ≤ d * (2 * q)
times_two b d q h = omega arith

two_times : (b d x q : ℕ) → b ≤ d * x → x ≤ 2 * q → b ≤ d * 2 * q
two_times b d x q h k = omega (arith, h, mul-le-mul_left d k)

twice_positive : (d : ℕ) → 0 < d → 0 < d * 2
twice_positive d p = omega arith

div_ceil-twice : (b d : ℕ) → 0 < d → div_ceil (div_ceil b d) 2 ≡ div_ceil b (d * 2)
div_ceil-twice b d p = le_antisymm
    (div_ceil-high (div_ceil b d) 2 _ (omega arith) (div_ceil-high b d _ p (times_two b d _ (below_ceil b (d * 2) (twice_positive d p)))))
    (div_ceil-high b (d * 2) _ (twice_positive d p) (two_times b d _ _ (below_ceil b d p) (below_ceil (div_ceil b d) 2 (omega arith))))

-- over a power of two, and then over two
pub div_ceil-next : (b shift : ℕ) → div_ceil b (2 ^ (shift + 1)) ≡ div_ceil (div_ceil b (2 ^ shift)) 2
div_ceil-next b shift = rw (pow-add 2 shift 1) (sym (div_ceil-twice b (2 ^ shift) (pow_pos shift)))

pub rounded-next : (side : Side) (b shift : ℕ) → rounded side b (2 ^ (shift + 1)) ≡ rounded side (rounded side b (2 ^ shift)) 2
rounded-next Floor b shift = sym (shr-shr b shift 1)
rounded-next Ceil b shift = div_ceil-next b shift

-- twice the half of a number stands before it, and so do twice a sum and twice a product
pub half-before : (side : Side) (x : ℕ) → Before side (2 * rounded side x 2) x
half-before Floor x = omega arith
half-before Ceil x = omega arith

pub twice-mono : (side : Side) (x y : ℕ) → Before side x y → Before side (2 * x) (2 * y)
twice-mono Floor x y h = omega arith
twice-mono Ceil x y h = omega arith

pub twice_sum : (side : Side) (a a' b b' : ℕ) → Before side (2 * a) b → Before side (2 * a') b' → Before side (2 * (a + a')) (b + b')
twice_sum Floor a a' b b' h k = omega arith
twice_sum Ceil a a' b b' h k = omega arith

pub twice_product : (side : Side) (w a b : ℕ) → Before side (2 * a) b → Before side (2 * (w * a)) (w * b)
twice_product Floor w a b h = omega (arith, mul-le-mul_left w h)
twice_product Ceil w a b h = omega (arith, mul-le-mul_left w h)

-- where a quotient stands before a number, the quotient of a half stands before the number's half
floor_product : (w q half sum : ℕ) → w * q ≤ half → 2 * half ≤ sum → w * (2 * q) ≤ sum
floor_product w q half sum h k = omega arith

ceil_product : (w q half sum : ℕ) → half ≤ w * q → sum ≤ 2 * half → sum ≤ w * (2 * q)
ceil_product w q half sum h k = omega arith

pub half-quiet : (side : Side) (half sum w x : ℕ) → 0 < w → Before side (2 * half) sum → Before side (rounded side sum w) x → Before side (rounded side half w) (rounded side x 2)
half-quiet Floor half sum w x p h k = div-low x 2 (half / w) (omega arith) (le_trans (div-low sum w (2 * (half / w)) p (floor_product w (half / w) half sum (above_floor half w) h)) k)
half-quiet Ceil half sum w x p h k = div_ceil-high x 2 (div_ceil half w) (omega arith) (le_trans k (div_ceil-high sum w (2 * div_ceil half w) p (ceil_product w (div_ceil half w) half sum (below_ceil half w p) h)))

-- One step, from the start s of a box to v: the way of the halved step to y, and from there doubled to v, is no longer.
pub step_apart : (side : Side) (s y v : ℕ) → Before side (rounded side s 2) y → Before side (2 * y) v → Before side s v → apart side (rounded side s 2) y + apart side (further_of side s (2 * y)) v ≤ apart side s v
step_apart Floor s y v h k l = omega arith
step_apart Ceil s y v h k l = omega arith
