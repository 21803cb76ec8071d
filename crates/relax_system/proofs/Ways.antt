-- Coordinates on the two ways, by the two cases of the side.
use Rattle.std.proofs.Common.{◌≡◌, ◌≢◌, ℕ, ◌+◌, ◌-◌, ◌≤◌, arith}
use Rattle.relax_system.specs.declared.side.Side.{Side}
use Rattle.relax_system.specs.declared.side.Side.TheVariants.{Floor, Ceil}
use Rattle.relax_system.specs.Sides.{Before, further_of, apart}

pub further-first : (side : Side) (a b : ℕ) → Before side a (further_of side a b)
further-first Floor a b = omega arith
further-first Ceil a b = omega arith

pub further-second : (side : Side) (a b : ℕ) → Before side b (further_of side a b)
further-second Floor a b = omega arith
further-second Ceil a b = omega arith

pub further-within : (side : Side) (a b c : ℕ) → Before side a c → Before side b c → Before side (further_of side a b) c
further-within Floor a b c h k = omega arith
further-within Ceil a b c h k = omega arith

pub further-low : (side : Side) (a b c : ℕ) → c ≤ a → c ≤ b → c ≤ further_of side a b
further-low Floor a b c h k = omega arith
further-low Ceil a b c h k = omega arith

pub further-high : (side : Side) (a b c : ℕ) → a ≤ c → b ≤ c → further_of side a b ≤ c
further-high Floor a b c h k = omega arith
further-high Ceil a b c h k = omega arith

pub apart-add : (side : Side) (a b c : ℕ) → Before side a b → Before side b c → apart side a c ≡ apart side a b + apart side b c
apart-add Floor a b c h k = omega arith
apart-add Ceil a b c h k = omega arith

pub apart-self : (side : Side) (a : ℕ) → apart side a a ≡ 0
apart-self Floor a = omega arith
apart-self Ceil a = omega arith

pub apart-positive : (side : Side) (a b : ℕ) → Before side a b → b ≢ a → 1 ≤ apart side a b
apart-positive Floor a b h n = omega arith
apart-positive Ceil a b h n = omega arith

pub apart-within : (side : Side) (a b lo hi : ℕ) → lo ≤ a → a ≤ hi → lo ≤ b → b ≤ hi → apart side a b ≤ hi - lo
apart-within Floor a b lo hi h k l m = omega arith
apart-within Ceil a b lo hi h k l m = omega arith
