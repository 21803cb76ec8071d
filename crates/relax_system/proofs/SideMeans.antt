-- Both sides' means: they lie in the box, and they keep the order of vectors.
use Rattle.std.proofs.Common.{◌≡◌, ℕ, ◌<◌, ◌≤◌, List, length, refl, arith}
use Rattle.relax_system.specs.declared.side.Side.{Side}
use Rattle.relax_system.specs.declared.side.Side.TheVariants.{Floor, Ceil}
use Rattle.relax_system.specs.declared.points.Point.{Point}
use Rattle.relax_system.specs.System.{point_at, IsValid}
use Rattle.relax_system.specs.Means.{InBoxes}
use Rattle.relax_system.specs.Sides.{Before, AllBefore, mean_of}
use Rattle.relax_system.proofs.Division.{div-mono, div-high, div-low, div_ceil-mono, div_ceil-high, div_ceil-low}
use Rattle.relax_system.proofs.Pulls.{pull-mono, pull-low, pull-high}

pub Before_refl : (side : Side) (a : ℕ) → Before side a a
Before_refl Floor a = omega arith
Before_refl Ceil a = omega arith

pub Before_trans : (side : Side) (a b c : ℕ) → Before side a b → Before side b c → Before side a c
Before_trans Floor a b c h k = omega arith
Before_trans Ceil a b c h k = omega arith

pub Before_antisym : (side : Side) (a b : ℕ) → Before side a b → Before side b a → a ≡ b
Before_antisym Floor a b h k = omega arith
Before_antisym Ceil a b h k = omega arith

pub mean-low : (side : Side) (points : List Point) (i : ℕ) (v : List ℕ) → IsValid points → i < length points → InBoxes points v → (point_at points i).lo ≤ mean_of side points i v
mean-low Floor points i v valid there h = div-low _ _ _ (valid.each i there).joined (pull-low points i _ v (valid.each i there) refl h)
mean-low Ceil points i v valid there h = div_ceil-low _ _ _ (valid.each i there).joined (pull-low points i _ v (valid.each i there) refl h)

pub mean-high : (side : Side) (points : List Point) (i : ℕ) (v : List ℕ) → IsValid points → i < length points → InBoxes points v → mean_of side points i v ≤ (point_at points i).hi
mean-high Floor points i v valid there h = div-high _ _ _ (pull-high points i _ v (valid.each i there) refl h)
mean-high Ceil points i v valid there h = div_ceil-high _ _ _ (valid.each i there).joined (pull-high points i _ v (valid.each i there) refl h)

pub mean-mono : (side : Side) (points : List Point) (i : ℕ) (u v : List ℕ) → IsValid points → i < length points → AllBefore side u v → Before side (mean_of side points i u) (mean_of side points i v)
mean-mono Floor points i u v valid there h = div-mono _ _ _ (valid.each i there).joined (pull-mono (point_at points i) u v h)
mean-mono Ceil points i u v valid there h = div_ceil-mono _ _ _ (valid.each i there).joined (pull-mono (point_at points i) v u h)
