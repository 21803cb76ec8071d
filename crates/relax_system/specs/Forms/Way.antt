-- The way to the extremal vector: where a sweep may stand, and how far it can still go.
use Rattle.std.specs.Prelude.{ℕ, ◌-◌, List, sum, sum_by}
use Rattle.relax_system.specs.declared.side.Side.{Side}
use Rattle.relax_system.specs.declared.side.Side.TheVariants.{Floor, Ceil}
use Rattle.relax_system.specs.declared.points.Point.{Point}
use Rattle.relax_system.specs.Means.{InBoxes}
use Rattle.relax_system.specs.Sides.{AllBefore, IsQuiet}

-- a vector of the boxes that stands before each quiet vector of the boxes
pub record IsOnWay (side : Side) (points : List Point) (v : List ℕ) : Type 0 where
  pub in_boxes : InBoxes points v
  pub first : (u : List ℕ) → InBoxes points u → IsQuiet side points u → AllBefore side v u

-- how far the entries are from the far ends of their boxes, all together
abbrev pub room : Side → List Point → List ℕ → ℕ
room Floor points v = sum_by (λ p. p.hi) points - sum v
room Ceil points v = sum v
