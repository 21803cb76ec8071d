-- Systems with shorter numbers: each coordinate over 2 ^ shift. A solve with few digits comes first, and each next one, with one
-- halving less, begins at twice what the one before it has found.
use Rattle.std.specs.Prelude.{ℕ, ◌+◌, ◌*◌, ◌/◌, ◌^◌, ◌≤◌, List, map, sum_by}
use Rattle.std.specs.Int.{div_ceil}
use Rattle.std.specs.List.{range_with_len, zip}
use Rattle.relax_system.specs.declared.side.Side.{Side}
use Rattle.relax_system.specs.declared.points.Point.{Point}
use Rattle.relax_system.specs.Rounding.{rounded}
use Rattle.relax_system.specs.Sides.{further_of, distance, start_of, starts_of, IsExtremal}

-- The neighbours and all weights stay. The box is widened to whole multiples of 2 ^ shift, and the constants' sum is rounded to
-- the side.
abbrev pub halved_point : Side → ℕ → Point → Point
halved_point side shift p = record { lo = p.lo / 2 ^ shift; hi = div_ceil p.hi (2 ^ shift); near = p.near; anchor = p.anchor; anchored = rounded side p.anchored (2 ^ shift) }

abbrev pub halved : Side → ℕ → List Point → List Point
halved side shift points = map (halved_point side shift) points

-- where a solve begins that follows one with one halving more, which has found y: at twice its entries, within the boxes
abbrev pub doubled : Side → List Point → List ℕ → List ℕ
doubled side points y = map (λ e. further_of side (start_of side e.0) (2 * e.1)) (zip points y)

-- what the solves with so many halvings and with fewer find
abbrev pub IsCascade : Side → List Point → ℕ → (ℕ → List ℕ) → Type 0
IsCascade side points most found = (shift : ℕ) → shift ≤ most → IsExtremal side (halved side shift points) (found shift)

-- how far they go, all together: the first one from the ends of the boxes, each other one from the doubled entries
abbrev pub cascade_way : Side → List Point → ℕ → (ℕ → List ℕ) → ℕ
cascade_way side points most found = distance side (starts_of side (halved side most points)) (found most) + sum_by (λ shift. distance side (doubled side (halved side shift points) (found (shift + 1))) (found shift)) (range_with_len 0 most)
