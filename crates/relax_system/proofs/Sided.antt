-- The least and the greatest vector are the extremal vectors of the two sides.
use Rattle.std.proofs.Common.{ℕ, List}
use Rattle.relax_system.specs.declared.side.Side.TheVariants.{Floor, Ceil}
use Rattle.relax_system.specs.declared.points.Point.{Point}
use Rattle.relax_system.specs.Extremal.{IsLeast, IsGreatest}
use Rattle.relax_system.specs.Sides.{IsExtremal}

pub IsLeast-from_extremal : {points : List Point} {v : List ℕ} → IsExtremal Floor points v → IsLeast points v
IsLeast-from_extremal h = record { in_boxes = h.in_boxes; pre_fixed = h.quiet; least = h.first }

pub extremal_from_IsLeast : {points : List Point} {v : List ℕ} → IsLeast points v → IsExtremal Floor points v
extremal_from_IsLeast h = record { in_boxes = h.in_boxes; quiet = h.pre_fixed; first = h.least }

pub IsGreatest-from_extremal : {points : List Point} {v : List ℕ} → IsExtremal Ceil points v → IsGreatest points v
IsGreatest-from_extremal h = record { in_boxes = h.in_boxes; post_fixed = h.quiet; greatest = h.first }

pub extremal_from_IsGreatest : {points : List Point} {v : List ℕ} → IsGreatest points v → IsExtremal Ceil points v
extremal_from_IsGreatest h = record { in_boxes = h.in_boxes; quiet = h.post_fixed; first = h.greatest }
