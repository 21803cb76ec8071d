use Rattle.std.proofs.Common.{ℕ, List}
use Rattle.relax_system.specs.declared.points.Point.{Point}
use Rattle.relax_system.specs.declared.side.Side.TheVariants.{Floor, Ceil}
use Rattle.relax_system.specs.System.{IsValid, point_at, total_weight}
use Rattle.relax_system.specs.Means.{pull}
use Rattle.relax_system.specs.Extremal.{IsLeast, IsGreatest}
use Rattle.relax_system.specs.Exact.{HasLowerResiduals, HasUpperResiduals}
use Rattle.relax_system.proofs.Extremes.{extremal_fixed}
use Rattle.relax_system.proofs.Sided.{extremal_from_IsLeast, extremal_from_IsGreatest}
use Rattle.relax_system.proofs.Residuals.{lower_from_fixed, upper_from_fixed, floor-le-ceil}
use Rattle.relax_system.proofs.Enclosing.{between}
use Rattle.relax_system.proofs.laws.enclosure.Goals as goal

lower : (points : List Point) (lo : List ℕ) → IsValid points → IsLeast points lo → HasLowerResiduals points lo
lower points lo valid h = lower_from_fixed points lo valid (extremal_fixed Floor points lo valid (extremal_from_IsLeast h))

upper : (points : List Point) (hi : List ℕ) → IsValid points → IsGreatest points hi → HasUpperResiduals points hi
upper points hi valid h = upper_from_fixed points hi valid (extremal_fixed Ceil points hi valid (extremal_from_IsGreatest h))

-- the least vector is post-fixed
pub returns-clause-ordered : goal.returns-clause-ordered
returns-clause-ordered c = λ points lo hi valid h k.
    let fixed = extremal_fixed Floor points lo valid (extremal_from_IsLeast h) in
    k.greatest lo h.in_boxes (λ i there. rw (fixed i there) (floor-le-ceil (pull (point_at points i) lo) (total_weight (point_at points i))))

pub returns-clause-lower : goal.returns-clause-lower
returns-clause-lower c = lower

pub returns-clause-upper : goal.returns-clause-upper
returns-clause-upper c = upper

pub returns-clause-encloses : goal.returns-clause-encloses
returns-clause-encloses c = λ points lo hi d z valid chains h k exact. between points lo hi d z valid chains (lower points lo valid h) (upper points hi valid k) exact
