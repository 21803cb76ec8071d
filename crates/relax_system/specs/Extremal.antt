-- The least and the greatest vector, extremal among all vectors of the boxes.
use Rattle.std.specs.Prelude.{ℕ, List}
use Rattle.relax_system.specs.declared.points.Point.{Point}
use Rattle.relax_system.specs.Means.{InBoxes, AtMost, IsPreFixed, IsPostFixed}

-- the pre-fixed vector of the boxes that is at most each pre-fixed vector of the boxes
pub record IsLeast (points : List Point) (v : List ℕ) : Type 0 where
  pub in_boxes : InBoxes points v
  pub pre_fixed : IsPreFixed points v
  pub least : (u : List ℕ) → InBoxes points u → IsPreFixed points u → AtMost v u

-- the post-fixed vector of the boxes that is at least each post-fixed vector of the boxes
pub record IsGreatest (points : List Point) (v : List ℕ) : Type 0 where
  pub in_boxes : InBoxes points v
  pub post_fixed : IsPostFixed points v
  pub greatest : (u : List ℕ) → InBoxes points u → IsPostFixed points u → AtMost u v
