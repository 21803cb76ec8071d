use Rattle.std.proofs.Common.{length}
use Rattle.net_model.specs.Values.{point_values}
use Rattle.net_model.specs.Forms.Steps.{IsUnmarked}
use Rattle.net_model.specs.Forms.Stars.{AreStarredTo}
use Rattle.net_model.proofs.starring.join_stars.Given as goal

abbrev pub invariant-loop-n : goal.invariant-loop-n
invariant-loop-n l = record {
  unmarked : IsUnmarked (length l.design.nodes) l.clique.seen.items;
  starred : AreStarredTo l.design l.n-index (point_values l.fn.points.items) (point_values l.points.items);
}
