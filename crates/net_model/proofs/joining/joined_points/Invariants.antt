use Rattle.std.proofs.Common.{take, length}
use Rattle.book_design.specs.Nets.{net_values}
use Rattle.net_model.specs.Values.{point_values}
use Rattle.net_model.specs.Forms.Steps.{IsUnmarked, AreJoined}
use Rattle.net_model.proofs.joining.joined_points.Given as goal

abbrev pub invariant-loop-n : goal.invariant-loop-n
invariant-loop-n l = record {
  unmarked : IsUnmarked (length l.design.nodes) l.clique.seen.items;
  joined : AreJoined l.design (take l.n (net_values l.net-items)) (point_values l.points.items);
}
