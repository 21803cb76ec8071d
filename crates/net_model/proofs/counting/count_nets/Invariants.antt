use Rattle.std.proofs.Common.{◌≡◌, length}
use Rattle.net_model.specs.Forms.Steps.{IsUnmarked}
use Rattle.net_model.proofs.CountingTerms.{AreCounted}
use Rattle.net_model.proofs.counting.count_nets.Given as goal

abbrev pub invariant-loop-n : goal.invariant-loop-n
invariant-loop-n l = record {
  unmarked : IsUnmarked (length l.design.nodes) l.clique.seen.items;
  counted : AreCounted l.design l.n l.count.terms l.count.stars.items;
  rooms : length l.count.rooms.items ≡ length l.design.nodes;
}
