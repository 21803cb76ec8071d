use Rattle.std.proofs.Common.{ℕ, ◌+◌, List, arith, sym}
use Rattle.pad_reach.specs.Chain.{joint_at}
use Rattle.pad_reach.proofs.Entries.{count_in-none, count_in-yes, count_in-take-le, count_in-le-length, counted-more}
use Rattle.pad_reach.proofs.in_neighbours.count_entries.Goals as goal

pub loop-k-init : goal.loop-k-init
loop-k-init g c = λ q _. omega (arith, count_in-none q (joint_at (g.W.Web.joints c.args.web.now) c.args.i).near)

pub overflow_add-counts : goal.overflow_add-counts
overflow_add-counts g c =
    let near : List ℕ = (joint_at (g.W.Web.joints c.args.web.now) c.args.i).near in
    let t = c.neighbour.result in
    let k = c.loop-k.k in
    omega (arith, c.requires.room t (omega arith), c.loop-k.invariant t (omega arith), count_in-yes t near k (omega arith) (sym c.neighbour.ensures.value), count_in-take-le t near (k + 1), count_in-le-length t near)

pub loop-k-preserved : goal.loop-k-preserved
loop-k-preserved g c =
    counted-more c.args.counts.now c.loop-k.counts _ c.loop-k.k c.neighbour.result (omega arith) c.neighbour.ensures.value (omega arith) c.loop-k.invariant
