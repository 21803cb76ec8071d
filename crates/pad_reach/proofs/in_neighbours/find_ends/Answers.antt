use Rattle.std.proofs.Common.{List, take, arith, sym}
use Rattle.pad_reach.specs.Chain.{Joint}
use Rattle.pad_reach.proofs.Entries.{entries_to-none, entries_to-more, entries_to-le-entries, entries-none, entries-more, entries-more-le, sum-counts-le, AreEnds-summed}
use Rattle.pad_reach.proofs.in_neighbours.find_ends.Goals as goal

pub loop-i-init : goal.loop-i-init
loop-i-init g c =
    let web : List Joint = g.W.Web.joints c.args.web.now in
    record { counted = λ q h. omega (arith, c.requires.none q h, entries_to-none q web); sum = sym (entries-none web); fits = omega arith }

pub returns-in_err-total-clause-total : goal.returns-in_err-total-clause-total
returns-in_err-total-clause-total g c =
    let web : List Joint = g.W.Web.joints c.args.web.now in
    let more = entries-more-le web c.loop-i.i (omega arith) in
    rw c.from_residual.ensures (omega (arith, more, c.in_err-total.ensures))

pub count_entries-requires-clause-room : goal.count_entries-requires-clause-room
count_entries-requires-clause-room g c = λ q h.
    let web : List Joint = g.W.Web.joints c.args.web.now in
    omega (arith, c.in_ok-total.ensures, c.loop-i.invariant.counted q h, entries_to-le-entries q (take c.loop-i.i web))

pub loop-i-preserved : goal.loop-i-preserved
loop-i-preserved g c =
    let web : List Joint = g.W.Web.joints c.args.web.now in
    record {
      counted = λ q h. omega (arith, c.count_entries.ensures q h, c.loop-i.invariant.counted q (omega arith), entries_to-more q web c.loop-i.i (omega arith));
      sum = omega (arith, c.in_ok-total.ensures, entries-more web c.loop-i.i (omega arith));
      fits = omega (arith, c.in_ok-total.ensures);
    }

pub add_up-requires : goal.add_up-requires
add_up-requires g c =
    let web : List Joint = g.W.Web.joints c.args.web.now in
    omega (arith, sum-counts-le web c.loop-i.i (omega arith) c.loop-i.ends (omega arith) c.loop-i.invariant.counted)

pub returns-clause-found : goal.returns-clause-found
returns-clause-found g c =
    let web : List Joint = g.W.Web.joints c.args.web.now in
    AreEnds-summed web c.loop-i.i (omega arith) c.loop-i.ends (omega arith) c.loop-i.invariant.counted c.add_up.new.counts (omega arith) c.add_up.ensures
