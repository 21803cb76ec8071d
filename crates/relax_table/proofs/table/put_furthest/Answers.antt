use Rattle.std.proofs.Common.{◌≡◌, ◌<◌, length, arith}
use Rattle.std.proofs.lemmas.List.{get_or_read}
use Rattle.std.specs.List.{slice_index}
use Rattle.relax_system.specs.Sides.{further_of}
use Rattle.relax_table.proofs.Vectors.{put_more, put_all}
use Rattle.relax_table.proofs.table.put_furthest.Goals as goal

pub loop-i-preserved : goal.loop-i-preserved
loop-i-preserved g c =
    let there : c.loop-i.i < length c.loop-i.seen.items = omega (arith, c.loop-i.invariant.all, c.requires) in
    let here : c.further.result ≡ further_of g.D.Direction.side (slice_index c.loop-i.seen.items c.loop-i.i) (slice_index c.args.others.now c.loop-i.i) =
    cc (c.further.ensures, c.side.ensures, get_or_read c.loop-i.seen.items _ _ there c.index.ensures 0) in
    put_more g.D.Direction.side c.args.seen.now.items c.args.others.now c.loop-i.seen.items c.loop-i.i c.further.result c.loop-i.invariant there here

pub returns : goal.returns
returns g c = put_all g.D.Direction.side c.args.seen.now.items c.args.others.now c.loop-i.seen.items c.loop-i.i c.requires (omega arith) c.loop-i.invariant
