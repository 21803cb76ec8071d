use Rattle.std.proofs.Common.{◌≡◌, length, get_or, ap, arith}
use Rattle.std.proofs.lemmas.List.{length-map}
use Rattle.net_model.specs.declared.point.NetPoint.{NetPoint}
use Rattle.net_model.specs.Values.{point_entry, point_values}
use Rattle.net_model.specs.Forms.Steps.{IsUnsummed, summed}
use Rattle.net_model.proofs.MakingPoints.{AreSummed, unsummed_at, all_there, all_positive, summed_more}
use Rattle.net_model.proofs.making.merge_entries.Goals as goal

pub merge-requires : goal.merge-requires
merge-requires c =
    let points = c.args.points.now in
    let i = c.loop-point.point-index in
    let point = point_entry (get_or c.loop-point.points i c.point-item.result) in
    let before : AreSummed (length points) (point_values points) (point_values c.loop-point.points) i = record { same = c.loop-point.invariant; inside = omega (arith, length-map points point_entry, c.loop-point-test.true) } in
    let unsummed : IsUnsummed (length points) point = unsummed_at (length points) (point_values points) c.loop-point.points i c.point-item.result before c.requires in
    record { fits = omega (arith, unsummed.light); weighty = all_positive (length points) point unsummed }

pub loop-point-preserved : goal.loop-point-preserved
loop-point-preserved c =
    let points = c.args.points.now in
    let i = c.loop-point.point-index in
    let point : NetPoint = get_or c.loop-point.points i c.point-item.result in
    let before : AreSummed (length points) (point_values points) (point_values c.loop-point.points) i = record { same = c.loop-point.invariant; inside = omega (arith, length-map points point_entry, c.loop-point-test.true) } in
    let unsummed = unsummed_at (length points) (point_values points) c.loop-point.points i c.point-item.result before c.requires in
    let merged = c.merge.ensures (length points) (all_there (length points) (point_entry point) unsummed) in
    let same : point_entry (record { near = c.merge.new.near; pins = point.pins; area = point.area }) ≡ summed (length points) (point_entry point) = ap (λ near. record { near = near; pins = point.pins.items; area = point.area }) merged in
    summed_more (length points) (point_values points) c.loop-point.points i c.point-item.result (record { near = c.merge.new.near; pins = point.pins; area = point.area }) before same
