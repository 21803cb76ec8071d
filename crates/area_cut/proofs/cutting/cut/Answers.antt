use Rattle.std.proofs.Common.{◌≡◌, ◌<◌, ℕ, List, length, get_or, take, sym, ◌∙◌, ap, subst, arith}
use Rattle.std.proofs.lemmas.List.{take_all}
use Rattle.area_cut.specs.declared.region.Region.{Region}
use Rattle.area_cut.specs.Cut.{area_of, cut_of}
use Rattle.area_cut.specs.Regions.{ArePartition}
use Rattle.area_cut.proofs.Partitions.{are_points, area_within, cut_keeps_partition}
use Rattle.area_cut.proofs.cutting.cut.Goals as goal

pub divide-requires-clause-there : goal.divide-requires-clause-there
divide-requires-clause-there c =
    let lent = c.as_slice-region-items.ensures.regions in
    let k = c.loop-region.region-index in
    let item = c.region-item.result in
    let is : item ≡ get_or c.args.regions.now k item = c.region-item.is ∙ ap (λ (rs : List Region). get_or rs k item) lent in
    let many = ap length lent in
    subst (λ (r : Region). (j d : ℕ) → j < length r.points → get_or r.points j d < length c.args.areas.now) (sym is) (are_points (length c.args.areas.now) c.args.regions.now k item c.requires.partition (omega arith))

pub divide-requires-clause-fits : goal.divide-requires-clause-fits
divide-requires-clause-fits c =
    let lent = c.as_slice-region-items.ensures.regions in
    let k = c.loop-region.region-index in
    let item = c.region-item.result in
    let is : item ≡ get_or c.args.regions.now k item = c.region-item.is ∙ ap (λ (rs : List Region). get_or rs k item) lent in
    let many = ap length lent in
    let same = ap (λ (r : Region). area_of c.args.areas.now r.points) is in
    let within = area_within c.args.areas.now c.args.regions.now k item c.requires.partition (omega arith) in
    let fits = c.requires.fits in
    omega arith

pub returns-clause-partition : goal.returns-clause-partition
returns-clause-partition c =
    let items = c.as_slice-region-items.result.now in
    let areas = c.args.areas.now in
    let lent = c.as_slice-region-items.ensures.regions in
    let all : take c.loop-region.region-index items ≡ items = take_all c.loop-region.region-index items (omega arith) in
    subst (ArePartition (length areas)) (sym (c.loop-region.invariant ∙ ap (cut_of areas c.args.xs.now c.args.ys.now) (all ∙ lent)))
    (cut_keeps_partition (length areas) areas c.args.xs.now c.args.ys.now c.args.regions.now c.requires.partition)
