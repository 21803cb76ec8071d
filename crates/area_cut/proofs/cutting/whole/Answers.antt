use Rattle.std.proofs.Common.{◌≡◌, ℕ, ◌∷◌, ◌++◌, [], List, sym, ◌∙◌, ap, subst, arith}
use Rattle.std.specs.List.{range_with_len}
use Rattle.std.specs.List.Sorted.{IsStrictlyIncreasing}
use Rattle.area_cut.specs.declared.region.Region.{Region}
use Rattle.area_cut.specs.Regions.{ArePartition}
use Rattle.area_cut.proofs.Ranges.{range_more, range_rises}
use Rattle.area_cut.proofs.Partitions.{one_region}
use Rattle.area_cut.proofs.cutting.whole.Goals as goal

pub loop-point-preserved : goal.loop-point-preserved
loop-point-preserved c = c.in_ok-push.ensures ∙ ap (λ (ps : List ℕ). ps ++ c.loop-point.point ∷ []) c.loop-point.invariant ∙ sym (range_more c.loop-point.point)

pub push-requires-2 : goal.push-requires-2
push-requires-2 c = record { wide = c.requires.wide; high = c.requires.high; ascending = subst IsStrictlyIncreasing (sym c.loop-point.invariant) (range_rises c.loop-point.point) }

pub returns-clause-partition : goal.returns-clause-partition
returns-clause-partition c =
    let region : Region = record { xlo = c.args.xlo; xhi = c.args.xhi; ylo = c.args.ylo; yhi = c.args.yhi; points = c.loop-point.list } in
    let all : c.loop-point.point ≡ c.args.points = omega arith in
    subst (ArePartition c.args.points) (sym (c.in_ok-push-2.ensures ∙ ap (λ (rs : List Region). rs ++ region ∷ []) c.new-regions.ensures))
    (one_region c.args.points region (c.loop-point.invariant ∙ ap (range_with_len 0) all))
