use Rattle.std.proofs.Common.{◌≡◌, ◌++◌, ◌∷◌, [], List, get_or, length, sym, ◌∙◌, ap, ap₂, arith}
use Rattle.std.proofs.lemmas.List.{take_all, take_more}
use Rattle.area_cut.specs.declared.region.Region.{Region}
use Rattle.area_cut.proofs.cutting.copy_of.Goals as goal

pub returns : goal.returns
returns c =
    let lent = c.as_slice-region-items.ensures.regions in
    let many = ap length lent in
    c.loop-region.invariant ∙ take_all c.loop-region.region-index c.args.regions.now (omega arith)

pub loop-region-preserved : goal.loop-region-preserved
loop-region-preserved c =
    let lent = c.as_slice-region-items.ensures.regions in
    let many = ap length lent in
    let k = c.loop-region.region-index in
    let item = c.region-item.result in
    let is : item ≡ get_or c.args.regions.now k item = c.region-item.is ∙ ap (λ (rs : List Region). get_or rs k item) lent in
    c.in_ok-keep.ensures ∙ ap₂ (λ (a : List Region) (r : Region). a ++ r ∷ []) c.loop-region.invariant is ∙ sym (take_more c.args.regions.now k item (omega arith))
