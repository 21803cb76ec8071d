use Rattle.std.proofs.Common.{ℕ, ◌<◌, ◌∷◌, ◌++◌, [], List, length, get_or, sym, ◌∙◌, ap, subst, arith}
use Rattle.std.proofs.lemmas.List.{append_assoc}
use Rattle.std.proofs.lemmas.Result.{on_ok_weaker}
use Rattle.area_cut.specs.declared.order.Placed.{Placed}
use Rattle.area_cut.specs.declared.region.Region.{Region}
use Rattle.area_cut.specs.Regions.{IsGood}
use Rattle.area_cut.specs.Cut.{area_of, below, above, line_of, first_points}
use Rattle.area_cut.specs.Forms.Placed.{numbers_of}
use Rattle.area_cut.proofs.Goods.{first_good, second_good}
use Rattle.area_cut.proofs.Halving.{there_in_order, many_in_order, many_numbers, total_in_order, has_two, part_of_total, halved}
use Rattle.area_cut.proofs.cutting.halve.Goals as goal

pub first_part-count-requires : goal.first_part-count-requires
first_part-count-requires c =
    let slice = c.as_slice-points.ensures in
    let order = c.put_in_order.new.order.items in
    let moved = c.in_ok-put_in_order.ensures.order.same in
    let two = has_two c.args.region.now c.args.axis c.requires.axis in
    let many = many_in_order c.as_slice-points.result.now order moved in
    let there = subst (λ (ps : List ℕ). (k d : ℕ) → k < length ps → get_or ps k d < length c.args.areas.now) (sym slice) c.requires.there in
    let points = ap length slice in
    let walked = c.deref.ensures.value in
    let total = total_in_order c.args.areas.now c.as_slice-points.result.now order moved in
    record {
      there = subst (λ (ps : List Placed). (k : ℕ) (d : Placed) → k < length ps → (get_or ps k d).point < length c.args.areas.now) (sym walked) (there_in_order (length c.args.areas.now) c.as_slice-points.result.now order moved there);
      some = let n = ap length walked in omega arith;
      total = c.area_of-total.ensures ∙ sym total ∙ ap (λ (ps : List Placed). area_of c.args.areas.now (numbers_of ps)) (sym walked);
    }

pub line_at-line-requires-clause-part : goal.line_at-line-requires-clause-part
line_at-line-requires-clause-part c =
    let order = c.put_in_order.new.order.items in
    let total = total_in_order c.args.areas.now c.as_slice-points.result.now order c.in_ok-put_in_order.ensures.order.same in
    let part = part_of_total c.args.areas.now (numbers_of c.deref.result.now) c.first_part-count.result.0 in
    let area = c.first_part-count.ensures.area in
    let sum = c.area_of-total.ensures in
    let walked = ap (λ (ps : List Placed). area_of c.args.areas.now (numbers_of ps)) c.deref.ensures.value in
    omega arith

pub split-requires-clause-count : goal.split-requires-clause-count
split-requires-clause-count c =
    let order = c.put_in_order.new.order.items in
    let walked = ap (λ (ps : List Placed). length (numbers_of ps)) c.deref.ensures.value in
    let numbers = many_numbers order in
    let many = many_in_order c.as_slice-points.result.now order c.in_ok-put_in_order.ensures.order.same in
    let short = c.first_part-count.ensures.count.short in
    omega arith

pub push-requires : goal.push-requires
push-requires c =
    let region = c.args.region.now in
    let h = halved c.args.areas.now c.args.mids.now c.args.axis region c.as_slice-points.result.now c.put_in_order.new.order.items c.deref.result.now c.index-last.result.now c.first_part-count.result.0 c.first_part-count.result.1 c.area_of-total.result c.low-low.result c.high.result c.line_at-line.result c.in_ok-first.first c.in_ok-first.second
    c.as_slice-points.ensures c.deref.ensures.value c.in_ok-put_in_order.ensures.order c.first_part-count.ensures.count c.area_of-total.ensures c.first_part-count.ensures.area c.index-last.ensures c.in_ok-first.ensures.first c.in_ok-first.ensures.second c.low-low.ensures c.high.ensures c.line_at-line.ensures.line in
    let is = c.below.ensures ∙ ap (λ (n : ℕ). below c.args.axis region n c.in_ok-first.first) h.line_is ∙ ap (λ (ps : List ℕ). below c.args.axis region (line_of c.args.areas.now c.args.mids.now c.args.axis region) ps) h.first_is in
    subst IsGood (sym is) (first_good c.args.areas.now c.args.mids.now c.args.axis region c.requires.good)

pub push-requires-2 : goal.push-requires-2
push-requires-2 c =
    let region = c.args.region.now in
    let h = halved c.args.areas.now c.args.mids.now c.args.axis region c.as_slice-points.result.now c.put_in_order.new.order.items c.deref.result.now c.index-last.result.now c.first_part-count.result.0 c.first_part-count.result.1 c.area_of-total.result c.low-low.result c.high.result c.line_at-line.result c.in_ok-first.first c.in_ok-first.second
    c.as_slice-points.ensures c.deref.ensures.value c.in_ok-put_in_order.ensures.order c.first_part-count.ensures.count c.area_of-total.ensures c.first_part-count.ensures.area c.index-last.ensures c.in_ok-first.ensures.first c.in_ok-first.ensures.second c.low-low.ensures c.high.ensures c.line_at-line.ensures.line in
    let is = c.above.ensures ∙ ap (λ (n : ℕ). above c.args.axis region n c.in_ok-first.second) h.line_is ∙ ap (λ (ps : List ℕ). above c.args.axis region (line_of c.args.areas.now c.args.mids.now c.args.axis region) ps) h.second_is in
    subst IsGood (sym is) (second_good c.args.areas.now c.args.mids.now c.args.axis region c.requires.good)

pub returns : goal.returns
returns c =
    let region = c.args.region.now in
    let h = halved c.args.areas.now c.args.mids.now c.args.axis region c.as_slice-points.result.now c.put_in_order.new.order.items c.deref.result.now c.index-last.result.now c.first_part-count.result.0 c.first_part-count.result.1 c.area_of-total.result c.low-low.result c.high.result c.line_at-line.result c.in_ok-first.first c.in_ok-first.second
    c.as_slice-points.ensures c.deref.ensures.value c.in_ok-put_in_order.ensures.order c.first_part-count.ensures.count c.area_of-total.ensures c.first_part-count.ensures.area c.index-last.ensures c.in_ok-first.ensures.first c.in_ok-first.ensures.second c.low-low.ensures c.high.ensures c.line_at-line.ensures.line in
    let line = line_of c.args.areas.now c.args.mids.now c.args.axis region in
    let one = c.below.ensures ∙ ap (λ (n : ℕ). below c.args.axis region n c.in_ok-first.first) h.line_is ∙ ap (λ (ps : List ℕ). below c.args.axis region line ps) h.first_is in
    let other = c.above.ensures ∙ ap (λ (n : ℕ). above c.args.axis region n c.in_ok-first.second) h.line_is ∙ ap (λ (ps : List ℕ). above c.args.axis region line ps) h.second_is in
    let first = below c.args.axis region line (first_points c.args.areas.now c.args.mids.now region.points) in
    on_ok_weaker c.push-2.result (λ pushed. pushed ∙ ap (λ (rs : List Region). rs ++ c.above.result ∷ []) c.in_ok-push.ensures ∙ append_assoc c.args.parts.now (c.below.result ∷ []) (c.above.result ∷ [])
    ∙ ap (λ (r : Region). c.args.parts.now ++ (r ∷ c.above.result ∷ [])) one ∙ ap (λ (r : Region). c.args.parts.now ++ (first ∷ r ∷ [])) other) c.push-2.ensures
