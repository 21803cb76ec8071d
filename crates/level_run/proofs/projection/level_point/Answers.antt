use Rattle.std.proofs.Common.{◌≡◌, List, length, get_or, ◌∙◌, ap, arith}
use Rattle.std.specs.Prelude.{map, sum_by}
use Rattle.std.proofs.lemmas.List.Elements.{All-get_or}
use Rattle.relax_system.specs.declared.valid.TheConstants.{MOST_COORDINATE}
use Rattle.area_cut.specs.declared.region.Region.{Region}
use Rattle.area_cut.specs.Regions.{IsGood, IsWithin, no_region, home_of, region_of}
use Rattle.net_model.specs.declared.parts.Near.{Near}
use Rattle.net_model.specs.declared.parts.FixedPin.{FixedPin}
use Rattle.net_model.specs.Values.{point_at}
use Rattle.level_run.specs.LevelSystem.{inside, outside, near_pull, pin_pull, as_neighbour}
use Rattle.level_run.proofs.Constants.{range_of, weights_split}
use Rattle.level_run.proofs.Outer.{region_is, outer_whole, pins_whole, is_level_point}
use Rattle.level_run.proofs.projection.level_point.Goals as goal

pub overflow_add-result : goal.overflow_add-result
overflow_add-result c =
    let regions = c.args.regions.now in
    let own = point_at c.args.network.now.points c.args.p in
    let outer = c.in_ok-parts.ensures.anchor
    ∙ ap (λ (rs : List Region). sum_by (λ (n : Near). n.weight) (outside rs c.args.p c.near.result.now)) c.as_slice-regions.ensures.regions
    ∙ ap (λ (ns : List Near). sum_by (λ (n : Near). n.weight) (outside regions c.args.p ns)) c.near.ensures.near in
    let fixed = c.pin_constants-fixed.ensures.anchor ∙ ap (sum_by (λ (pin : FixedPin). pin.weight)) c.pins.ensures.pins in
    let split = weights_split regions c.args.p own.near in
    let light = (c.pins.ensures.valid.each c.args.p c.requires.there).light in
    omega arith

pub overflow_add-result-2 : goal.overflow_add-result-2
overflow_add-result-2 c =
    let regions = c.args.regions.now in
    let own = point_at c.args.network.now.points c.args.p in
    let region = region_of regions c.args.p in
    let outer = c.in_ok-parts.ensures.pull
    ∙ ap (λ (rs : List Region). near_pull c.args.axis rs c.args.mids.now (region_of rs c.args.p) (outside rs c.args.p c.near.result.now)) c.as_slice-regions.ensures.regions
    ∙ ap (λ (ns : List Near). near_pull c.args.axis regions c.args.mids.now region (outside regions c.args.p ns)) c.near.ensures.near in
    let read : c.index-regions-homes.result ≡ get_or regions (get_or c.args.homes.now c.args.p 0) c.index-regions-homes.result = c.index-regions-homes.is ∙ ap (λ (rs : List Region). get_or rs (get_or c.args.homes.now c.args.p 0) c.index-regions-homes.result) c.as_slice-regions.ensures.regions in
    let here = region_is (length c.args.network.now.points) regions c.args.homes.now c.args.p c.index-regions-homes.result c.requires.homes c.requires.there read in
    let fixed = c.pin_constants-fixed.ensures.pull ∙ ap (pin_pull c.args.axis c.index-regions-homes.result) c.pins.ensures.pins ∙ ap (λ (r : Region). pin_pull c.args.axis r own.pins) here in
    let home = c.requires.homes.there c.args.p c.requires.there in
    let range = range_of c.args.axis region (All-get_or IsGood regions (home_of regions c.args.p) no_region home c.as_slice-regions.ensures.good) (All-get_or (IsWithin MOST_COORDINATE) regions (home_of regions c.args.p) no_region home c.requires.ends) in
    let light = (c.pins.ensures.valid.each c.args.p c.requires.there).light in
    let one = outer_whole c.args.axis regions c.args.mids.now c.args.p own.near range (omega arith) in
    let other = pins_whole c.args.axis region own.pins range (omega arith) in
    let a = one.pull in
    let b = other.pull in
    omega arith

pub returns : goal.returns
returns c =
    let regions = c.args.regions.now in
    let network = c.args.network.now in
    let own = point_at network.points c.args.p in
    let region = region_of regions c.args.p in
    let good = c.pins.ensures.valid.each c.args.p c.requires.there in
    let read : c.index-regions-homes.result ≡ get_or regions (get_or c.args.homes.now c.args.p 0) c.index-regions-homes.result = c.index-regions-homes.is ∙ ap (λ (rs : List Region). get_or rs (get_or c.args.homes.now c.args.p 0) c.index-regions-homes.result) c.as_slice-regions.ensures.regions in
    let here = region_is (length network.points) regions c.args.homes.now c.args.p c.index-regions-homes.result c.requires.homes c.requires.there read in
    let near = c.in_ok-parts.ensures.variables
    ∙ ap (λ (rs : List Region). map as_neighbour (inside rs c.args.p c.near.result.now)) c.as_slice-regions.ensures.regions
    ∙ ap (λ (ns : List Near). map as_neighbour (inside regions c.args.p ns)) c.near.ensures.near in
    let outer = c.in_ok-parts.ensures.anchor
    ∙ ap (λ (rs : List Region). sum_by (λ (n : Near). n.weight) (outside rs c.args.p c.near.result.now)) c.as_slice-regions.ensures.regions
    ∙ ap (λ (ns : List Near). sum_by (λ (n : Near). n.weight) (outside regions c.args.p ns)) c.near.ensures.near in
    let outer_sum = c.in_ok-parts.ensures.pull
    ∙ ap (λ (rs : List Region). near_pull c.args.axis rs c.args.mids.now (region_of rs c.args.p) (outside rs c.args.p c.near.result.now)) c.as_slice-regions.ensures.regions
    ∙ ap (λ (ns : List Near). near_pull c.args.axis regions c.args.mids.now region (outside regions c.args.p ns)) c.near.ensures.near in
    let fixed = c.pin_constants-fixed.ensures.anchor ∙ ap (sum_by (λ (pin : FixedPin). pin.weight)) c.pins.ensures.pins in
    let fixed_sum = c.pin_constants-fixed.ensures.pull ∙ ap (pin_pull c.args.axis c.index-regions-homes.result) c.pins.ensures.pins in
    is_level_point c.args.axis network regions c.args.mids.now c.args.p c.low.result c.high.result c.in_ok-parts.parts.anchor c.in_ok-parts.parts.pull c.pin_constants-fixed.result.0 c.pin_constants-fixed.result.1 c.in_ok-parts.parts.variables c.index-regions-homes.result
    here c.low.ensures c.high.ensures near outer outer_sum fixed fixed_sum
