use Rattle.std.proofs.Common.{◌∙◌}
use Rattle.net_model.specs.Values.{point_values}
use Rattle.net_model.proofs.MakingNetwork.{joined_many, given_unsummed, summed_items}
use Rattle.net_model.proofs.making.summed_points.Goals as goal

pub join_stars-requires : goal.join_stars-requires
join_stars-requires c = record {
  unmarked = c.in_ok-points.ensures.unmarked;
  stars = c.deref.ensures.value ∙ c.requires.counted.stars;
  counted = joined_many c.args.design.now c.in_ok-points.points.items c.in_ok-points.ensures.joined;
}

pub merge_entries-requires : goal.merge_entries-requires
merge_entries-requires c =
    given_unsummed c.args.design.now (point_values c.in_ok-points.points.items) c.join_stars.new.points.items c.deref_mut.result.now c.requires.valid c.in_ok-points.ensures.joined c.in_ok-join_stars.ensures c.deref_mut.ensures.value

pub returns : goal.returns
returns c =
    summed_items c.args.design.now (point_values c.in_ok-points.points.items) c.join_stars.new.points c.deref_mut.result.now c.merge_entries.new.points c.requires.valid c.in_ok-points.ensures.joined c.in_ok-join_stars.ensures c.deref_mut.ensures.value c.deref_mut.ensures.len c.merge_entries.auto.points
    c.merge_entries.ensures
