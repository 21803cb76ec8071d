use Rattle.level_run.specs.Rounds.{rounds_in}
use Rattle.level_run.proofs.One.{Laws, Bounds, valid_at, encloses_at}
use Rattle.level_run.proofs.laws.levels_enclose.Goals as goal

pub returns-clause-valid : goal.returns-clause-valid
returns-clause-valid c = λ network rounds levels axis r net chains is within.
    let laws : Laws = record { shares = c.parts_share.ensures; homes = c.points_have_homes.ensures; least_there = c.least_vector.ensures.there; greatest_there = c.greatest_vector.ensures.there } in
    valid_at laws network net chains rounds.passes (rounds_in rounds) levels is axis r (rw is.many within)

pub returns-clause-encloses : goal.returns-clause-encloses
returns-clause-encloses c = λ network rounds levels axis r net chains is within.
    let laws : Laws = record { shares = c.parts_share.ensures; homes = c.points_have_homes.ensures; least_there = c.least_vector.ensures.there; greatest_there = c.greatest_vector.ensures.there } in
    let bounds : Bounds = record { lower_fixed = c.least_vector.ensures.fixed; upper_fixed = c.greatest_vector.ensures.fixed; ordered = c.enclosure.ensures.ordered; lower = c.enclosure.ensures.lower; upper = c.enclosure.ensures.upper; encloses = c.enclosure.ensures.encloses } in
    encloses_at laws network net chains bounds rounds.passes (rounds_in rounds) levels is axis r (rw is.many within)
