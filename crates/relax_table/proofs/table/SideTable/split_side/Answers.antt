use Rattle.std.proofs.Common.{rules}
use Rattle.std.proofs.lemmas.List.Elements.{same_from_all_zip}
use Rattle.relax_table.proofs.Moves.{splits_allowed}
use Rattle.relax_table.proofs.Seated.{held_sprout}
use Rattle.relax_table.proofs.table.SideTable.split_side.Goals as goal

pub split_seat-other-requires : goal.split_seat-other-requires
split_seat-other-requires g c = (search rules, search rules, splits_allowed g.D.Direction.side _ _ _ _ c.seat.invariant.1.unspent)

pub invariant_of-result : goal.invariant_of-result
invariant_of-result g c = (search rules, held_sprout g.D.Direction.side _ _ c.seat.inside.seat.me.0 _ _ _ _ _ c.seat.invariant.1 (same_from_all_zip _ c.seat.inside.seen.items c.in_ok-seen.seen.items c.in_ok-seen.ensures.cases.0 (λ x y h. search rules)) (search rules))
