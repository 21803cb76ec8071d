use Rattle.std.proofs.Common.{rules, sym, ◌∙◌}
use Rattle.relax_table.proofs.Moves.{renews_up_allowed, renews_down_allowed}
use Rattle.relax_table.proofs.table.SideTable.fetch.Goals as goal

pub fetch_max-requires : goal.fetch_max-requires
fetch_max-requires g c = (
  search rules,
  search rules,
  renews_up_allowed g.D.Direction.side _ _ _ _ _ _ _ (sym c.side.ensures ∙ c.in-Floor.is) (search rules) c.requires.own.2 c.requires.mean,
)

pub fetch_min-requires : goal.fetch_min-requires
fetch_min-requires g c = (
  search rules,
  search rules,
  renews_down_allowed g.D.Direction.side _ _ _ _ _ _ _ (sym c.side.ensures ∙ c.in-Ceil.is) (search rules) c.requires.own.2 c.requires.mean,
)
