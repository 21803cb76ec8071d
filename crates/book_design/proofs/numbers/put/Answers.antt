use Rattle.std.proofs.lemmas.Map.Text.{btree_map_updates_str}
use Rattle.book_design.proofs.numbers.put.Goals as goal

pub returns-clause-after : goal.returns-clause-after
returns-clause-after c = btree_map_updates_str c.args.name.now c.args.numbers.now c.insert.new.self _ c.in_ok-insert.ensures.updates
